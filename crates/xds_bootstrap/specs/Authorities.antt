-- The authorities of a bootstrap (gRFC A47).
use Rattle.std.specs.Prelude.{◌≡◌, ℕ, ◌+◌, ◌≤◌, List, [], take, drop, length, map, Option, option_map, Some, slice_get}
use Rattle.std.specs.Cmp.Lexicographic.{slice_cmp}
use Rattle.std.specs.List.{position}
use Rattle.std.specs.List.Sorted.{IsStrictlySortedBy}
use Rattle.std.specs.Ordering.{nat_cmp}
use Rattle.std.specs.Str.{bytes_eq}
use Rattle.xc_base.specs.declared.names.Authority.{Authority}
use Rattle.xds_bootstrap.specs.declared.bootstrap.AuthorityEntry.{AuthorityEntry}

-- those that have a name: at most 65,534, after the default one
abbrev pub named : List AuthorityEntry → List AuthorityEntry
named entries = take 65534 (drop 1 entries)

-- the place of the first entry of this name
unfoldable pub place_among : List AuthorityEntry → List ℕ → Option ℕ
place_among entries name = position (λ entry. bytes_eq entry.name name) entries

-- the authority of this name, if there is one; the default one is no authority by name
unfoldable pub authority_of : List AuthorityEntry → List ℕ → Option Authority
authority_of entries name = option_map (λ place. record { 0 = place + 1 }) (place_among (named entries) name)

-- the default authority, and after it at most 65,534 named ones in strictly rising order of their names
pub record AreAuthorities (entries : List AuthorityEntry) : Type 0 where
  pub unnamed : option_map (λ entry. entry.name) (slice_get entries 0) ≡ Some []
  pub few : length entries ≤ 65535
  pub rising : IsStrictlySortedBy (slice_cmp nat_cmp) (map (λ entry. entry.name) (drop 1 entries))
