-- A name is found among entries whose names rise.
use Rattle.std.proofs.Common.{◌≡◌, ◌∷◌, option_map, ℕ, ◌⊎◌, inl, inr, [], ◌+◌, ◌≤◌, ◌<◌, List, length, drop, get_or, map, Bool, false, ltb, Some, None, Result, Ok, Err, refl, sym, ap, ◌∙◌, arith, length-drop, Ordering, Less, Equal, Greater}
use Rattle.std.specs.Cmp.Lexicographic.{slice_cmp}
use Rattle.std.specs.List.{position_or_len, slice_get}
use Rattle.std.specs.List.Sorted.{IsStrictlySortedBy, IsSearchInRange, IsBinarySearchResult, IsNonDecreasingBy}
use Rattle.std.specs.Ordering.{nat_cmp, is_lt, is_eq, ordering_index, ordering_reverse}
use Rattle.std.specs.Result.{result_ok}
use Rattle.std.specs.Str.{bytes_eq}
use Rattle.std.proofs.lemmas.Bool.{cases_lt, lt-ltb}
use Rattle.std.proofs.lemmas.Bool.Decides.{nat_tests}
use Rattle.std.proofs.lemmas.Cmp.{alike_right, nat_list_cmp_total}
use Rattle.std.proofs.lemmas.List.{get_or-map, length-map, take_all}
use Rattle.std.proofs.lemmas.List.Sorted.{searchable_from_sorted}
use Rattle.std.proofs.lemmas.List.Sums.{position_or_len_is}
use Rattle.std.proofs.lemmas.Map.Keys.{Less-from_sorted}
use Rattle.std.proofs.lemmas.Map.Text.{is_eq-slice_cmp}
use Rattle.xds_bootstrap.specs.Authorities.{AreAuthorities, named, place_among}
use Rattle.xds_bootstrap.specs.declared.bootstrap.AuthorityEntry.{AuthorityEntry}

abbrev by_bytes : List ℕ → List ℕ → Ordering
by_bytes = slice_cmp nat_cmp

abbrev pub compared : List ℕ → AuthorityEntry → Ordering
compared name entry = slice_cmp nat_cmp entry.name name

abbrev has : List ℕ → AuthorityEntry → Bool
has name entry = bytes_eq entry.name name

no_entry : AuthorityEntry
no_entry = record { name = []; server_uri = []; template = [] }

-- what a comparison says of the name
has_by : (name : List ℕ) (entry : AuthorityEntry) (o : Ordering) → compared name entry ≡ o → has name entry ≡ is_eq o
has_by name entry o is = sym (is_eq-slice_cmp entry.name name) ∙ ap is_eq is

-- the place at which the first entry of the name stands
at_place : (entries : List AuthorityEntry) (name : List ℕ) (place : ℕ) → position_or_len (has name) entries ≡ place → place < length entries → Some place ≡ place_among entries name
unfolding place_among
at_place entries name place is lt = rw (is, lt-ltb place (length entries) lt) refl

no_place : (entries : List AuthorityEntry) (name : List ℕ) → position_or_len (has name) entries ≡ length entries → None ≡ place_among entries name
unfolding place_among
no_place entries name is =
    let t : ltb (length entries) (length entries) ≡ false = grind (arith, nat_tests) in
    rw (is, t) refl

module _ (entries : List AuthorityEntry) (name : List ℕ) (rising : IsStrictlySortedBy (slice_cmp nat_cmp) (map (λ entry. entry.name) entries)) where
  -- an entry is below each later one
  below : (i j : ℕ) (d : AuthorityEntry) → i < j → j < length entries → by_bytes (get_or entries i d).name (get_or entries j d).name ≡ Less
  below i j d lt within =
      let same = length-map entries (λ (entry : AuthorityEntry). entry.name) in
      let is = Less-from_sorted by_bytes (map (λ entry. entry.name) entries) i j d.name rising lt (omega (arith, within, same)) in
      rw (get_or-map (λ (entry : AuthorityEntry). entry.name) entries i d d.name (omega (arith, lt, within)), get_or-map (λ (entry : AuthorityEntry). entry.name) entries j d d.name within) at is

  -- so the comparisons with a name rise
  comparisons_rise : IsNonDecreasingBy (λ entry. ordering_index (compared name entry)) entries
  comparisons_rise = searchable_from_sorted nat_list_cmp_total (λ (entry : AuthorityEntry). entry.name) entries name
      (λ k d least within.
      let is = below k (k + 1) d (omega arith) within in
      let back = nat_list_cmp_total.antisymm (get_or entries (k + 1) d).name (get_or entries k d).name in
      ap is_lt (back ∙ ap ordering_reverse is))

  -- no entry before one of the name has it
  none_before : (place k : ℕ) → compared name (get_or entries place no_entry) ≡ Equal → place < length entries → k < place → has name (get_or entries k no_entry) ≡ false
  none_before place k is within lt =
      let same = alike_right nat_list_cmp_total (get_or entries place no_entry).name name (get_or entries k no_entry).name is in
      has_by name (get_or entries k no_entry) Less (sym same ∙ below k place no_entry lt within)

  pub searched : (r : Result ℕ ℕ) → IsSearchInRange r (length entries) → IsBinarySearchResult (compared name) entries r → result_ok r ≡ place_among entries name
  searched (Ok place) within equal =
      at_place entries name place
      (position_or_len_is (has name) entries place no_entry (omega (arith, within)) (λ k lt. none_before place k (equal no_entry) within lt)
      (λ lt. has_by name (get_or entries place no_entry) Equal (equal no_entry)))
      within
  searched (Err place) within parted =
      no_place entries name
      (position_or_len_is (has name) entries (length entries) no_entry (omega arith) (λ k lt. none k lt (cases_lt k place)) (λ lt. absurd (omega (arith, lt))))
    where
      none : (k : ℕ) → k < length entries → (k < place) ⊎ (place ≤ k) → has name (get_or entries k no_entry) ≡ false
      none k lt (inl before) = has_by name (get_or entries k no_entry) Less ((parted comparisons_rise).0 k no_entry (omega arith) before)
      none k lt (inr after) = has_by name (get_or entries k no_entry) Greater ((parted comparisons_rise).1 k no_entry after lt)

-- there is the default entry
some_name : (entries : List AuthorityEntry) → option_map (λ entry. entry.name) (slice_get entries 0) ≡ Some [] → 1 ≤ length entries
some_name [] is = absurd (cc is)
some_name (entry ∷ entries) is = omega arith

pub some_entry : (entries : List AuthorityEntry) → AreAuthorities entries → 1 ≤ length entries
some_entry entries are = some_name entries are.unnamed

-- the named entries are all but the first
pub named_is : (entries : List AuthorityEntry) → AreAuthorities entries → named entries ≡ drop 1 entries
named_is entries are =
    let few = are.few in
    let n = length-drop 1 entries in
    take_all 65534 (drop 1 entries) (omega (arith, few, n))
