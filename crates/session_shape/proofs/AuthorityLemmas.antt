-- An authority that a word names is one of the bootstrap.
use Rattle.std.proofs.Common.{◌≡◌, ℕ, zero, suc, not-suc-le-zero, ◌+◌, ◌≤◌, ◌<◌, List, [], ◌∷◌, length, take, drop, codes, Bool, true, false, cond, Option, Some, None, option_map, option_and_then, refl, sym, ap, ◌∙◌, arith, length-drop}
use Rattle.std.specs.List.{position, slice_get}
use Rattle.std.specs.Str.{bytes_eq}
use Rattle.std.proofs.lemmas.Option.{slice_get_within}
use Rattle.std.proofs.lemmas.List.Quantifiers.{position-Some}
use Rattle.xc_base.specs.declared.names.Authority.{Authority}
use Rattle.xds_bootstrap.specs.Authorities.{AreAuthorities, authority_of, named, place_among}
use Rattle.xds_bootstrap.specs.declared.bootstrap.AuthorityEntry.{AuthorityEntry}
use Rattle.xds_name.specs.NameTexts.{after}
use Rattle.session_lines.specs.WordValues.{authority_in, default}

-- there is the default one
some_entry : (entries : List AuthorityEntry) → AreAuthorities entries → 0 < length entries
some_entry [] are = absurd (cc are.unnamed)
some_entry (entry ∷ entries) are = omega arith

few_taken : {X : Type 0} (n : ℕ) (xs : List X) → length (take n xs) ≤ length xs
few_taken zero xs = omega arith
few_taken (suc n) [] = omega arith
few_taken (suc n) (x ∷ xs) = let few = few_taken n xs in omega (arith, few)

few_named : (most : ℕ) (entries : List AuthorityEntry) (place : ℕ) → place < length (take most (drop 1 entries)) → place + 1 < length entries
few_named most [] place lt = let few = few_taken {X = AuthorityEntry} most [] in let wrong : suc zero ≤ zero = omega (arith, lt, few) in absurd (not-suc-le-zero wrong)
few_named most (entry ∷ entries) place lt = let few = few_taken most entries in omega (arith, lt, few)

by_place : (entries : List AuthorityEntry) (found : Option ℕ) (a : Authority) → ((place : ℕ) → found ≡ Some place → place < length (named entries))
    → option_map (λ place. record { 0 = place + 1 }) found ≡ Some a → a.0 < length entries
by_place entries None a within is = absurd (cc is)
by_place entries (Some place) a within is =
    let same : place + 1 ≡ a.0 = cc is in
    let lt = few_named 65534 entries place (within place refl) in
    omega (arith, same, lt)

by_name : (entries : List AuthorityEntry) (name : List ℕ) (a : Authority) → authority_of entries name ≡ Some a → a.0 < length entries
unfolding authority_of place_among
by_name entries name a is =
    by_place entries (position (λ entry. bytes_eq entry.name name) (named entries)) a
    (λ place found. (position-Some (λ entry. bytes_eq entry.name name) (named entries) place (record { name = []; server_uri = []; template = [] }) found).0) is

by_word : (entries : List AuthorityEntry) (found : Option (List ℕ)) (a : Authority) → option_and_then (λ name. authority_of entries name) found ≡ Some a → a.0 < length entries
by_word entries None a is = absurd (cc is)
by_word entries (Some name) a is = by_name entries name a is

by_test : (entries : List AuthorityEntry) (b : Bool) (word : List ℕ) (a : Authority) → AreAuthorities entries
    → cond b (Some default) (option_and_then (λ name. authority_of entries name) (after (codes "+") word)) ≡ Some a → a.0 < length entries
by_test entries true word a are is =
    let same : 0 ≡ a.0 = cc is in
    let some = some_entry entries are in
    omega (arith, same, some)
by_test entries false word a are is = by_word entries (after (codes "+") word) a is

pub authority_within : (entries : List AuthorityEntry) (word : List ℕ) (a : Authority) → AreAuthorities entries → authority_in entries word ≡ Some a → a.0 < length entries
unfolding authority_in
authority_within entries word a are is = by_test entries (bytes_eq word (codes "-")) word a are is
