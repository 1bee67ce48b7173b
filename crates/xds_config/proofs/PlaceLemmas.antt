-- The place of the cluster of a name.
use Rattle.std.proofs.Common.{◌≡◌, ◌≢◌, ℕ, ◌<◌, List, [], ◌∷◌, length, get_or, Some, None, sym, ap, ◌∙◌}
use Rattle.std.proofs.lemmas.List.Quantifiers.{position-Some}
use Rattle.std.proofs.lemmas.Option.{slice_get-get_or}
use Rattle.std.proofs.lemmas.Slice.Eq.{bytes_eq-Decides}
use Rattle.std.specs.Prelude.{All, position, bytes_eq, slice_get, option_map}
use Rattle.xds_config.specs.declared.config.ClusterEntry.{ClusterEntry}
use Rattle.header_match.proofs.Filters.{none_passes}

pub none_named : (cs : List ClusterEntry) (name : List ℕ) → position (λ c. bytes_eq c.name name) cs ≡ None → All (λ c. c.name ≢ name) cs
none_named cs name e = λ k d lt same.
    let no = none_passes (λ (c : ClusterEntry). bytes_eq c.name name) cs e k d lt in
    let yes = (bytes_eq-Decides (get_or cs k d).name name).1 same in
    cc

pub named_at : (cs : List ClusterEntry) (name : List ℕ) (i : ℕ) (d : ClusterEntry) → position (λ c. bytes_eq c.name name) cs ≡ Some i → (i < length cs) × ((get_or cs i d).name ≡ name)
named_at cs name i d e =
    let at = position-Some (λ (c : ClusterEntry). bytes_eq c.name name) cs i d e in
    (at.0, (bytes_eq-Decides (get_or cs i d).name name).0 at.1)

first_named : (c : ClusterEntry) (cs : List ClusterEntry) (name : List ℕ) (i : ℕ) → Some i ≡ position (λ c. bytes_eq c.name name) (c ∷ cs) → option_map (λ c. c.name) (slice_get (c ∷ cs) i) ≡ Some name
first_named c cs name i e =
    let at = named_at (c ∷ cs) name i c (sym e) in
    ap (option_map (λ (d : ClusterEntry). d.name)) (slice_get-get_or (c ∷ cs) i c at.0) ∙ ap Some at.1

pub found_named : (cs : List ClusterEntry) (name : List ℕ) (i : ℕ) → Some i ≡ position (λ c. bytes_eq c.name name) cs → option_map (λ c. c.name) (slice_get cs i) ≡ Some name
found_named [] name i e = absurd (cc)
found_named (c ∷ cs) name i e = first_named c cs name i e

pub some_named : (cs : List ClusterEntry) (name : List ℕ) (i : ℕ) → Some i ≡ position (λ c. bytes_eq c.name name) cs → All (λ c. c.name ≢ name) cs → ⊥
some_named [] name i e none = cc
some_named (c ∷ cs) name i e none = let at = named_at (c ∷ cs) name i c (sym e) in none i c at.0 at.1
