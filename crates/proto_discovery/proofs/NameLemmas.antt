-- The names of a request are written one after another.
use Rattle.std.proofs.Common.{◌≡◌, ◌≤◌, ◌<◌, ℕ, ◌+◌, List, ◌++◌, length, drop, get_or, sym, ap, ◌∙◌, append_assoc, append-nil}
use Rattle.std.proofs.lemmas.List.{drop_more, drop_all}
use Rattle.proto_wire.specs.Spelling.{spelled_bytes}
use Rattle.proto_discovery.specs.Request.{name_fields}

-- the name at i is written
pub names_more : (out next name : List ℕ) (names : List (List ℕ)) (i : ℕ) → i < length names → name ≡ get_or names i name → next ≡ out ++ spelled_bytes 3 name
    → next ++ name_fields (drop (i + 1) names) ≡ out ++ name_fields (drop i names)
unfolding name_fields
names_more out next name names i lt is written =
    let others = name_fields (drop (i + 1) names) in
    ap (λ (l : List ℕ). l ++ others) written
    ∙ (append_assoc out (spelled_bytes 3 name) others
    ∙ (ap (λ (n : List ℕ). out ++ (spelled_bytes 3 n ++ others)) is
    ∙ ap (λ (l : List (List ℕ)). out ++ name_fields l) (sym (drop_more names i name lt))))

-- no name is left
pub names_end : (out : List ℕ) (names : List (List ℕ)) (i : ℕ) → length names ≤ i → out ++ name_fields (drop i names) ≡ out
unfolding name_fields
names_end out names i le = ap (λ (l : List (List ℕ)). out ++ name_fields l) (drop_all i names le) ∙ append-nil out
