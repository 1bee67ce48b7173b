-- Lists that a loop goes over.
use Rattle.std.proofs.Common.{◌≡◌, ◌<◌, ℕ, ◌+◌, List, ◌∷◌, length, ◌++◌, drop, get_or, map, append_assoc, sym, ap, ◌∙◌}
use Rattle.std.proofs.lemmas.List.{drop_more}

-- the element at i, and those after it
pub map_drop_more : {X Y : Type 0} (v : X → Y) (xs : List X) (i : ℕ) (d : X) → i < length xs → map v (drop i xs) ≡ v (get_or xs i d) ∷ map v (drop (i + 1) xs)
map_drop_more v xs i d lt = ap (map v) (drop_more xs i d lt)

-- a prefix of what stands behind a prefix
pub regrouped : (first prefix rest after bs : List ℕ) → bs ≡ first ++ after → after ≡ prefix ++ rest → bs ≡ (first ++ prefix) ++ rest
regrouped first prefix rest after bs e is = e ∙ (ap (λ (l : List ℕ). first ++ l) is ∙ sym (append_assoc first prefix rest))
