-- Parts joined by a byte.
use Rattle.std.proofs.Common.{◌≡◌, ℕ, List, [], ◌∷◌, ◌++◌, map, refl, ap, ◌∙◌, append-nil}
use Rattle.std.proofs.lemmas.List.Concat.{flat_map-cons}
use Rattle.std.specs.List.{join_by, join_with_byte}

-- what `join` gives at a separator of one byte
pub joined_by : {X : Type 0} (f : X → List ℕ) (c : ℕ) (xs : List X) → join_by f (c ∷ []) xs ≡ join_with_byte c (map f xs)
joined_by f c [] = refl
joined_by f c (x ∷ []) = append-nil (f x)
joined_by f c (x ∷ y ∷ ys) = ap (λ zs. f x ++ zs) (flat_map-cons (λ z. c ∷ f z) y ys ∙ ap (λ zs. c ∷ zs) (joined_by f c (y ∷ ys)))
