-- The parameters of an `xdstp:` name, which stand after its first `?` and are parted by `&` (gRFC A47, RFC 3986, 3.4).
use Rattle.std.specs.Prelude.{◌≡◌, ℕ, ◌==◌, List, [], ◌∷◌, if◌then◌else◌}
use Rattle.std.specs.Cmp.Lexicographic.{slice_cmp}
use Rattle.std.specs.List.{before_first}
use Rattle.std.specs.List.Sorted.{IsPermutation, IsSorted}
use Rattle.std.specs.Ordering.{nat_cmp, is_lt, ordering_then}
use Rattle.std.specs.declared.cmp.Ordering.{Ordering}

-- the key of a parameter ends at its first `=`
abbrev pub key_of : List ℕ → List ℕ
key_of parameter = before_first (λ b. b == 61) parameter

-- by key, then by the whole parameter, both by their bytes
abbrev pub parameter_cmp : List ℕ → List ℕ → Ordering
parameter_cmp a b = ordering_then (slice_cmp nat_cmp (key_of a) (key_of b)) (slice_cmp nat_cmp a b)

-- parameters in order, with one more in its place
abbrev pub put : List ℕ → List (List ℕ) → List (List ℕ)
put p [] = p ∷ []
put p (q ∷ qs) = if is_lt (parameter_cmp q p) then q ∷ put p qs else p ∷ q ∷ qs

-- the parameters in order
abbrev pub in_order : List (List ℕ) → List (List ℕ)
in_order [] = []
in_order (p ∷ ps) = put p (in_order ps)

-- none is dropped, they stand in order, and no other list is so
pub record AreInOrder (parameters : List (List ℕ)) : Type 0 where
  pub same : IsPermutation parameters (in_order parameters)
  pub sorted : IsSorted parameter_cmp (in_order parameters)
  pub only : (others : List (List ℕ)) → IsPermutation parameters others → IsSorted parameter_cmp others → others ≡ in_order parameters
