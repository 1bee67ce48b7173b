-- Places in lists.
use Rattle.std.proofs.Common.{◌≡◌, ℕ, ◌+◌, ◌<◌, ◌≤◌, suc, Bool, true, false, cond, List, [], ◌∷◌, length, map, Option, Some, None, refl, ap, arith}
use Rattle.std.specs.Prelude.{IfSome}
use Rattle.std.specs.List.{position_from}

pub position_map : {X Y : Type 0} (p : Y → Bool) (f : X → Y) (n : ℕ) (xs : List X) → position_from (λ x. p (f x)) n xs ≡ position_from p n (map f xs)
position_map p f n [] = refl
position_map p f n (x ∷ xs) = ap (λ (o : Option ℕ). cond (p (f x)) (Some n) o) (position_map p f (n + 1) xs)

below_cases : (b : Bool) (n l : ℕ) (o : Option ℕ) → IfSome o (λ m. m < n + 1 + l) → IfSome (cond b (Some n) o) (λ m. m < n + suc l)
below_cases true n l o h = omega arith
below_cases false n l None h = tt
below_cases false n l (Some m) h = omega arith

position_below : {X : Type 0} (p : X → Bool) (n : ℕ) (xs : List X) → IfSome (position_from p n xs) (λ m. m < n + length xs)
position_below p n [] = tt
position_below p n (x ∷ xs) = below_cases (p x) n (length xs) (position_from p (n + 1) xs) (position_below p (n + 1) xs)

weaker : (o : Option ℕ) (a b : ℕ) → IfSome o (λ m. m < a) → a ≤ b → IfSome o (λ m. m < b)
weaker None a b h le = tt
weaker (Some m) a b h le = omega arith

-- a place in a list is below its length, and what is above that
pub place_below : {X : Type 0} (p : X → Bool) (xs : List X) (place : Option ℕ) (most : ℕ) → place ≡ position_from p 0 xs → length xs ≤ most → IfSome place (λ m. m < most)
place_below p xs place most is le = rw is (weaker (position_from p 0 xs) (0 + length xs) most (position_below p 0 xs) (omega arith))
