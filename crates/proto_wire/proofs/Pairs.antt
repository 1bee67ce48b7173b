-- Options of pairs, and guards.
use Rattle.std.proofs.Common.{◌≡◌, Bool, true, false, ◌||◌, cond, Option, Some, None, refl, ap}

abbrev pub some_of : {A B : Type 0} → A → B → Option (A × B)
some_of a b = Some (a, b)

abbrev pub first_or : {A B : Type 0} → A → Option (A × B) → A
first_or a None = a
first_or a (Some r) = r.0

abbrev pub second_or : {A B : Type 0} → B → Option (A × B) → B
second_or b None = b
second_or b (Some r) = r.1

-- the parts of two pairs that are equal
pub some_pair : {A B : Type 0} (a c : A) (b d : B) → some_of a b ≡ some_of c d → (a ≡ c) × (b ≡ d)
some_pair {A} {B} a c b d e = (ap (λ (o : Option (A × B)). first_or a o) e, ap (λ (o : Option (A × B)). second_or b o) e)

-- a guard that let the value through
pub let_through : {A : Type 0} (t : Bool) (x y : A) → cond t None (Some x) ≡ Some y → (t ≡ false) × (x ≡ y)
let_through true x y e = cc
let_through false x y e = (refl, cc)

pub neither : (s t : Bool) → (s || t) ≡ false → (s ≡ false) × (t ≡ false)
neither true t e = cc
neither false t e = (refl, e)
