-- Spans of time in lists of events whose newest stands first. Some events begin a span and some end one;
-- what begins one while it lasts changes nothing.
use Rattle.std.specs.Prelude.{◌≡◌, List, ◌∷◌, ◌++◌, Contains}

-- one of the events ends a span
abbrev pub HasEnd : {E : Type 0} → (E → Type 0) → List E → Type 0
HasEnd {E} Ends events = (event : E) × Contains events event × Ends event

-- no span lasts: after each event that begins one there is one that ends it
abbrev pub IsOver : {E : Type 0} → (E → Type 0) → (E → Type 0) → List E → Type 0
IsOver {E} Begins Ends events = (later : List E) (event : E) (earlier : List E) → events ≡ later ++ event ∷ earlier → Begins event → HasEnd Ends later

-- a span lasts, which this event began, and these came since
pub record IsSince {E : Type 0} (Begins Ends : E → Type 0) (events : List E) (first : E) (since : List E) : Type 0 where
  pub before : List E
  pub split : events ≡ since ++ first ∷ before
  pub begins : Begins first
  pub over : IsOver Begins Ends before
  pub lasts : HasEnd Ends since → ⊥
