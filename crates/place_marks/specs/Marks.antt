-- Which places of a list are marked, by the marked places alone.
use Rattle.std.specs.Prelude.{◌<◌, ◌≤◌, ◌^◌, ℕ, Bool, true, false, List, [], ◌∷◌, set, replicate, All, AllPairs}

-- these marks, and those of some places
abbrev pub marked_on : List Bool → List ℕ → List Bool
marked_on marks [] = marks
marked_on marks (place ∷ places) = marked_on (set marks place true) places

-- a mark for each of so many places, set at these
abbrev pub marks_of : ℕ → List ℕ → List Bool
marks_of count places = marked_on (replicate count false) places

-- each place is below the next
abbrev pub AreRising : List ℕ → Type 0
AreRising places = AllPairs (λ a b. a < b) places

-- places that may be marked among so many, in rising order
pub record AreMarked (count : ℕ) (places : List ℕ) : Type 0 where
  pub rising : AreRising places
  pub within : All (λ place. place < count) places
  pub few : count ≤ 2 ^ 32
