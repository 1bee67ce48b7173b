-- Sets of names.
use Rattle.std.specs.Prelude.{◌≡◌, ℕ, List, Bool, ◌||◌, bytes_eq}
use Rattle.std.specs.Ordering.{nat_cmp}
use Rattle.std.specs.Cmp.Lexicographic.{slice_cmp}
use Rattle.std.specs.BTreeSet.{BTreeSet, contains}

abbrev pub has : BTreeSet (List ℕ) → List ℕ → Bool
has names name = contains (slice_cmp nat_cmp) names name

-- the set has gained a name
abbrev pub Gains : BTreeSet (List ℕ) → BTreeSet (List ℕ) → List ℕ → Type 0
Gains old new name = (other : List ℕ) → has new other ≡ (bytes_eq name other || has old other)
