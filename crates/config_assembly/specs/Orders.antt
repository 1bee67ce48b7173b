-- Lists in order, each member once.
use Rattle.std.specs.Prelude.{ℕ, List, [], ◌∷◌}
use Rattle.std.specs.BTreeSet.{insert_key}
use Rattle.std.specs.declared.cmp.Ordering.{Ordering}
use Rattle.std.specs.Ordering.{nat_cmp}
use Rattle.std.specs.Cmp.Lexicographic.{slice_cmp}

-- a name or another text, as its bytes
abbrev pub Name : Type 0
Name = List ℕ

abbrev pub name_cmp : Name → Name → Ordering
name_cmp = slice_cmp nat_cmp

-- a list in order with these put in, each at its place, where it isn't there yet
abbrev pub put_in : {X : Type 0} → (X → X → Ordering) → List X → List X → List X
put_in order xs [] = xs
put_in order xs (y ∷ ys) = put_in order (insert_key order xs y) ys

-- in order, each once
abbrev pub sorted : {X : Type 0} → (X → X → Ordering) → List X → List X
sorted order xs = put_in order [] xs
