-- Names of clusters, and how often each is counted.
use Rattle.std.specs.Prelude.{◌≡◌, ℕ, ◌+◌, ◌-◌, ◌<◌, List, Bool, IfSome, unwrap_or, sum_by, if◌then◌else◌}
use Rattle.std.specs.declared.cmp.Ordering.{Ordering}
use Rattle.std.specs.Ordering.{nat_cmp, is_eq}
use Rattle.std.specs.Cmp.Lexicographic.{slice_cmp}
use Rattle.std.specs.Map.{lookup}

abbrev pub Name : Type 0
Name = List ℕ

-- names are ordered by their bytes
abbrev pub name_cmp : Name → Name → Ordering
name_cmp = slice_cmp nat_cmp

abbrev pub is_name : Name → Name → Bool
is_name name other = is_eq (name_cmp name other)

-- 1 for the name itself, 0 for any other
abbrev pub once : Name → Name → ℕ
once name other = if is_name other name then 1 else 0

-- how often a list has the name
abbrev pub times_in : Name → List Name → ℕ
times_in name names = sum_by (once name) names

-- the count that is kept of a name, 0 where there is none
abbrev pub count_of : List (Name × ℕ) → Name → ℕ
count_of counts name = unwrap_or (lookup (is_name name) counts) 0

-- no count of 0 is kept
abbrev pub AllCounted : List (Name × ℕ) → Type 0
AllCounted counts = (name : Name) → IfSome (lookup (is_name name) counts) (λ count. 0 < count)

-- each name is counted as often more as the list has it
abbrev pub Raises : List (Name × ℕ) → List (Name × ℕ) → List Name → Type 0
Raises old new names = (name : Name) → count_of new name ≡ count_of old name + times_in name names

-- each name is counted as often less as the list has it, down to 0
abbrev pub Lowers : List (Name × ℕ) → List (Name × ℕ) → List Name → Type 0
Lowers old new names = (name : Name) → count_of new name ≡ count_of old name - times_in name names
