-- Names of clusters in a list, each once.
use Rattle.std.specs.Prelude.{ℕ, List, [], ◌∷◌, ◌++◌, Bool, if◌then◌else◌}
use Rattle.std.specs.List.{list_any}
use Rattle.std.specs.Str.{bytes_eq}

abbrev pub Name : Type 0
Name = List ℕ

-- whether the list has the name
abbrev pub has_name : List Name → Name → Bool
has_name names name = list_any (bytes_eq name) names

-- the first list, and each name of the second at its first place, where it isn't there yet
abbrev pub with_names : List Name → List Name → List Name
with_names names [] = names
with_names names (name ∷ more) = with_names (if has_name names name then names else names ++ name ∷ []) more
