-- How texts are compared: by their bytes, or with ASCII letters in lower case where case is ignored.
use Rattle.std.specs.Prelude.{ℕ, ◌-◌, ◌==◌, List, [], ◌∷◌, Bool, length, take, drop, bytes_eq, if◌then◌else◌, ◌||◌}
use Rattle.std.specs.Str.{str_to_ascii_lowercase}

-- a text as it is compared
abbrev pub folded : Bool → List ℕ → List ℕ
folded no_case text = if no_case then str_to_ascii_lowercase text else text

abbrev pub is_same : Bool → List ℕ → List ℕ → Bool
is_same no_case text other = bytes_eq (folded no_case text) (folded no_case other)

-- the prefix is what the text begins with
abbrev pub begins_with : Bool → List ℕ → List ℕ → Bool
begins_with no_case text prefix = is_same no_case (take (length prefix) text) prefix

-- the suffix is what the text ends with
abbrev pub ends_with : Bool → List ℕ → List ℕ → Bool
ends_with no_case text suffix = is_same no_case (drop (length text - length suffix) text) suffix

-- the part begins at some place of the text
abbrev pub contains : Bool → List ℕ → List ℕ → Bool
contains no_case [] part = length part == 0
contains no_case (b ∷ bs) part = begins_with no_case (b ∷ bs) part || contains no_case bs part
