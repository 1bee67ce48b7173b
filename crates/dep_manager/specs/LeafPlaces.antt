-- At the places of which clusters leaves have their endpoints from a key.
use Rattle.std.specs.Prelude.{◌≡◌, ◌==◌, ℕ, Bool, false, List, [], Option, get_or, unwrap_or}
use Rattle.std.specs.List.{list_any}
use Rattle.std.specs.Map.{lookup}
use Rattle.std.specs.Option.{option_map_or}
use Rattle.xc_base.specs.declared.names.Key.{Key}
use Rattle.xc_keys.specs.Keys.{is_key}

-- for each cluster the key of each leaf
abbrev pub Sources : Type 0
Sources = List (List (Option Key))

-- for each key places of clusters, from 0
abbrev pub Places : Type 0
Places = List (Key × List ℕ)

-- the place is one of these
abbrev pub has_place : List ℕ → ℕ → Bool
has_place places place = list_any (λ other. other == place) places

-- the place is one of those that are listed for this key
abbrev pub is_listed : Places → Key → ℕ → Bool
is_listed places key place = has_place (unwrap_or (lookup (is_key key) places) []) place

-- a leaf has its endpoints from this key
abbrev pub is_source : Key → Option Key → Bool
is_source key source = option_map_or (λ own. is_key own key) source false

-- a leaf of the cluster at this place does
abbrev pub has_leaf : Sources → Key → ℕ → Bool
has_leaf sources key place = list_any (is_source key) (get_or sources place [])

-- a place is listed for a key where the cluster at it has a leaf with that key, and nowhere else
abbrev pub ArePlacesOf : Sources → Places → Type 0
ArePlacesOf sources places = (key : Key) (place : ℕ) → is_listed places key place ≡ has_leaf sources key place
