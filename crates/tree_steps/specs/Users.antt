-- Which clusters, by their places, read the states of which addresses.
use Rattle.std.specs.Prelude.{◌≡◌, ◌<◌, ℕ, Bool, List, [], length, get_or, unwrap_or, All, Contains, true, false}
use Rattle.std.specs.Map.{lookup}
use Rattle.std.specs.Ordering.{nat_cmp, is_eq}
use Rattle.std.specs.Cmp.Lexicographic.{slice_cmp}
use Rattle.xds_config.specs.declared.config.Leaf.{Leaf}
use Rattle.xds_config.specs.declared.config.Leaves.{Leaves}
use Rattle.xds_config.specs.declared.endpoint_values.Locality.{Locality}
use Rattle.xds_config.specs.Configs.{AreLawfulLeaves}
use Rattle.tree_steps.specs.Reports.{localities_of}

-- addresses, each with the places of the clusters that read its state
abbrev pub UserList : Type 0
UserList = List (List ℕ × List ℕ)

-- the places of the clusters that read an address
abbrev pub users_at : UserList → List ℕ → List ℕ
users_at users address = unwrap_or (lookup (λ a. is_eq (slice_cmp nat_cmp address a)) users) []

-- no place is lost
abbrev pub Grows : UserList → UserList → Type 0
Grows old new = (address : List ℕ) (place : ℕ) → Contains (users_at old address) place → Contains (users_at new address) place

-- the cluster at the place is among those that read each of the addresses
abbrev pub ReadsAddresses : UserList → ℕ → List (List ℕ) → Type 0
ReadsAddresses users place addresses = All (λ a. Contains (users_at users a) place) addresses

abbrev pub ReadsLocalities : UserList → ℕ → List Locality → Type 0
ReadsLocalities users place localities = All (λ l. ReadsAddresses users place l.addresses) localities

abbrev pub ReadsLeaves : UserList → ℕ → List Leaf → Type 0
ReadsLeaves users place leaves = All (λ leaf. ReadsLocalities users place (localities_of leaf)) leaves

-- the leaves that the serving tree follows or followed last
abbrev pub IsSoundTree : UserList → ℕ → Leaves → Type 0
IsSoundTree users place leaves = AreLawfulLeaves leaves × ReadsLeaves users place leaves.leaves

-- each cluster whose address is named has a mark
abbrev pub MarksUsers : UserList → List (List ℕ) → List Bool → Type 0
MarksUsers users changed marks = (address : List ℕ) (place : ℕ) → Contains changed address → Contains (users_at users address) place → place < length marks → get_or marks place false ≡ true
