-- Reports that agree on the addresses of leaves.
use Rattle.std.specs.Prelude.{◌≡◌, ℕ, List, All}
use Rattle.xds_config.specs.declared.config.Leaf.{Leaf}
use Rattle.xds_config.specs.declared.endpoint_values.Locality.{Locality}
use Rattle.tree_steps.specs.Reports.{Reports, state_in, localities_of}

abbrev pub AgreeAt : Reports → Reports → List (List ℕ) → Type 0
AgreeAt old new addresses = All (λ a. state_in new a ≡ state_in old a) addresses

abbrev pub AgreeOnLocalities : Reports → Reports → List Locality → Type 0
AgreeOnLocalities old new localities = All (λ l. AgreeAt old new l.addresses) localities

abbrev pub AgreeOnLeaf : Reports → Reports → Leaf → Type 0
AgreeOnLeaf old new leaf = AgreeOnLocalities old new (localities_of leaf)

abbrev pub AgreeOn : Reports → Reports → List Leaf → Type 0
AgreeOn old new leaves = All (λ leaf. AgreeOnLocalities old new (localities_of leaf)) leaves
