-- Chains of clusters, each next one a child of the aggregate before it, and what a cluster stands for
-- (gRFC A37: aggregate clusters are expanded depth first).
use Rattle.std.specs.Prelude.{◌≡◌, ◌≢◌, ℕ, ◌+◌, List, [], ◌∷◌, Option, Some, None, length, slice_get, option_and_then, IsSome, Contains, AllPairs}
use Rattle.std.specs.declared.cmp.Ordering.TheVariants.{Less}
use Rattle.std.specs.Ordering.{nat_cmp}
use Rattle.std.specs.Cmp.Lexicographic.{slice_cmp}
use Rattle.aggregate_expand.specs.LookedUp.{Name}

-- the children of each aggregate, and none for what is no aggregate
abbrev pub Table : Type 0
Table = Name → Option (List Name)

-- the most clusters that a chain may have (this project's own)
abbrev pub longest_chain : ℕ
longest_chain = 16

-- the child at a place
abbrev pub child_at : Table → Name → ℕ → Option Name
child_at table cluster place = option_and_then (λ children. slice_get children place) (table cluster)

-- the cluster to which a list of child places leads
abbrev pub led_to : Table → List ℕ → Name → Option Name
led_to table [] cluster = Some cluster
led_to table (place ∷ path) cluster = option_and_then (led_to table path) (child_at table cluster place)

-- a chain of so many clusters begins with the cluster
abbrev pub HasChain : Table → ℕ → Name → Type 0
HasChain table clusters cluster = (path : List ℕ) × (length path + 1 ≡ clusters) × IsSome (led_to table path cluster)

-- the places lead from the cluster to a leaf, one that is no aggregate
abbrev pub LeadsTo : Table → Name → List ℕ → Name → Type 0
LeadsTo table cluster path leaf = (led_to table path cluster ≡ Some leaf) × (table leaf ≡ None)

-- one list of places comes before the other
abbrev pub IsBefore : List ℕ → List ℕ → Type 0
IsBefore path other = slice_cmp nat_cmp path other ≡ Less

-- the leaves on chains from the cluster, each once, by the least list of places that leads to it
pub record AreLeaves (table : Table) (cluster : Name) (leaves : List Name) : Type 0 where
  pub led : (leaf : Name) → Contains leaves leaf → (path : List ℕ) × LeadsTo table cluster path leaf
  pub all : (leaf : Name) (path : List ℕ) → LeadsTo table cluster path leaf → Contains leaves leaf
  pub once : AllPairs (λ leaf other. leaf ≢ other) leaves
  pub ordered : AllPairs (λ leaf other. (path : List ℕ) → LeadsTo table cluster path other → (less : List ℕ) × LeadsTo table cluster less leaf × IsBefore less path) leaves
