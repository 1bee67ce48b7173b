-- What is lawful.
use Rattle.std.proofs.Common.{◌≡◌, ℕ, zero, suc, ◌<◌, refl, sym, ap, ◌∙◌, subst, arith, List, [], ◌∷◌, ◌++◌, length, map, Bool, true, false, ◌||◌, Option, Some, None, Ok, Err}
use Rattle.std.specs.Prelude.{◌≢◌, ◌^◌, All, AllPairs, IfOk, IfSome, Result, if◌then◌else◌, option_and_then}
use Rattle.std.specs.List.{flat_map, list_any}
use Rattle.std.specs.List.Sorted.{IsStrictlySortedBy}
use Rattle.std.proofs.lemmas.Bool.{true≢false}
use Rattle.std.proofs.lemmas.List.{get_or-map, length-map}
use Rattle.std.proofs.lemmas.List.Kept.{AllPairs-cons}
use Rattle.std.proofs.lemmas.List.Elements.{All-map}
use Rattle.std.proofs.lemmas.Map.Views.{All-after_first}
use Rattle.std.proofs.lemmas.Map.Keys.{sorted_tail}
use Rattle.xc_base.specs.declared.names.Key.{Key}
use Rattle.xc_base.specs.declared.reason.Reason.{Reason}
use Rattle.xds_config.specs.Configs.{AreLawfulLeaves, IsLawfulConfig, IsLawfulFront, IsNameBefore}
use Rattle.xds_config.specs.SearchedLists.{AreByName}
use Rattle.xds_config.specs.Endpoints.{IsLawfulEndpoints}
use Rattle.xds_config.specs.declared.config.Front.{Front}
use Rattle.xds_config.specs.declared.config.Leaf.{Leaf}
use Rattle.xds_config.specs.declared.config.ClusterEntry.{ClusterEntry}
use Rattle.xds_config.specs.Clusters.{IsLawfulCluster, IsLawfulShape}
use Rattle.xds_config.specs.declared.cluster_values.ClusterValue.{ClusterValue}
use Rattle.xds_config.specs.declared.cluster_values.Shape.{Shape}
use Rattle.aggregate_expand.specs.declared.expand_fault.ExpandFault.TheVariants.{Depth}
use Rattle.aggregate_expand.specs.LookedUp.{has_name, with_names}
use Rattle.aggregate_expand.proofs.NameLemmas.{with_name}
use Rattle.aggregate_expand.specs.Chains.{Table}
use Rattle.aggregate_expand.specs.Leaves.{goes_on, ends, any_child, or_children, leaves_of, leaves_within}
use Rattle.xds_cache.specs.KeptFates.{IsLawfulAt}
use Rattle.xds_cache.specs.declared.fate.Known.{Known}
use Rattle.config_assembly.specs.Orders.{Name, name_cmp}
use Rattle.config_assembly.specs.ReachedResources.{Resources, IsLawfulOf}
use Rattle.config_assembly.specs.Reach.{children_in}
use Rattle.config_assembly.specs.WholeConfigs.{cluster_entry, leaf_of}
use Rattle.config_assembly.specs.Tables.{AreLawfulRows, Rows, row_at, value_at}

pub lawful_of : (key : Key) (known : Known) → IsLawfulAt key known → IsLawfulOf key.kind known
lawful_of key Known.Wanted lawful = tt
lawful_of key (Known.Value value) lawful = lawful
lawful_of key (Known.Invalid reason) lawful = tt
lawful_of key Known.Absent lawful = tt

-- ---- names in order

entries_rise : (r : Resources) (names : List Name) → IsStrictlySortedBy name_cmp names → AllPairs (λ a b. IsNameBefore a.name b.name) (map (cluster_entry r) names)
entries_rise r [] rising = λ i j d less within. absurd (omega (arith, within))
entries_rise r (name ∷ names) rising =
    AllPairs-cons (λ a b. IsNameBefore a.name b.name) (cluster_entry r name) (map (cluster_entry r) names)
    (All-map (λ c. IsNameBefore name c.name) (cluster_entry r) names (All-after_first name_cmp name names rising))
    (entries_rise r names (sorted_tail name_cmp name names rising))

pub entries_by_name : (r : Resources) (names : List Name) (entries : List ClusterEntry) → IsStrictlySortedBy name_cmp names → entries ≡ map (cluster_entry r) names → length names < 2 ^ 31 → AreByName entries
entries_by_name r names entries rising is few = record {
  rising = subst (AllPairs (λ a b. IsNameBefore a.name b.name)) (sym is) (entries_rise r names rising);
  few = subst (λ n. n < 2 ^ 31) (sym (ap length is ∙ length-map names (cluster_entry r))) few;
}

-- ---- leaves

pub leaves_once : (r : Resources) (names : List Name) → AllPairs (λ a b. a ≢ b) names → AllPairs (λ a b. a.name ≢ b.name) (map (leaf_of r) names)
leaves_once r [] once = λ i j d less within. absurd (omega (arith, within))
leaves_once r (first ∷ names) once = λ i j d less within same. once i j first less (subst (λ n. j < n) (length-map (first ∷ names) (leaf_of r)) within)
    (sym (ap (λ l. l.name) (get_or-map (leaf_of r) (first ∷ names) i first d (omega (arith, less, subst (λ n. j < n) (length-map (first ∷ names) (leaf_of r)) within))))
    ∙ same ∙ ap (λ l. l.name) (get_or-map (leaf_of r) (first ∷ names) j first d (subst (λ n. j < n) (length-map (first ∷ names) (leaf_of r)) within)))

-- each aggregate has a child
abbrev pub HaveChildren : Table → Type 0
HaveChildren table = (name : Name) (children : List Name) → table name ≡ Some children → 0 < length children

longer : (b : Bool) (names : List Name) (name : Name) → 0 < length names → 0 < length (with_name b names name)
longer true names name some = some
longer false [] name some = absurd (omega (arith, some))
longer false (x ∷ names) name some = omega arith

some_with : (names more : List Name) → 0 < length names → 0 < length (with_names names more)
some_with names [] some = some
some_with names (name ∷ more) some = some_with (with_name (has_name names name) names name) more (longer (has_name names name) names name some)

some_of : (names : List Name) → 0 < length names → 0 < length (with_names [] names)
some_of [] some = absurd (omega (arith, some))
some_of (name ∷ names) some = some_with (name ∷ []) names (omega arith)

some_front : (xs ys : List Name) → 0 < length xs → 0 < length (xs ++ ys)
some_front [] ys some = absurd (omega (arith, some))
some_front (x ∷ xs) ys some = omega arith

first_false : (a b : Bool) → (a || b) ≡ false → a ≡ false
first_false true b is = is
first_false false b is = refl

some_or : (table : Table) (n : ℕ) (cluster : Name) (found : Option (List Name)) → ((children : List Name) → found ≡ Some children → 0 < length children)
    → ((child : Name) → goes_on table n child ≡ false → 0 < length (ends table n child)) → any_child (goes_on table n) found ≡ false → 0 < length (or_children cluster (ends table n) found)
some_or table n cluster None have each short = omega arith
some_or table n cluster (Some []) have each short = absurd (let none : 0 < 0 = have [] refl in omega (arith, none))
some_or table n cluster (Some (child ∷ children)) have each short =
    some_front (ends table n child) (flat_map (ends table n) children) (each child (first_false (goes_on table n child) (list_any (goes_on table n) children) short))

some_ends : (table : Table) (n : ℕ) (cluster : Name) → HaveChildren table → goes_on table n cluster ≡ false → 0 < length (ends table n cluster)
unfolding goes_on ends
some_ends table zero cluster have short = absurd (true≢false short)
some_ends table (suc n) cluster have short = some_or table n cluster (table cluster) (have cluster) (λ child. some_ends table n child have) short

some_found : (b : Bool) (names found : List Name) → (if b then Err Depth else Ok (with_names [] found)) ≡ Ok names → (b ≡ false → 0 < length found) → 0 < length names
some_found true names found is some = absurd (cc is)
some_found false names found is some = let same : with_names [] found ≡ names = cc is in subst (λ l. 0 < length l) same (some_of found (some refl))

-- a cluster with leaves has one at least
pub leaves_some : (table : Table) (cluster : Name) (names : List Name) → HaveChildren table → leaves_of table cluster ≡ Ok names → 0 < length names
unfolding leaves_within
leaves_some table cluster names have is = some_found (goes_on table 16 cluster) names (ends table 16 cluster) is (some_ends table 16 cluster have)

children_lawful : (found : Option ClusterValue) (children : List Name) → IfSome found IsLawfulCluster → option_and_then (λ cluster. children_in cluster.shape) found ≡ Some children → 0 < length children
children_lawful None children lawful is = absurd (cc is)
children_lawful (Some cluster) children lawful is = shaped cluster.name cluster.shape lawful.shape is
  where
    shaped : (name : Name) (shape : Shape) → IsLawfulShape name shape → children_in shape ≡ Some children → 0 < length children
    shaped name (Shape.Eds service) lawful is = absurd (cc is)
    shaped name (Shape.Aggregate clusters) lawful is = let same : clusters ≡ children = cc is in subst (λ l. 0 < length l) same lawful.some

pub rows_have_children : (rows : Rows) → AreLawfulRows rows → HaveChildren (row_at rows)
rows_have_children rows lawful name children is = children_lawful (value_at rows name) children (lawful name) is

-- ---- configurations

pub are_lawful : (r : Resources) (aggregate : Bool) (names : List Name) (leaves : List Leaf) → leaves ≡ map (leaf_of r) names → 0 < length names → AllPairs (λ a b. a ≢ b) names → All (λ leaf. IfOk leaf.state IsLawfulEndpoints) leaves → length names < 2 ^ 31
    → AreLawfulLeaves (record { aggregate = aggregate; leaves = leaves })
are_lawful r aggregate names leaves is some once endpoints few = record {
  some = subst (λ n. 0 < n) (sym (ap length is ∙ length-map names (leaf_of r))) some;
  once = subst (AllPairs (λ a b. a.name ≢ b.name)) (sym is) (leaves_once r names once);
  endpoints = endpoints;
  few = subst (λ n. n < 2 ^ 31) (sym (ap length is ∙ length-map names (leaf_of r))) few;
}

pub is_lawful : (front : Result Front Reason) (entries : List ClusterEntry) → IfOk front IsLawfulFront → All (λ entry. IfOk entry.state AreLawfulLeaves) entries → AreByName entries → IsLawfulConfig (record { front = front; clusters = entries })
is_lawful front entries lawful leaves ordered = record {
  front = lawful;
  clusters = leaves;
  rising = ordered.rising;
  few = ordered.few;
}
