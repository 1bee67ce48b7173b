-- What is kept from one update to the next, and when it is right.
use Rattle.std.specs.Prelude.{◌≡◌, Bool, List, [], ◌∷◌, filter, map, false, Option, None, Some, Result, Ok, Err, IfSome, is_some, option_map, unwrap_or}
use Rattle.xc_base.specs.declared.names.Kind.{Kind}
use Rattle.xc_base.specs.declared.names.Key.{Key}
use Rattle.xc_base.specs.declared.reason.Reason.{Reason}
use Rattle.xds_config.specs.Configs.{IsLawfulConfig}
use Rattle.xds_config.specs.declared.config.Leaves.{Leaves}
use Rattle.xds_config.specs.declared.config.Config.{Config}
use Rattle.xds_bootstrap.specs.declared.bootstrap.AuthorityEntry.{AuthorityEntry}
use Rattle.xds_name.specs.declared.target.Target.{Target}
use Rattle.xds_cache.specs.KeptFates.{Watched, known_of}
use Rattle.config_assembly.specs.Orders.{Name}
use Rattle.config_assembly.specs.ReachedResources.{Resources, cluster_fate, resources}
use Rattle.config_assembly.specs.Front.{IsFrontAwaited, front, names_of}
use Rattle.config_assembly.specs.Reach.{endpoint_name, is_wanted, reach, roots}
use Rattle.config_assembly.specs.WholeConfigs.{cluster_entry}
use Rattle.config_assembly.specs.Watching.{has_key}
use Rattle.dep_manager.specs.CallsAlone.{AreCallsAlone}
use Rattle.dep_manager.specs.declared.kept_assembly.Kept.{Kept}

-- the Endpoint key of a cluster that has an EDS value
abbrev pub source_of : Resources → Name → Option Key
source_of r name = option_map (r.key Kind.Endpoint) (endpoint_name (cluster_fate r name))

-- those of the leaves of a cluster
abbrev pub sources_of : Resources → Result Leaves Reason → List (Option Key)
sources_of r (Ok leaves) = map (λ leaf. source_of r leaf.name) leaves.leaves
sources_of r (Err reason) = []

-- the configuration as far as it is known: what is awaited is absent from it
abbrev pub config_so_far : Resources → List Name → Config
config_so_far r references = record { front = unwrap_or (front r) (Err Reason.Absent); clusters = map (cluster_entry r) (roots r references) }

-- the least of keys in order
abbrev pub least_of : List Key → Option Key
least_of [] = None
least_of (key ∷ keys) = Some key

-- the configuration, where no key is awaited
abbrev pub config_if : Option Key → Config → Option Config
config_if None config = Some config
config_if (Some key) config = None

-- the same with these marks
abbrev pub kept_with : Kept → List Bool → Kept
kept_with kept marks = record { references = kept.references; calls_alone = kept.calls_alone; awaited = kept.awaited; config = kept.config; sources = kept.sources; others = marks }

-- the same where calls refer to these clusters
abbrev pub kept_for : Kept → List Name → Kept
kept_for kept references = record { references = references; calls_alone = kept.calls_alone; awaited = kept.awaited; config = kept.config; sources = kept.sources; others = kept.others }

-- what is kept was made of what is known here
pub record IsAssembledOf (r : Resources) (reached : List Key) (kept : Kept) : Type 0 where
  pub reached_are : reached ≡ reach r kept.references
  pub awaited_are : kept.awaited.keys ≡ filter (λ key. is_wanted (r.fate key)) reached
  pub config_is : kept.config ≡ config_so_far r kept.references
  pub sources_are : kept.sources ≡ map (λ entry. sources_of r entry.state) kept.config.clusters
  pub front_waits : front r ≡ None → IsFrontAwaited r
  pub alone_are : AreCallsAlone (names_of (front r)) kept.references kept.calls_alone

-- whom the channel calls, what the last update reached, what it made, unless it failed, and the configuration that was handed out
-- last, if any
pub record Managed : Type 0 where
  pub target : Target
  pub reached : List Key
  pub last : Option Kept
  pub shown : Option Config

-- the cache watches the reached keys and no others, and what is kept was made of what it knows
pub record IsKeptOf (entries : List AuthorityEntry) (known : Watched) (target : Target) (reached : List Key) (kept : Kept) : Type 0 where
  pub assembled : IsAssembledOf (resources target entries known) reached kept
  pub watched : (key : Key) → is_some (known_of known key) ≡ has_key reached key
  pub lawful : IsLawfulConfig kept.config

-- what the last update made is right by these authorities and what a cache knows, unless it failed
abbrev pub IsRightBy : List AuthorityEntry → Watched → Managed → Type 0
IsRightBy entries known d = IfSome d.last (IsKeptOf entries known d.target d.reached)

-- the same keys are watched, and of each but these the same is known
pub record AreChanges (old new : Watched) (changed : List Key) : Type 0 where
  pub watched : (key : Key) → is_some (known_of new key) ≡ is_some (known_of old key)
  pub others : (key : Key) → has_key changed key ≡ false → known_of new key ≡ known_of old key

-- these keys have changed since the last update, and no others
abbrev pub HaveChanged : List AuthorityEntry → Managed → Watched → List Key → Type 0
HaveChanged entries d now changed = (known : Watched) × IsRightBy entries known d × AreChanges known now changed
