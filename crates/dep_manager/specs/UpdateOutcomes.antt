-- What an update comes to.
use Rattle.std.specs.Prelude.{◌≡◌, ◌↔◌, Bool, List, IfSome, IsNone, IsSome}
use Rattle.xc_base.specs.declared.names.Key.{Key}
use Rattle.xds_config.specs.Configs.{IsLawfulConfig}
use Rattle.config_assembly.specs.Orders.{Name}
use Rattle.config_assembly.specs.ReachedResources.{Resources}
use Rattle.config_assembly.specs.Reach.{missing, reach}
use Rattle.config_assembly.specs.WholeConfigs.{config_where}
use Rattle.dep_manager.specs.declared.kept_assembly.Kept.{Kept}
use Rattle.dep_manager.specs.declared.deps.Outcome.{Outcome}
use Rattle.dep_manager.specs.KeptAssemblies.{config_if, least_of}

-- by the keys that were reached, whether they are known to be those of the update before, and what was made, with these marks
abbrev pub outcome_of : List Key → Bool → Kept → List Bool → Outcome
outcome_of reached stays kept marks = record { reached = reached; missing = least_of kept.awaited.keys; config = config_if (least_of kept.awaited.keys) kept.config; others = marks; stays = stays }

-- by what is known, where these are the clusters to which calls refer
pub record IsOutcomeBy (r : Resources) (references : List Name) (o : Outcome) : Type 0 where
  pub reached_are : o.reached ≡ reach r references
  pub missing_is : o.missing ≡ missing r.fate o.reached
  pub config_is : o.config ≡ config_where o.missing r references
  pub whole : IsSome o.config ↔ IsNone o.missing
  pub lawful : IfSome o.config IsLawfulConfig
