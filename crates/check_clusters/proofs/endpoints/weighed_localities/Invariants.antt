use Rattle.std.proofs.Common.{◌≡◌, All, drop, filter}
use Rattle.xds_config.specs.Endpoints.{IsLawfulLocality}
use Rattle.check_clusters.specs.Assignments.{locality_of, is_weighed}
use Rattle.check_steps.specs.TableSteps.{each}
use Rattle.check_steps.proofs.EachLemmas.{joined}
use Rattle.check_clusters.proofs.endpoints.weighed_localities.Given as goal

abbrev pub invariant-loop-raw : goal.invariant-loop-raw
invariant-loop-raw l = record {
  value : joined l.localities (each locality_of (filter is_weighed (drop l.raw-index l.raws))) ≡ each locality_of (filter is_weighed l.raws);
  lawful : All IsLawfulLocality l.localities;
}
