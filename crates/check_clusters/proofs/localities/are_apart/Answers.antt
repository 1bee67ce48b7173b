use Rattle.std.proofs.Common.{◌≡◌, ◌<◌, List, [], ◌∷◌, length, true, refl, arith}
use Rattle.xds_config.specs.declared.endpoint_values.Locality.{Locality}
use Rattle.check_clusters.specs.Assignments.{stand_once}
use Rattle.check_clusters.proofs.localities.are_apart.Goals as goal

few_apart : (ls : List Locality) → length ls < 2 → true ≡ stand_once ls
few_apart [] few = refl
few_apart (l ∷ []) few = refl
few_apart (l ∷ m ∷ ls) few = absurd (omega arith)

pub returns-then-localities-lt2 : goal.returns-then-localities-lt2
returns-then-localities-lt2 c = few_apart c.args.localities.now c.if-localities-lt2.true
