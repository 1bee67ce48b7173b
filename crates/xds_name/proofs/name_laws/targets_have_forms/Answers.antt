use Rattle.xds_name.proofs.TargetLemmas.{target_found, target_has_form}
use Rattle.xds_name.proofs.name_laws.targets_have_forms.Goals as goal

pub returns : goal.returns
returns c = λ text authority name. (target_has_form text authority name, target_found)
