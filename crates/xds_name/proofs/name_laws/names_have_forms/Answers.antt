use Rattle.xds_name.proofs.NameLemmas.{name_found, name_has_form}
use Rattle.xds_name.proofs.name_laws.names_have_forms.Goals as goal

pub returns : goal.returns
returns c = λ text parts. (name_has_form text parts, name_found text parts)
