use Rattle.session_script.proofs.FormLemmas.{forms_are_listed}
use Rattle.session_script.proofs.script_laws.forms_are_listed.Goals as goal

pub returns : goal.returns
returns c = forms_are_listed
