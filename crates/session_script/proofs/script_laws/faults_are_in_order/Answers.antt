use Rattle.session_script.proofs.TableLemmas.{line_faults}
use Rattle.session_script.proofs.script_laws.faults_are_in_order.Goals as goal

pub returns : goal.returns
returns c = line_faults
