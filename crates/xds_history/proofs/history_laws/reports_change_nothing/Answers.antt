use Rattle.xds_history.proofs.StillProofs as laws
use Rattle.xds_history.proofs.history_laws.reports_change_nothing.Goals as goal

-- src/laws.rt:47:1
pub returns : goal.returns
returns c = laws.reports_change_nothing
