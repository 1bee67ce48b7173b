use Rattle.xds_history.proofs.KeepProofs as laws
use Rattle.xds_history.proofs.history_laws.published_has_pinned.Goals as goal

-- src/laws.rt:32:1
pub returns : goal.returns
returns c = laws.published_has_pinned
