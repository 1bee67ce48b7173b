use Rattle.xds_history.proofs.LawProofs as laws
use Rattle.xds_history.proofs.history_laws.one_reply.Goals as goal

-- src/laws.rt:5:1
pub returns : goal.returns
returns c = laws.one_reply
