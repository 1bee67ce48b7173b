use denote.Param.Send.{sendable}
use Rattle.regex_crossing.proofs.RegexCrossing.{regex_send}
use Rattle.regex_crossing.proofs.regex_laws.regex_is_sent.Goals as goal

pub is_sent-requires-send-T : goal.is_sent-requires-send-T
is_sent-requires-send-T c κs = search (sendable, regex_send) depth 6 steps 300000
