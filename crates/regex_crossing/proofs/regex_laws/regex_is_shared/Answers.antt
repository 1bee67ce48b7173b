use denote.Param.Send.{sendable}
use Rattle.regex_crossing.proofs.RegexCrossing.{regex_sync}
use Rattle.regex_crossing.proofs.regex_laws.regex_is_shared.Goals as goal

pub is_shared-requires-sync-T : goal.is_shared-requires-sync-T
is_shared-requires-sync-T c κs = search (sendable, regex_sync) depth 6 steps 300000
