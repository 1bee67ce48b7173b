use Rattle.ads_stream.proofs.CallLemmas.{follow_calls}
use Rattle.ads_stream.proofs.stream_laws.requests_follow_calls.Goals as goal

pub returns : goal.returns
returns c = follow_calls
