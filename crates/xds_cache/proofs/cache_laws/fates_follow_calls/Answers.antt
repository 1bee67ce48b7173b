use Rattle.xds_cache.proofs.CallLemmas.{follow_calls}
use Rattle.xds_cache.proofs.cache_laws.fates_follow_calls.Goals as goal

pub returns : goal.returns
returns c = follow_calls
