-- Which types of `xds_cache` that hold a pattern may cross threads.
use denote.Param.Send.{IsSend, sendable}
use denote.Param.SendFields.{declared_send, variants_send}
use Rattle.std.proofs.Crossing.{crosses}
use Rattle.std.proofs.MapsCrossing.{crosses as maps}
use Rattle.channel_crossing.proofs.XdsConfig.{value_send}
use Rattle.xc_base.proofs.names.Key.TheSendSync.{the_send as key_send}
use Rattle.xc_base.proofs.reason.Reason.TheSendSync.{the_send as reason_send}
use Rattle.xds_cache.specs.contracts.fate.Known as Known
use Rattle.xds_cache.specs.contracts.cache.Cache as Cache
use Rattle.xds_cache.specs.contracts.cache.Cache.TheInside as CacheInside

pub known_send : IsSend Known.the_row
known_send = variants_send Known.enum (search (sendable, crosses, value_send, reason_send) depth 30 steps 3000000)

pub cache_send : IsSend Cache.the_row
cache_send =
    let inside : IsSend CacheInside.the_row = declared_send CacheInside.the_type (search (sendable, crosses, maps, key_send, known_send) depth 30 steps 3000000) in
    search (sendable, inside) depth 6 steps 300000
