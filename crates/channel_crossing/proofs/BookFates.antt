-- Which types of `book_fates` that hold a pattern may cross threads.
use denote.Param.Send.{IsSend, sendable}
use denote.Param.SendFields.{declared_send}
use Rattle.std.proofs.Crossing.{crosses}
use Rattle.channel_crossing.proofs.XdsCache.{cache_send}
use Rattle.xc_base.proofs.list.List.TheSendSync.{the_send as list_send}
use Rattle.xc_base.proofs.names.Key.TheSendSync.{the_send as key_send}
use Rattle.watch_timers.proofs.timers.Timers.TheSendSync.{the_send as timers_send}
use Rattle.config_assembly.proofs.shared_keys.SharedKeys.TheSendSync.{the_send as shared_keys_send}
use Rattle.channel_calls.specs.book_fates.contracts.timed_fates.Fates as Fates

pub fates_send : IsSend Fates.the_row
fates_send = declared_send Fates.the_type (search (sendable, crosses, cache_send, timers_send, shared_keys_send, list_send, key_send) depth 30 steps 3000000)
