-- Which types of `dep_manager` that hold a pattern may cross threads.
use denote.Param.Send.{IsSend, sendable}
use denote.Param.SendFields.{declared_send}
use Rattle.std.proofs.Crossing.{crosses}
use Rattle.std.proofs.MapsCrossing.{crosses as maps}
use Rattle.channel_crossing.proofs.XdsConfig.{config_send, config_sync}
use Rattle.config_assembly.proofs.shared_keys.SharedKeys.TheSendSync.{the_send as shared_keys_send}
use Rattle.xc_base.proofs.list.List.TheSendSync.{the_send as list_send}
use Rattle.xc_base.proofs.names.Key.TheSendSync.{the_send as key_send}
use Rattle.xc_base.proofs.shared.Shared.TheSendSync.{the_send as shared_send}
use Rattle.xc_base.proofs.text.Text.TheSendSync.{the_send as text_send}
use Rattle.xds_name.proofs.target.Target.TheSendSync.{the_send as target_send}
use Rattle.dep_manager.specs.contracts.kept_assembly.Kept as Kept
use Rattle.dep_manager.specs.contracts.deps.Deps as Deps
use Rattle.dep_manager.specs.contracts.deps.Deps.TheInside as DepsInside

pub kept_send : IsSend Kept.the_row
kept_send = declared_send Kept.the_type (search (sendable, crosses, maps, list_send, text_send, key_send, shared_send, config_send, config_sync) depth 30 steps 3000000)

pub deps_send : IsSend Deps.the_row
deps_send =
    let inside : IsSend DepsInside.the_row = declared_send DepsInside.the_type (search (sendable, crosses, target_send, shared_keys_send, kept_send, shared_send, config_send, config_sync) depth 30 steps 3000000) in
    search (sendable, inside) depth 6 steps 300000
