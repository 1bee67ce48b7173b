-- Which types of `book_driver` that hold a pattern may cross threads.
use denote.Param.Send.{IsSend, sendable}
use denote.Param.SendFields.{declared_send}
use Rattle.std.proofs.Crossing.{crosses}
use Rattle.channel_calls.proofs.book_driver.subscriptions.Settled.TheSendSync.{the_send as settled_send}
use Rattle.channel_calls.proofs.book_streams.all_streams.Streams.TheSendSync.{the_send as streams_send}
use Rattle.channel_calls.proofs.book_trees.reported_trees.ReportedTrees.TheSendSync.{the_send as reported_trees_send}
use Rattle.channel_crossing.proofs.BookFates.{fates_send}
use Rattle.channel_crossing.proofs.DepManager.{deps_send}
use Rattle.channel_crossing.proofs.XdsConfig.{config_send, config_sync}
use Rattle.xc_base.proofs.shared.Shared.TheSendSync.{the_send as shared_send}
use Rattle.xds_bootstrap.proofs.bootstrap.Bootstrap.TheSendSync.{the_send as bootstrap_send}
use Rattle.channel_calls.specs.book_driver.contracts.watcher.Watcher as Watcher
use Rattle.channel_calls.specs.book_driver.contracts.subscriptions.Subscriptions as Subscriptions
use Rattle.channel_calls.specs.book_driver.contracts.configured_trees.ConfiguredTrees as ConfiguredTrees
use Rattle.channel_calls.specs.book_driver.contracts.channel_driver.Driver as Driver

pub watcher_send : IsSend Watcher.the_row
watcher_send = declared_send Watcher.the_type (search (sendable, crosses, bootstrap_send, deps_send, streams_send, fates_send) depth 30 steps 3000000)

pub subscriptions_send : IsSend Subscriptions.the_row
subscriptions_send = declared_send Subscriptions.the_type (search (sendable, crosses, watcher_send, settled_send) depth 30 steps 3000000)

pub configured_trees_send : IsSend ConfiguredTrees.the_row
configured_trees_send = declared_send ConfiguredTrees.the_type (search (sendable, crosses, reported_trees_send, shared_send, config_send, config_sync) depth 30 steps 3000000)

pub driver_send : IsSend Driver.the_row
driver_send = declared_send Driver.the_type (search (sendable, crosses, subscriptions_send, configured_trees_send) depth 30 steps 3000000)
