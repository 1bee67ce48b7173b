-- What contracts see of a Book, of a lane and of the token of a pin (this project's own).
use Rattle.std.specs.Prelude.{ℕ, List, [], Bool, Result}
use Rattle.boxcar.specs.Table.{Shelves, Where}
use Rattle.xc_base.specs.declared.call.Call.{Call}
use Rattle.xc_base.specs.declared.call.Node.{Node}
use Rattle.xc_base.specs.declared.names.Authority.{Authority}
use Rattle.xc_base.specs.declared.names.Home.TheVariants.{At}
use Rattle.xc_base.specs.declared.names.Kind.TheVariants.{Listener}
use Rattle.xc_base.specs.declared.reason.Reason.{Reason}
use Rattle.xds_bootstrap.specs.declared.bootstrap.Bootstrap.{Bootstrap}
use Rattle.xds_name.specs.declared.target.Target.{Target}
use Rattle.xds_config.specs.declared.config.Front.{Front}
use Rattle.cluster_tree.specs.declared.snapshot.Snapshot.{Snapshot}
use Rattle.call_journal.specs.declared.entry.Entry.{Entry}
use Rattle.call_journal.specs.declared.plan.Count.{Count}
use Rattle.book_driver.specs.config_assembly.Orders.{Name}
pub use Rattle.book_calls.specs.xds_history.References.{snapshots_of}

-- an actor, how far it has come, and the pattern texts that were refused in its entries, in order
pub record LaneView : Type 0 where
  pub actor : ℕ
  pub count : Count
  pub refused : List Name

-- the call whose pin it is, and the ticket of the snapshot that it has pinned
pub record PinnedView : Type 0 where
  pub call : Call
  pub ticket : Where Snapshot

-- The entries with the newest first, how many more are taken without memory, a count for each actor, the tickets of the
-- snapshots that were published, the oldest first, and whether an earlier step of the driver found no memory.
pub record BookView : Type 0 where
  pub entries : List Entry
  pub spare : ℕ
  pub counts : List Count
  pub tickets : List (Where Snapshot)
  pub is_spent : Bool

-- the front of the snapshot that a token reads
abbrev pub pinned_front : PinnedView → Result Front Reason
pinned_front token = token.ticket.value.config.front

-- ---- what a channel is of that is of nothing

abbrev pub no_archive : Shelves
no_archive = record { tag = []; buckets = [] }

abbrev pub no_node : Node
no_node = record { id = []; cluster = []; region = []; zone = []; sub_zone = [] }

abbrev pub no_bootstrap : Bootstrap
no_bootstrap = record { authorities = []; node = no_node }

abbrev pub first_authority : Authority
first_authority = record { 0 = 0 }

abbrev pub no_target : Target
no_target = record { key = record { kind = Listener; name = []; home = At first_authority }; host = [] }
