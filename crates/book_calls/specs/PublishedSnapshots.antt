-- The snapshots of a history.
use Rattle.std.specs.Prelude.{◌≡◌, ℕ, ◌+◌, ◌≤◌, List, [], length, slice_get, Some, None}
use Rattle.std.specs.List.{last_or}
use Rattle.xc_base.specs.declared.names.CallId.{CallId}
use Rattle.cluster_tree.specs.declared.snapshot.Snapshot.{Snapshot}
use Rattle.call_journal.specs.declared.entry.Entry.{Entry}
use Rattle.xds_history.specs.Setting.{Setting}
use Rattle.xds_history.specs.declared.page.Page.{Page}
use Rattle.xds_history.specs.Page.{latest}
use Rattle.xds_history.specs.References.{snapshot_at, pinned, snapshots_of}
use Rattle.xds_history.specs.Pages.{pages}
use Rattle.xds_history.specs.Right.{Right}

-- The snapshots are numbered 1, 2 and so on, in their order; the latest is the last one.
pub record AreNumbered (ps : List Page) : Type 0 where
  pub counted : (x : Snapshot) → latest ps ≡ Some x → x.number ≡ length (snapshots_of ps)
  pub none : latest ps ≡ None → snapshots_of ps ≡ []
  pub last : latest ps ≡ last_or None (snapshots_of ps)
  pub zero : snapshot_at 0 ps ≡ None
  pub at : (n : ℕ) → snapshot_at (n + 1) ps ≡ slice_get (snapshots_of ps) n

abbrev pub SnapshotsAreNumbered : Type 0
SnapshotsAreNumbered = (s : Setting) (history : List Entry) → Right s history → AreNumbered (pages s history)

-- a pin is on one of them
abbrev pub PinsHaveSnapshots : Type 0
PinsHaveSnapshots = (s : Setting) (history : List Entry) (id : CallId) (number : ℕ) → Right s history → pinned (pages s history) id ≡ Some number →
    (1 ≤ number) × (number ≤ length (snapshots_of (pages s history)))
