-- What a step of the driver publishes (this project's own).
use Rattle.std.specs.Prelude.{◌≡◌, ℕ, List, ◌∷◌, length, false, Option, Some, None, option_map}
use Rattle.boxcar.specs.Table.{Shelves, Where}
use Rattle.xds_config.specs.Configs.{IsLawfulConfig}
use Rattle.cluster_tree.specs.declared.snapshot.Snapshot.{Snapshot}
use Rattle.cluster_tree.specs.StandingTrees.{Forest}
use Rattle.cluster_tree.specs.ViewChanges.{ArePickable}
use Rattle.call_journal.specs.declared.event.DriverEvent.{DriverEvent}
use Rattle.call_journal.specs.declared.reply.DriverReply.{DriverReply}
use Rattle.call_journal.specs.declared.entry.What.{What}
use Rattle.call_journal.specs.declared.entry.Entry.{Entry}
use Rattle.book_calls.specs.xds_history.Setting.{Setting}
use Rattle.book_calls.specs.xds_history.Page.{trees_now}
use Rattle.book_calls.specs.xds_history.Pages.{driven, page_of, pages}
use Rattle.book_calls.specs.xds_history.Right.{Right}
use Rattle.book_calls.specs.CallsKept.{AreCallsAt}
use Rattle.book_calls.specs.declared.calls.Calls.{Calls}
use Rattle.book_driver.specs.ShownTrees.{snapshot_by}
use Rattle.book_driver.specs.declared.configured_trees.Published.{Published}
use Rattle.book_picks.specs.RenewedRows.{AreMarksOf, IsPublishedAt, ServesLocalities}
use Rattle.book_picks.specs.TurnsKept.{AreTurnsAt}
use Rattle.book_picks.specs.declared.kept_turns.Turns.{Turns}

-- a view and a mark for each cluster of a lawful configuration, and picks can be made from each view
pub record IsComplete (p : Published) : Type 0 where
  pub lawful : IsLawfulConfig p.config
  pub views : length p.views ≡ length p.config.clusters
  pub marks : length p.marks ≡ length p.config.clusters
  pub pickable : ArePickable p.views

-- what is kept of picks follows what is published; where nothing is, it stays
abbrev pub Renews : Forest → Option Published → Turns → Turns → Type 0
Renews forest None old new = new ≡ old
Renews forest (Some p) old new =
    (s : Setting) (past : List Entry) (e : Entry) → AreTurnsAt (pages s past) old → IsPublishedAt s past e (snapshot_by p) → ServesLocalities forest p.config (trees_now (pages s (e ∷ past)))
    → (p.is_renamed ≡ false → AreMarksOf p.marks p.config (pages s past) (trees_now (pages s (e ∷ past)))) → AreTurnsAt (pages s (e ∷ past)) new

-- the snapshots that tickets read
abbrev pub snapshot_in : Option (Where Snapshot) → Option Snapshot
snapshot_in ticket = option_map (λ t. t.value) ticket

-- what is kept of calls follows a driver's entry that publishes the snapshot of this ticket, if there is one
abbrev pub Publishes : Shelves → Option (Where Snapshot) → Calls → Calls → Type 0
Publishes archive ticket old new =
    (s : Setting) (past : List Entry) (line : ℕ) (event : DriverEvent) (reply : DriverReply) → Right s (driven 0 line event reply ∷ past)
    → (page_of s (driven 0 line event reply) (What.Driver event reply) past (pages s past)).snapshot ≡ snapshot_in ticket → AreCallsAt archive (pages s past) old → AreCallsAt archive (pages s (driven 0 line event reply ∷ past)) new
