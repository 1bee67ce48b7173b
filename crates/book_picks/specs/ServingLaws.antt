-- What is kept of the trees tells what `renew` asks for.
use Rattle.std.specs.Prelude.{◌≡◌, List, ◌∷◌, Bool, Some, None}
use Rattle.xc_base.specs.declared.names.Kind.{Kind}
use Rattle.xds_bootstrap.specs.declared.bootstrap.Bootstrap.{Bootstrap}
use Rattle.xds_name.specs.declared.target.Target.{Target}
use Rattle.xds_config.specs.declared.config.Config.{Config}
use Rattle.call_journal.specs.declared.event.DriverEvent.{DriverEvent}
use Rattle.call_journal.specs.declared.reply.DriverReply.{DriverReply}
use Rattle.call_journal.specs.declared.entry.What.{What}
use Rattle.call_journal.specs.declared.entry.Entry.{Entry}
use Rattle.book_trees.specs.xds_history.Setting.{Setting, setting_of}
use Rattle.book_trees.specs.xds_history.declared.page.Page.{Page}
use Rattle.book_trees.specs.xds_history.Page.{config_now, trees_now}
use Rattle.book_trees.specs.xds_history.Pages.{pages}
use Rattle.book_trees.specs.xds_history.Right.{Right}
use Rattle.book_trees.specs.declared.reported_trees.ReportedTrees.{ReportedTrees}
use Rattle.book_trees.specs.TreesKept.{AreTreesAt, StayInPlace, cluster_names}
use Rattle.book_picks.specs.declared.kept_turns.Turns.{Turns}
use Rattle.book_picks.specs.TurnsKept.{AreTurnsAt}
use Rattle.book_picks.specs.RenewedRows.{AreMarksOf, ServesLocalities}

-- the kept trees have the localities that are served
abbrev pub TreesServeAll : Type 0
TreesServeAll = (past : List Entry) (ps : List Page) (trees : ReportedTrees) (config : Config) → AreTreesAt past ps trees → config_now ps ≡ Some config → ServesLocalities trees.trees config (trees_now ps)

-- where clusters of the same names stand at the places, the marks of what is seen tell of which clusters something else is served
abbrev pub MarksTellServed : Type 0
MarksTellServed = (s : Setting) (past : List Entry) (e : Entry) (event : DriverEvent) (reply : DriverReply) (config : Config) (marks : List Bool) → e.what ≡ What.Driver event reply →
    StayInPlace marks event past (pages s past) config → cluster_names (config_now (pages s past)) ≡ cluster_names (Some config) → config_now (pages s (e ∷ past)) ≡ Some config →
    AreMarksOf marks config (pages s past) (trees_now (pages s (e ∷ past)))

-- a driver's entry at which nothing is published leaves what is kept of picks as it is
abbrev pub QuietLeavesTurns : Type 0
QuietLeavesTurns = (boot : Bootstrap) (target : Target) (past : List Entry) (e : Entry) (event : DriverEvent) (reply : DriverReply) (trees : ReportedTrees) (turns : Turns) → target.key.kind ≡ Kind.Listener →
    Right (setting_of boot target) (e ∷ past) → e.what ≡ What.Driver event reply → reply.snapshot ≡ None →
    AreTreesAt past (pages (setting_of boot target) past) trees → AreTurnsAt (pages (setting_of boot target) past) turns → AreTurnsAt (pages (setting_of boot target) (e ∷ past)) turns
