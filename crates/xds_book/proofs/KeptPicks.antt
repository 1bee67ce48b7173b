-- Picks by what is kept.
use Rattle.std.proofs.Common.{◌≡◌, ◌<◌, ◌≤◌, ℕ, ◌^◌, List, length, Option, sym, ap, ◌∙◌, arith}
use Rattle.std.specs.Prelude.{option_map}
use Rattle.boxcar.specs.Table.{Shelves}
use Rattle.xc_base.specs.declared.names.CallId.{CallId}
use Rattle.xc_base.specs.declared.names.Kind.{Kind}
use Rattle.xds_bootstrap.specs.declared.bootstrap.Bootstrap.{Bootstrap}
use Rattle.xds_name.specs.declared.target.Target.{Target}
use Rattle.cluster_tree.specs.declared.snapshot.Snapshot.{Snapshot}
use Rattle.call_journal.specs.declared.entry.Entry.{Entry}
use Rattle.book_driver.specs.config_assembly.Orders.{Name}
use Rattle.book_calls.specs.xds_history.Setting.{setting_of}
use Rattle.book_calls.specs.xds_history.Page.{latest}
use Rattle.book_calls.specs.xds_history.Pages.{pages}
use Rattle.book_calls.specs.xds_history.References.{held}
use Rattle.book_calls.specs.xds_history.Right.{Right, shown}
use Rattle.book_calls.specs.CallsKept.{AreCallsAt}
use Rattle.book_calls.specs.declared.calls.Calls.{Calls}
use Rattle.book_driver.specs.book_trees.TreesKept.{present}
use Rattle.book_driver.proofs.book_trees.DueNumberLemmas.{latest_shows_what_stands}
use Rattle.book_picks.specs.TurnsKept.{IsPickAt}
use Rattle.book_progress.specs.ProgressKept.{most_entries}

small : (n : ℕ) → n ≤ 1048576 → n < 9223372036854775808
small n few = omega (arith, few)

pub few_less : (past : List Entry) → length past ≤ most_entries → length past < 2 ^ 63
few_less past few = small (length past) few

-- a pick of a call, by the cluster that it holds and the latest snapshot as they are kept
pub pick_at : (archive : Shelves) (boot : Bootstrap) (target : Target) (past : List Entry) (id : CallId) (cluster : Option Name) (snapshot : Option Snapshot) (calls : Calls) → target.key.kind ≡ Kind.Listener → Right (setting_of boot target) past
    → AreCallsAt archive (pages (setting_of boot target) past) calls → cluster ≡ held (pages (setting_of boot target) past) id → snapshot ≡ option_map (λ l. l.ticket.value) calls.latest
    → IsPickAt (pages (setting_of boot target) past) id cluster snapshot
pick_at archive boot target past id cluster snapshot calls listener right kept holds is =
    let latest_is : latest (pages (setting_of boot target) past) ≡ snapshot = sym (is ∙ kept.latest_is) in
    record {
      held_is = sym holds;
      latest_is = latest_is;
      present = present past;
      shows = latest_shows_what_stands boot target past listener right ∙ ap (option_map shown) latest_is;
    }
