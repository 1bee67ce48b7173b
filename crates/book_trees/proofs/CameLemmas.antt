-- What an event reports.
use Rattle.std.proofs.Common.{◌≡◌, Bool, true, false, cond, List, Option, Some, refl, ap, ◌∙◌}
use Rattle.std.specs.Prelude.{bytes_eq, unwrap_or}
use Rattle.std.specs.Map.{lookup}
use Rattle.std.specs.Ordering.{nat_cmp, is_eq}
use Rattle.std.specs.Cmp.Lexicographic.{slice_cmp}
use Rattle.std.proofs.lemmas.Map.Text.{is_eq-slice_cmp}
use Rattle.xc_base.specs.declared.names.State.{State}
use Rattle.xc_base.specs.declared.names.State.TheVariants.{Connecting}
use Rattle.call_journal.specs.declared.event.DriverEvent.{DriverEvent}
use Rattle.call_journal.specs.declared.entry.Entry.{Entry}
use Rattle.xds_history.specs.tree_steps.Reports.{Reports, state_in}
use Rattle.cluster_tree.proofs.ReportLemmas.{differ_at}
use Rattle.xds_history.specs.config_assembly.Orders.{Name}
use Rattle.xds_history.specs.declared.page.Page.{Page}
use Rattle.xds_history.specs.Clock.{reported, state}
use Rattle.book_trees.specs.declared.reported_trees.ReportedTrees.{ReportedTrees}
use Rattle.book_trees.specs.TreesKept.{AreReportsOf, AreTreesAt, AreTreesWith, IsReport}

reported_by : (b : Bool) (found : Option State) (given : State) → unwrap_or (cond b (Some given) found) Connecting ≡ cond b given (unwrap_or found Connecting)
reported_by true found given = refl
reported_by false found given = refl

pub reports_more : (states : Name → State) (old new : Reports) (address : Name) (given : State) → AreReportsOf states old → IsReport old new address given →
    AreReportsOf (λ other. reported (DriverEvent.Endpoint address given) other (states other)) new
reports_more states old new address given are change = λ other.
    ap (λ (o : Option State). unwrap_or o Connecting) (change other)
    ∙ (reported_by (is_eq (slice_cmp nat_cmp address other)) (lookup (λ a. is_eq (slice_cmp nat_cmp other a)) old) given
    ∙ (ap (λ (b : Bool). cond b given (state_in old other)) (is_eq-slice_cmp address other) ∙ ap (λ (s : State). cond (bytes_eq address other) given s) (are other)))

pub reported_with : (past : List Entry) (ps : List Page) (old new : ReportedTrees) (address : Name) (given : State) → AreTreesAt past ps old → new.now ≡ old.now → new.trees ≡ old.trees →
    IsReport old.reports.entries new.reports.entries address given → AreTreesWith (DriverEvent.Endpoint address given) past ps new
reported_with past ps old new address given at same_now same_trees change = record {
  reports_are = reports_more (state past) old.reports.entries new.reports.entries address given at.reports_are change;
  now_is = same_now ∙ at.now_is;
  last = old.reports.entries;
  last_are = at.reports_are;
  forest = rw same_trees at.forest;
  differ = differ_at old.reports.entries new.reports.entries address given change;
}
