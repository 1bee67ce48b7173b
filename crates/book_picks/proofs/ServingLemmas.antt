-- What is kept of the trees tells what `renew` asks for, and where nothing is published.
use Rattle.std.proofs.Common.{◌≡◌, ℕ, zero, suc, Bool, List, [], ◌∷◌, refl, sym, ap, ◌∙◌, subst, Option, Some, None}
use Rattle.std.specs.Prelude.{Contains, option_map, option_and_then, slice_get}
use Rattle.std.proofs.lemmas.Option.{get_or_from_slice_get, slice_get-map, slice_get_within}
use Rattle.xc_base.specs.declared.names.State.{State}
use Rattle.xds_config.specs.declared.config.ClusterEntry.{ClusterEntry}
use Rattle.xds_config.specs.declared.config.Config.{Config}
use Rattle.cluster_tree.specs.declared.snapshot.Snapshot.{Snapshot}
use Rattle.call_journal.specs.declared.event.DriverEvent.{DriverEvent}
use Rattle.call_journal.specs.declared.reply.DriverReply.{DriverReply}
use Rattle.call_journal.specs.declared.entry.What.{What}
use Rattle.call_journal.specs.declared.entry.Entry.{Entry}
use Rattle.book_trees.specs.config_assembly.Orders.{Name}
use Rattle.book_trees.specs.xds_history.Setting.{Setting, setting_of}
use Rattle.book_trees.specs.xds_history.declared.page.ClusterTrees.{ClusterTrees}
use Rattle.book_trees.specs.xds_history.declared.page.Page.{Page}
use Rattle.book_trees.specs.xds_history.Clock.{state}
use Rattle.book_trees.specs.xds_history.Page.{config_now, latest, trees_now}
use Rattle.book_trees.specs.xds_history.Pages.{page_of, pages, present_after}
use Rattle.book_trees.specs.xds_history.Trees.{trees_after}
use Rattle.book_trees.specs.xds_history.Pickers.{cluster_view, views}
use Rattle.book_trees.specs.xds_history.Right.{IsNumber, IsReply, shown, standing}
use Rattle.book_trees.specs.declared.reported_trees.ReportedTrees.{ReportedTrees}
use Rattle.book_trees.specs.TreesKept.{AreTreesAt, StayInPlace, StaysInPlace, cluster_names, present, clusters_of}
use Rattle.book_trees.specs.ReportedLaws.{stands_now}
use Rattle.book_trees.proofs.ServedLemmas.{stay_keeps_places, trees_serve}
use Rattle.book_trees.proofs.StayingLemmas.{same_view}
use Rattle.book_trees.proofs.DueNumberLemmas.{latest_shows_what_stands}
use Rattle.book_trees.proofs.TypedLemmas.{configs_are_kept}
use Rattle.book_picks.specs.declared.kept_turns.Turns.{Turns}
use Rattle.book_picks.specs.TurnsKept.{AreTurnsAt}
use Rattle.book_picks.specs.RenewedRows.{AreMarksOf, IsUnmoved, StaysServed}
use Rattle.book_picks.specs.ServingLaws.{MarksTellServed, QuietLeavesTurns, TreesServeAll}
use Rattle.book_picks.proofs.RowLemmas.{config_of}
use Rattle.book_picks.proofs.RenewedLemmas.{drivers_leave}

pub trees_serve_all : TreesServeAll
trees_serve_all past ps trees config at now place entry leaves is state = trees_serve past ps trees config entry place at now is

-- ---- what stays seen stays served

stays_served : (past : List Entry) (ps : List Page) (trees : ReportedTrees) (event : DriverEvent) (config : Config) (place : ℕ) (entry : ClusterEntry) → AreTreesAt past ps trees → config_now ps ≡ Some config → slice_get config.clusters place ≡ Some entry →
    cluster_view (state past) (trees_now ps) entry ≡ cluster_view (present_after past event).state (trees_after (present_after past event) (trees_now ps) (Some config)) entry →
    StaysServed (trees_now ps) (trees_after (present_after past event) (trees_now ps) (Some config)) entry
stays_served past ps trees event config place entry at now is seen =
    let there : Contains config.clusters entry = (place, slice_get_within config.clusters place entry is, get_or_from_slice_get config.clusters place entry entry is) in record {
      states_before = state past;
      states_after = (present_after past event).state;
      view = seen;
      localities = stay_keeps_places past ps trees event config entry at now there seen;
    }

unmoved : (past : List Entry) (ps : List Page) (event : DriverEvent) (config : Config) (place : ℕ) (entry : ClusterEntry) (stood : Option Config) → config_now ps ≡ stood → StaysInPlace event past ps config place entry →
    IsUnmoved stood (trees_now ps) (trees_after (present_after past event) (trees_now ps) (Some config)) place entry
unmoved past ps event config place entry None is stays = absurd (nowhere (ap (option_and_then (λ c. slice_get c.clusters place)) (sym is) ∙ stays.entry_stays))
  where
    nowhere : (let o : Option ClusterEntry = None in o) ≡ Some entry → ⊥
    nowhere is = cc
unmoved past ps event config place entry (Some stood) is stays = record {
  entry_stays = ap (option_and_then (λ c. slice_get c.clusters place)) (sym is) ∙ stays.entry_stays;
  stays = record {
    states_before = state past;
    states_after = (present_after past event).state;
    view = stays.seen_stays;
    localities = stays.served_stays;
  };
}

marks_tell_at : (s : Setting) (past : List Entry) (e : Entry) (event : DriverEvent) (reply : DriverReply) (config : Config) (marks : List Bool) (w : What) → w ≡ What.Driver event reply → StayInPlace marks event past (pages s past) config →
    cluster_names (config_now (pages s past)) ≡ cluster_names (Some config) → (page_of s e w past (pages s past)).config ≡ Some config → AreMarksOf marks config (pages s past) (page_of s e w past (pages s past)).trees
marks_tell_at s past e event reply config marks w is still names after =
    subst (λ v. (page_of s e v past (pages s past)).config ≡ Some config → AreMarksOf marks config (pages s past) (page_of s e v past (pages s past)).trees) (sym is)
    (λ stands. record {
      names_stay = names;
      stay = λ place entry named mark.
          subst (λ c. IsUnmoved (config_now (pages s past)) (trees_now (pages s past)) (trees_after (present_after past event) (trees_now (pages s past)) c) place entry) (sym stands)
          (unmoved past (pages s past) event config place entry (config_now (pages s past)) refl (still.each place entry named mark));
    }) after

pub marks_tell_served : MarksTellServed
marks_tell_served s past e event reply config marks is still names after = marks_tell_at s past e event reply config marks e.what is still names after

-- ---- where nothing is published

none_at : (place : ℕ) (entry : ClusterEntry) → slice_get [] place ≡ Some entry → ⊥
none_at zero entry is = cc
none_at (suc place) entry is = cc

-- what stands is what stood
record StandsStill (past : List Entry) (ps : List Page) (event : DriverEvent) (config : Option Config) (trees : List ClusterTrees) : Type 0 where
  config_is : config ≡ config_now ps
  seen : (place : ℕ) (entry : ClusterEntry) → slice_get (clusters_of (config_now ps)) place ≡ Some entry → cluster_view (state past) (trees_now ps) entry ≡ cluster_view (present_after past event).state trees entry

-- the view of the cluster at a place in the views of a configuration
view_of : (states : Name → State) (trees : List ClusterTrees) (config : Config) (place : ℕ) (entry : ClusterEntry) → slice_get config.clusters place ≡ Some entry → slice_get (views states trees config) place ≡ Some (cluster_view states trees entry)
view_of states trees config place entry is = slice_get-map (cluster_view states trees) config.clusters place ∙ ap (option_map (cluster_view states trees)) is

stands_still : (past : List Entry) (ps : List Page) (event : DriverEvent) (config : Option Config) (trees : List ClusterTrees) (last : Option Snapshot) → stands_now past ps ≡ option_map shown last → (config ≡ None → config_now ps ≡ None) →
    IsNumber (standing (present_after past event) config trees) last None → StandsStill past ps event config trees
stands_still past ps event None trees last shows kept number = record {
  config_is = sym (kept refl);
  seen = λ place entry is. let none : slice_get {X = ClusterEntry} [] place ≡ Some entry = subst (λ c. slice_get (clusters_of c) place ≡ Some entry) (kept refl) is in absurd (none_at place entry none);
}
stands_still past ps event (Some config) trees None shows kept number = absurd (cc number)
stands_still past ps event (Some config) trees (Some last) shows kept number =
    let before = config_of (present past) (trees_now ps) (config_now ps) last shows in
    let same : config ≡ last.config = ap (λ q. q.0) number in
    let seen : views (present_after past event).state trees config ≡ last.trees = ap (λ q. q.1) number in record {
      config_is = ap (λ c. Some c) same ∙ sym before.config_is;
      seen = λ place entry is.
          let at : slice_get last.config.clusters place ≡ Some entry = subst (λ c. slice_get (clusters_of c) place ≡ Some entry) before.config_is is in
          let own : slice_get config.clusters place ≡ Some entry = subst (λ c. slice_get c.clusters place ≡ Some entry) (sym same) at in
          same_view (cluster_view (state past) (trees_now ps) entry) (cluster_view (present_after past event).state trees entry)
          (sym (view_of (state past) (trees_now ps) last.config place entry at) ∙ ap (λ vs. slice_get vs place) (sym before.views_are ∙ sym seen) ∙ view_of (present_after past event).state trees config place entry own);
    }

-- the trees follow the configuration that stays
left_still : (s : Setting) (past : List Entry) (e : Entry) (event : DriverEvent) (reply : DriverReply) (kept_trees : ReportedTrees) (turns : Turns) (config : Option Config) → e.what ≡ What.Driver event reply → config_now (pages s past) ≡ config →
    AreTreesAt past (pages s past) kept_trees → AreTurnsAt (pages s past) turns →
    StandsStill past (pages s past) event (config_now (pages s (e ∷ past))) (trees_now (pages s (e ∷ past))) → trees_now (pages s (e ∷ past)) ≡ trees_after (present_after past event) (trees_now (pages s past)) (config_now (pages s (e ∷ past))) →
    AreTurnsAt (pages s (e ∷ past)) turns
left_still s past e event reply kept_trees turns None is now at are still trees =
    drivers_leave s past e event reply turns is still.config_is (λ place entry named. absurd (none_at place entry (subst (λ c. slice_get (clusters_of c) place ≡ Some entry) now named))) are
left_still s past e event reply kept_trees turns (Some config) is now at are still trees =
    let after : trees_now (pages s (e ∷ past)) ≡ trees_after (present_after past event) (trees_now (pages s past)) (Some config) = trees ∙ ap (λ c. trees_after (present_after past event) (trees_now (pages s past)) c) (still.config_is ∙ now) in
    drivers_leave s past e event reply turns is still.config_is
    (λ place entry named.
    let own : slice_get config.clusters place ≡ Some entry = subst (λ c. slice_get (clusters_of c) place ≡ Some entry) now named in
    subst (λ ts. StaysServed (trees_now (pages s past)) ts entry) (sym after)
    (stays_served past (pages s past) kept_trees event config place entry at now own (still.seen place entry named ∙ ap (λ ts. cluster_view (present_after past event).state ts entry) after)))
    are

trees_by : (s : Setting) (past : List Entry) (e : Entry) (event : DriverEvent) (reply : DriverReply) (w : What) → w ≡ What.Driver event reply →
    (page_of s e w past (pages s past)).trees ≡ trees_after (present_after past event) (trees_now (pages s past)) (page_of s e w past (pages s past)).config
trees_by s past e event reply w is = subst (λ v. (page_of s e v past (pages s past)).trees ≡ trees_after (present_after past event) (trees_now (pages s past)) (page_of s e v past (pages s past)).config) (sym is) refl

number_by : (s : Setting) (past : List Entry) (e : Entry) (event : DriverEvent) (reply : DriverReply) (w : What) → w ≡ What.Driver event reply → reply.snapshot ≡ None → IsReply s e w past (pages s past) →
    IsNumber (standing (present_after past event) (page_of s e w past (pages s past)).config (page_of s e w past (pages s past)).trees) (latest (pages s past)) None
number_by s past e event reply w is none right =
    subst (λ n. IsNumber (standing (present_after past event) (page_of s e w past (pages s past)).config (page_of s e w past (pages s past)).trees) (latest (pages s past)) n) none
    (by_what w is right)
  where
    by_what : (w : What) → w ≡ What.Driver event reply → IsReply s e w past (pages s past) →
        IsNumber (standing (present_after past event) (page_of s e w past (pages s past)).config (page_of s e w past (pages s past)).trees) (latest (pages s past)) reply.snapshot
    by_what w is right =
        subst (λ v. IsReply s e v past (pages s past) → IsNumber (standing (present_after past event) (page_of s e v past (pages s past)).config (page_of s e v past (pages s past)).trees) (latest (pages s past)) reply.snapshot) (sym is)
        (λ r. r.number_is) right

pub quiet_leaves : QuietLeavesTurns
quiet_leaves boot target past e event reply trees turns listener right is none at are =
    let s : Setting = setting_of boot target in
    left_still s past e event reply trees turns (config_now (pages s past)) is refl at are
    (stands_still past (pages s past) event (config_now (pages s (e ∷ past))) (trees_now (pages s (e ∷ past))) (latest (pages s past)) (latest_shows_what_stands boot target past listener right.1)
    (configs_are_kept boot target e past listener) (number_by s past e event reply e.what is none right.0))
    (trees_by s past e event reply e.what is)
