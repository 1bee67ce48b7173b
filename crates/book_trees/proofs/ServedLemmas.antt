-- The localities of the children that serve calls.
use Rattle.std.proofs.Common.{◌≡◌, ℕ, zero, suc, ◌<◌, Bool, true, false, cond, List, [], ◌∷◌, length, get_or, Option, Some, None, Result, Ok, Err, refl, sym, ap, ◌∙◌, subst, arith}
use Rattle.std.specs.Prelude.{All, Contains, IfOk, IfSome, option_map, slice_get, unwrap_or}
use Rattle.std.specs.Map.{lookup}
use Rattle.std.specs.Ordering.{nat_cmp, is_eq}
use Rattle.std.specs.Cmp.Lexicographic.{slice_cmp}
use Rattle.std.specs.Option.{option_map_or}
use Rattle.std.proofs.lemmas.Option.{slice_get-map}
use Rattle.std.proofs.lemmas.Map.Text.{is_eq-slice_cmp}
use Rattle.xc_base.specs.declared.names.State.{State}
use Rattle.xc_base.specs.declared.reason.Reason.{Reason}
use Rattle.xds_config.specs.declared.config.Leaf.{Leaf}
use Rattle.xds_config.specs.declared.config.Leaves.{Leaves}
use Rattle.xds_config.specs.declared.config.ClusterEntry.{ClusterEntry}
use Rattle.xds_config.specs.declared.config.Config.{Config}
use Rattle.xds_config.specs.declared.endpoint_values.Locality.{Locality}
use Rattle.xds_config.specs.Configs.{IsLawfulConfig}
use Rattle.graceful_switch.specs.Takeover.{Pair, has_to_wait}
use Rattle.xds_history.specs.tree_steps.Reports.{Reports, at_priority, localities_of, children_of}
use Rattle.xds_history.specs.tree_steps.TreeSteps.{chosen_localities}
use Rattle.xds_history.specs.tree_steps.declared.tree_view.TreeView.{TreeView}
use Rattle.cluster_tree.specs.declared.cluster_trees.Cluster.{Cluster}
use Rattle.cluster_tree.specs.StandingTrees as kept
use Rattle.cluster_tree.specs.ViewChanges as seen
use Rattle.call_journal.specs.declared.event.DriverEvent.{DriverEvent}
use Rattle.call_journal.specs.declared.entry.Entry.{Entry}
use Rattle.xds_history.specs.config_assembly.Orders.{Name}
use Rattle.xds_history.specs.declared.page.Tree.{Tree}
use Rattle.xds_history.specs.declared.page.ClusterTrees.{ClusterTrees}
use Rattle.xds_history.specs.declared.page.Page.{Page}
use Rattle.xds_history.specs.Clock.{reported, state}
use Rattle.xds_history.specs.Page.{config_now, trees_now}
use Rattle.xds_history.specs.Trees.{Present, alone, chosen_place, grown, is_same_kind, leaves_now, new_tree, switched, tree_state, trees_of, trees_with, trees_after}
use Rattle.xds_history.specs.Pickers.{children_view, cluster_view, tree_view, view_with}
use Rattle.xds_history.specs.Pages.{present_after}
use Rattle.book_trees.specs.TreesKept.{AreGrown, AreGrownTrees, AreReportsOf, IsGrownPair, IsGrownTree, StandsFor, kept_cluster, kept_clusters, kept_state, leaves_of}
use Rattle.book_trees.specs.ServedPlaces.{served_in, served_localities}
use Rattle.book_trees.specs.ReportedLaws.{StayKeepsPlaces, TreesServe}
use Rattle.book_trees.proofs.GrownLemmas.{Stands, all_grown, entry_trees, same_both, trees_here}
use Rattle.book_trees.proofs.SeenLemmas.{served_is}
use Rattle.book_trees.proofs.CameLemmas.{reports_more}

-- ---- the localities of the chosen child

pub holds_there : {X : Type 0} (P : X → Type 0) (xs : List X) (k : ℕ) (x : X) → All P xs → slice_get xs k ≡ Some x → P x
holds_there P [] k x all is = absurd (cc)
holds_there P (y ∷ ys) zero x all is = let same : y ≡ x = cc in subst P same (all 0 y (omega arith))
holds_there P (y ∷ ys) (suc k) x all is = holds_there P ys k x (λ j d lt. all (suc j) d (omega (arith, lt))) is

pub served_by : (reports : Reports) (state : Result Leaves Reason) (trees : Option (Pair Tree)) → StandsFor reports state trees →
    option_map_or (λ ts. chosen_localities ts.serving) (kept.trees_in (kept_state reports trees state)) [] ≡ option_map_or (λ pair. served_localities pair.serving) trees []
served_by reports (Ok leaves) (Some pair) is = sym (served_is reports pair.serving is.serving)
served_by reports (Ok leaves) None is = absurd is
served_by reports (Err reason) (Some pair) is = absurd is
served_by reports (Err reason) None is = refl

pub trees_serve : TreesServe
trees_serve past ps t config c place at now is =
    let reports : Reports = t.reports.entries in
    let grown : AreGrown reports config (trees_now ps) = subst (λ o. AreGrownTrees reports o (trees_now ps)) now at.forest.grown in
    let of_entry : ClusterEntry → Cluster = kept_cluster reports (trees_now ps) in
    ap (λ (cs : List Cluster). option_map_or seen.served_localities (slice_get cs place) []) (at.forest.clusters_are ∙ ap (λ (o : Option Config). kept_clusters reports o (trees_now ps)) now)
    ∙ (ap (λ (o : Option Cluster). option_map_or seen.served_localities o []) (slice_get-map of_entry config.clusters place ∙ ap (option_map of_entry) is)
    ∙ served_by reports c.state (trees_of c.name (trees_now ps)) (holds_there (Stands reports (trees_now ps)) config.clusters place c grown.each is))

-- ---- where what is seen stays, so do the localities

-- reports by which addresses have these states after an event
event_reports : (states : Name → State) (last : Reports) (event : DriverEvent) → AreReportsOf states last → (reports : Reports) × AreReportsOf (λ other. reported event other (states other)) reports
event_reports states last (DriverEvent.Endpoint address given) are =
    ((address, given) ∷ last, reports_more states last ((address, given) ∷ last) address given are (λ other. by other))
  where
    turned : (b c : Bool) (found : Option State) → b ≡ c → cond b (Some given) found ≡ cond c (Some given) found
    turned b c found same = rw same refl

    by : (other : Name) → lookup (λ a. is_eq (slice_cmp nat_cmp other a)) ((address, given) ∷ last) ≡ cond (is_eq (slice_cmp nat_cmp address other)) (Some given) (lookup (λ a. is_eq (slice_cmp nat_cmp other a)) last)
    by other = turned (is_eq (slice_cmp nat_cmp other address)) (is_eq (slice_cmp nat_cmp address other)) (lookup (λ a. is_eq (slice_cmp nat_cmp other a)) last)
        (is_eq-slice_cmp other address ∙ (same_both other address ∙ sym (is_eq-slice_cmp address other)))
event_reports states last (DriverEvent.Opened a) are = (last, are)
event_reports states last (DriverEvent.Response a payload) are = (last, are)
event_reports states last (DriverEvent.Bytes a how) are = (last, are)
event_reports states last (DriverEvent.Lost a) are = (last, are)
event_reports states last (DriverEvent.Moment time) are = (last, are)
event_reports states last DriverEvent.Sweep are = (last, are)

abbrev leaf_localities_at : List Leaf → ℕ → List Locality
leaf_localities_at leaves place = option_map_or (λ child. at_priority child.1 (localities_of child.0)) (slice_get (children_of leaves) place) []

-- the localities rest on the leaves and on which child is chosen
same_localities : (last reports : Reports) (before after : Tree) → IsGrownTree last before → IsGrownTree reports after → leaves_now before ≡ leaves_now after → chosen_place before ≡ chosen_place after → served_localities before ≡ served_localities after
same_localities last reports before after was is leaves place =
    served_is last before was
    ∙ (ap (λ (ls : List Leaf). leaf_localities_at ls (chosen_place before)) leaves ∙ (ap (leaf_localities_at (leaves_now after)) place ∙ sym (served_is reports after is)))

none_seen : (waiting : Option Tree) → option_map children_view waiting ≡ None → waiting ≡ None
none_seen None is = refl
none_seen (Some t) is = absurd (cc)

abbrev other_tree : Present → Leaves → Option Tree → Tree
other_tree p leaves waiting = grown p leaves.leaves (unwrap_or waiting (new_tree leaves.aggregate))

settled_leaves : (wait : Bool) (p : Present) (last : Reports) (leaves : Leaves) (pair : Pair Tree) → IsGrownPair last leaves pair → is_same_kind pair.serving.aggregate leaves.aggregate ≡ false →
    (let after : Pair Tree = cond wait (record { serving = grown p (leaves_now pair.serving) pair.serving; waiting = Some (other_tree p leaves pair.waiting) }) (record { serving = other_tree p leaves pair.waiting; waiting = None }) in
    option_map children_view pair.waiting ≡ option_map children_view after.waiting → leaves_now pair.serving ≡ leaves_now after.serving)
settled_leaves true p last leaves pair is kind seen = refl
settled_leaves false p last leaves pair is kind seen =
    let follows : leaves_of pair.serving ≡ leaves = is.alone (none_seen pair.waiting seen) in
    ap (λ (l : Leaves). l.leaves) follows

leaves_by : (kind : Bool) (p : Present) (last : Reports) (leaves : Leaves) (pair : Pair Tree) → IsGrownPair last leaves pair → is_same_kind pair.serving.aggregate leaves.aggregate ≡ kind →
    (let after : Pair Tree = cond kind (alone (grown p leaves.leaves pair.serving)) (switched p leaves pair) in
    option_map children_view pair.waiting ≡ option_map children_view after.waiting → leaves_now pair.serving ≡ leaves_now after.serving)
leaves_by true p last leaves pair is kind seen = ap (λ (l : Leaves). l.leaves) (is.alone (none_seen pair.waiting seen))
leaves_by false p last leaves pair is kind seen =
    settled_leaves (has_to_wait (tree_state (grown p (leaves_now pair.serving) pair.serving)) (tree_state (other_tree p leaves pair.waiting))) p last leaves pair is kind seen

pair_localities : (states : Name → State) (p : Present) (last reports : Reports) (leaves : Leaves) (pair : Pair Tree) → IsGrownPair last leaves pair → IsGrownPair reports leaves (trees_with p leaves (Some pair)) →
    tree_view states pair ≡ tree_view p.state (trees_with p leaves (Some pair)) → served_localities pair.serving ≡ served_localities (trees_with p leaves (Some pair)).serving
pair_localities states p last reports leaves pair was is seen =
    let after : Pair Tree = trees_with p leaves (Some pair) in
    let waits : option_map children_view pair.waiting ≡ option_map children_view after.waiting = ap (λ (v : TreeView). v.waiting) seen in
    let same : leaves_now pair.serving ≡ leaves_now after.serving = leaves_by (is_same_kind pair.serving.aggregate leaves.aggregate) p last leaves pair was refl waits in
    same_localities last reports pair.serving after.serving was.serving is.serving same (ap (λ (v : TreeView). v.chosen) seen)

ok_seen : (a b : TreeView) → (let v : Result TreeView Reason = Ok a in v) ≡ Ok b → a ≡ b
ok_seen a b is = cc

state_localities : (states : Name → State) (p : Present) (last reports : Reports) (old new : List ClusterTrees) (name : Name) (state : Result Leaves Reason) (before after : Option (Pair Tree)) → trees_of name old ≡ before → trees_of name new ≡ after →
    StandsFor last state before → StandsFor reports state after → IfOk state (λ leaves. after ≡ Some (trees_with p leaves before)) →
    cluster_view states old (record { name = name; state = state }) ≡ cluster_view p.state new (record { name = name; state = state }) → option_map_or (λ pair. served_localities pair.serving) before [] ≡ option_map_or (λ pair. served_localities pair.serving) after []
state_localities states p last reports old new name (Ok leaves) (Some pair) after was is stood stands made seen =
    let next : Pair Tree = trees_with p leaves (Some pair) in
    let grown_next : IsGrownPair reports leaves next = subst (StandsFor reports (Ok leaves)) made stands in
    let first : view_with states (trees_of name old) ≡ Ok (tree_view states pair) = ap (λ (o : Option (Pair Tree)). view_with states o) was in
    let second : view_with p.state (trees_of name new) ≡ Ok (tree_view p.state next) = ap (λ (o : Option (Pair Tree)). view_with p.state o) (is ∙ made) in
    let same : tree_view states pair ≡ tree_view p.state next = ok_seen (tree_view states pair) (tree_view p.state next) (sym first ∙ (seen ∙ second)) in
    pair_localities states p last reports leaves pair stood grown_next same ∙ ap (λ (o : Option (Pair Tree)). option_map_or (λ x. served_localities x.serving) o []) (sym made)
state_localities states p last reports old new name (Ok leaves) None after was is stood stands made seen = absurd stood
state_localities states p last reports old new name (Err reason) (Some pair) after was is stood stands made seen = absurd stood
state_localities states p last reports old new name (Err reason) None None was is stood stands made seen = refl
state_localities states p last reports old new name (Err reason) None (Some pair) was is stood stands made seen = absurd stands

trees_made : (p : Present) (old : List ClusterTrees) (name : Name) (state : Result Leaves Reason) → IfOk state (λ leaves. entry_trees p old (record { name = name; state = state }) ≡ Some (trees_with p leaves (trees_of name old)))
trees_made p old name (Ok leaves) = refl
trees_made p old name (Err reason) = tt

at_place : (entries : List ClusterEntry) (c : ClusterEntry) (k : ℕ) (P : ClusterEntry → Type 0) → k < length entries → get_or entries k c ≡ c → All P entries → P c
at_place entries c k P lt is all = subst P is (all k c lt)

-- the localities of a cluster of which the same is seen, where addresses had reported these states at the last update
pub localities_stay : (past : List Entry) (ps : List Page) (last : Reports) (event : DriverEvent) (config : Config) (c : ClusterEntry) → AreReportsOf (state past) last → AreGrown last config (trees_now ps) → IsLawfulConfig config →
    config_now ps ≡ Some config → Contains config.clusters c → cluster_view (state past) (trees_now ps) c ≡ cluster_view (present_after past event).state (trees_after (present_after past event) (trees_now ps) (Some config)) c →
    served_in (trees_now ps) c.name ≡ served_in (trees_after (present_after past event) (trees_now ps) (Some config)) c.name
localities_stay past ps last event config c reported was lawful now (k, lt, is) seen =
    let p : Present = present_after past event in
    let (reports, agree) = event_reports (state past) last event reported in
    let new : List ClusterTrees = trees_after p (trees_now ps) (Some config) in
    let grown_new : AreGrown reports config new = all_grown p last reports (config_now ps) (trees_now ps) config agree lawful (subst (λ o. AreGrownTrees last o (trees_now ps)) (sym now) was) in
    let here : trees_of c.name new ≡ entry_trees p (trees_now ps) c = subst (λ x. trees_of x.name new ≡ entry_trees p (trees_now ps) x) is (trees_here p (trees_now ps) config k c lawful.rising lt) in
    state_localities (state past) p last reports (trees_now ps) new c.name c.state (trees_of c.name (trees_now ps)) (trees_of c.name new) refl refl
    (at_place config.clusters c k (Stands last (trees_now ps)) lt is was.each) (at_place config.clusters c k (Stands reports new) lt is grown_new.each)
    (subst (λ o. IfOk c.state (λ leaves. o ≡ Some (trees_with p leaves (trees_of c.name (trees_now ps))))) (sym here) (trees_made p (trees_now ps) c.name c.state)) seen

pub stay_keeps_places : StayKeepsPlaces
stay_keeps_places past ps t event config c at now there seen =
    localities_stay past ps t.reports.entries event config c at.reports_are (subst (λ o. AreGrownTrees t.reports.entries o (trees_now ps)) now at.forest.grown) (subst (λ o. IfSome o IsLawfulConfig) now at.forest.lawful) now there seen
