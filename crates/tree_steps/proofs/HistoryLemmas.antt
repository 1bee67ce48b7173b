-- What is kept of trees follows their histories.
use Rattle.std.proofs.Common.{◌≡◌, ℕ, Bool, true, false, cond, List, ◌∷◌, length, map, Option, Some, None, refl, sym, ap, ◌∙◌}
use Rattle.std.specs.Prelude.{option_map}
use Rattle.std.proofs.lemmas.List.{length-map}
use Rattle.std.proofs.lemmas.Slice.Zip.{firsts-zip, seconds-zip}
use Rattle.xc_base.specs.declared.names.State.{State}
use Rattle.xc_base.specs.declared.names.Time.{Time}
use Rattle.xds_config.specs.declared.config.Leaves.{Leaves}
use Rattle.priority_lb.specs.declared.facts.ChildFacts.{ChildFacts}
use Rattle.priority_lb.specs.ChildWalk.{chosen}
use Rattle.priority_lb.specs.Step.{step, carried}
use Rattle.priority_lb.specs.ChildHistories.{Name, Update, names_of as names_at}
use Rattle.priority_lb.specs.ChildLaws.{places, all_facts, seen_now}
use Rattle.priority_lb.proofs.HistoryLemmas.{one_step}
use Rattle.graceful_switch.specs.Takeover.{Pair, has_to_wait, settled}
use Rattle.tree_steps.specs.Reports.{Reports, children_of, name_of, child_in, names_of, states_in}
use Rattle.tree_steps.specs.TreeSteps.{TreeFacts, names_before, children_before, begun, stepped, followed, stayed, state_of, is_same}
use Rattle.tree_steps.specs.TreeHistories.{Followed, TreeHistory, update_of, facts_of, past_of, follows, pair_facts, TreesFollowHistory}

long_states : (f : Followed) → length (states_in f.reports f.leaves.leaves) ≡ length (names_of f.leaves.leaves)
long_states f = length-map (children_of f.leaves.leaves) (child_in f.reports) ∙ sym (length-map (children_of f.leaves.leaves) name_of)

named : (f : Followed) → map (λ c. c.0) (update_of f).children ≡ names_of f.leaves.leaves
named f = firsts-zip (names_of f.leaves.leaves) (states_in f.reports f.leaves.leaves) (long_states f)

stated : (f : Followed) → map (λ c. c.1) (update_of f).children ≡ states_in f.reports f.leaves.leaves
stated f = seconds-zip (names_of f.leaves.leaves) (states_in f.reports f.leaves.leaves) (long_states f)

names_kept : (o : Option TreeHistory) → names_before (option_map facts_of o) ≡ names_at (map update_of (past_of o))
names_kept None = refl
names_kept (Some h) = sym (named h.last)

children_kept : (o : Option TreeHistory) → children_before (option_map facts_of o) ≡ all_facts (map update_of (past_of o))
children_kept None = refl
children_kept (Some h) = refl

tree_follows : (now : Time) (r : Reports) (L : Leaves) (o : Option TreeHistory) → facts_of (follows now r L o) ≡ followed now r L (option_map facts_of o)
tree_follows now r L o =
    let f : Followed = record { now = now; reports = r; leaves = L } in
    let past : List Update = map update_of (past_of o) in
    let start : List ChildFacts = carried (places (map (λ c. c.0) (update_of f).children) (names_at past)) (all_facts past) in
    let states : List State = map (λ c. c.1) (update_of f).children in
    let s = one_step (update_of f) past in
    let begin : start ≡ begun L (option_map facts_of o) =
    ap (λ (ns : List Name). carried (places ns (names_at past)) (all_facts past)) (named f) ∙
    (ap (λ (ns : List Name). carried (places (names_of L.leaves) ns) (all_facts past)) (sym (names_kept o)) ∙
    ap (λ (cs : List ChildFacts). carried (places (names_of L.leaves) (names_before (option_map facts_of o))) cs) (sym (children_kept o))) in
    let make : List ChildFacts → ℕ → TreeFacts = λ cs n. record { leaves = L; children = cs; chosen = n } in
    ap (λ (cs : List ChildFacts). make cs (chosen (seen_now (update_of f ∷ past)))) (sym s.0) ∙
    (ap (λ (n : ℕ). make (step now start states) n) (sym s.1) ∙
    (ap (λ (cs : List ChildFacts). stepped now L cs states) begin ∙ ap (λ (ss : List State). stepped now L (begun L (option_map facts_of o)) ss) (stated f)))

abbrev alone : TreeFacts → Pair TreeFacts
alone t = record { serving = t; waiting = None }

abbrev both : TreeFacts → TreeFacts → Pair TreeFacts
both t u = record { serving = t; waiting = Some u }

settled_follows : (wait : Bool) (t u : TreeHistory) → pair_facts (cond wait (record { serving = t; waiting = Some u }) (record { serving = u; waiting = None })) ≡ cond wait (both (facts_of t) (facts_of u)) (alone (facts_of u))
settled_follows true t u = refl
settled_follows false t u = refl

switched : (kind : Bool) (now : Time) (r : Reports) (L : Leaves) (old : Pair TreeHistory) →
    pair_facts (cond kind (record { serving = follows now r L (Some old.serving); waiting = None }) (settled (λ h. state_of (facts_of h)) (follows now r old.serving.last.leaves (Some old.serving)) (Some (follows now r L old.waiting)))) ≡
    cond kind (alone (followed now r L (Some (facts_of old.serving)))) (settled state_of (stayed now r (facts_of old.serving)) (Some (followed now r L (option_map facts_of old.waiting))))
switched true now r L old = ap alone (tree_follows now r L (Some old.serving))
switched false now r L old =
    let t : TreeHistory = follows now r old.serving.last.leaves (Some old.serving) in
    let u : TreeHistory = follows now r L old.waiting in
    settled_follows (has_to_wait (state_of (facts_of t)) (state_of (facts_of u))) t u ∙
    (ap (λ (x : TreeFacts). settled state_of x (Some (facts_of u))) (tree_follows now r old.serving.last.leaves (Some old.serving)) ∙
    ap (λ (x : TreeFacts). settled state_of (stayed now r (facts_of old.serving)) (Some x)) (tree_follows now r L old.waiting))

pub trees_follow_history : TreesFollowHistory
trees_follow_history now r L None = ap alone (tree_follows now r L None)
trees_follow_history now r L (Some old) = switched (is_same old.serving.last.leaves.aggregate L.aggregate) now r L old
