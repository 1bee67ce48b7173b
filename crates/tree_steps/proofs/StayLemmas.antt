-- A cluster that nothing touched stays as it is.
use Rattle.std.proofs.Common.{◌≡◌, ◌≤◌, Bool, true, false, cond, ◌&&◌, List, [], length, map, Option, Some, None, refl, sym, ap, ◌∙◌, arith}
use Rattle.std.specs.Prelude.{option_map}
use Rattle.std.specs.List.{zip}
use Rattle.std.proofs.lemmas.List.{length-map}
use Rattle.std.proofs.lemmas.Slice.Zip.{length-zip}
use Rattle.xc_base.specs.declared.names.State.{State}
use Rattle.xc_base.specs.declared.names.Time.{Time}
use Rattle.xds_config.specs.declared.config.Leaves.{Leaves}
use Rattle.weighted_lb.specs.declared.picker.Picker.{Picker}
use Rattle.priority_lb.specs.declared.facts.ChildFacts.{ChildFacts}
use Rattle.priority_lb.specs.ChildWalk.{chosen}
use Rattle.priority_lb.specs.Step.{Walked, seen, walked, walk}
use Rattle.priority_lb.specs.ChildLaws.{IsEachOnce}
use Rattle.priority_lb.proofs.WalkLemmas.{length-in_order}
use Rattle.priority_lb.proofs.ChildLemmas.{same_names}
use Rattle.graceful_switch.specs.Takeover.{Pair, has_to_wait, settled}
use Rattle.tree_steps.specs.declared.tree_view.TreeView.{TreeView}
use Rattle.tree_steps.specs.Reports.{Reports, children_of, name_of, names_of, states_in, child_in}
use Rattle.tree_steps.specs.TreeSteps.{TreeFacts, begun, followed, stayed, state_of, is_same, has_kind, trees_after, named_children, trees_view, names_before, children_before}
use Rattle.priority_lb.specs.RunningTimers.{run_on}
use Rattle.tree_steps.specs.TreeEnds.{stand_at}
use Rattle.tree_steps.specs.Agree.{AgreeOn}
use Rattle.tree_steps.proofs.ChildLemmas.{length-begun}
use Rattle.tree_steps.proofs.QuietLemmas.{walk_stays}
use Rattle.tree_steps.proofs.AgreeLemmas.{states_same, picker_at_same}

length_states : (r : Reports) (L : Leaves) → length (states_in r L.leaves) ≡ length (names_of L.leaves)
length_states r L = length-map (children_of L.leaves) (child_in r) ∙ sym (length-map (children_of L.leaves) name_of)

length_children : (now : Time) (r : Reports) (L : Leaves) (old : Option TreeFacts) → length (followed now r L old).children ≡ length (names_of L.leaves)
length_children now r L old =
    let ks : List ChildFacts = begun L old in
    let ss : List State = states_in r L.leaves in
    let a = length-map (walk now ks ss) (λ (w : Walked). w.facts) in
    let b = length-in_order (walked now) [] (zip ks ss) in
    let c = length-zip ks ss in
    let d = length-begun (names_of L.leaves) (names_before old) (children_before old) in
    let e = length_states r L in
    omega (arith, a, b, c, d, e)

abbrev with_walk : Leaves → List Walked → TreeFacts
with_walk L ws = record { leaves = L; children = map (λ (w : Walked). w.facts) ws; chosen = chosen (map seen ws) }

-- a tree that follows the same leaves again, where nothing that it reads has changed and no timer has ended
pub tree_stays : (now then : Time) (r s : Reports) (L : Leaves) (old : Option TreeFacts) → now.0 ≤ then.0 → AgreeOn r s L.leaves → IsEachOnce (names_of L.leaves) →
    run_on then (followed now r L old).children ≡ true → followed then s L (Some (followed now r L old)) ≡ followed now r L old
tree_stays now then r s L old le agree once on =
    let ks : List ChildFacts = begun L old in
    let ss : List State = states_in r L.leaves in
    let t : TreeFacts = followed now r L old in
    let kept : begun L (Some t) ≡ t.children = same_names (names_of L.leaves) t.children once (length_children now r L old) in
    let read : states_in s L.leaves ≡ ss = states_same r s L.leaves agree in
    let walks : walk then (begun L (Some t)) (states_in s L.leaves) ≡ walk now ks ss =
    ap (λ (cs : List ChildFacts). walk then cs (states_in s L.leaves)) kept ∙ (ap (λ (xs : List State). walk then t.children xs) read ∙ walk_stays now then [] ks ss le on) in
    ap (with_walk L) walks

same_kind : (b : Bool) → is_same b b ≡ true
same_kind true = refl
same_kind false = refl

abbrev alone : TreeFacts → Pair TreeFacts
alone t = record { serving = t; waiting = None }

abbrev both : TreeFacts → TreeFacts → Pair TreeFacts
both t u = record { serving = t; waiting = Some u }

abbrev serves : Bool → Pair TreeFacts → Pair TreeFacts → Pair TreeFacts
serves b one other = cond b one other

one_stays : (now then : Time) (r s : Reports) (L : Leaves) (old : Option TreeFacts) → now.0 ≤ then.0 → AgreeOn r s L.leaves → IsEachOnce (names_of L.leaves) →
    stand_at then (alone (followed now r L old)) ≡ true → trees_after then s L (Some (alone (followed now r L old))) ≡ alone (followed now r L old)
one_stays now then r s L old le agree once on =
    let t : TreeFacts = followed now r L old in
    let stays = tree_stays now then r s L old le agree once (first_by (run_on then t.children) true on) in
    let other : Pair TreeFacts = settled state_of (stayed then s t) (Some (followed then s L None)) in
    ap (λ (b : Bool). cond b (alone (followed then s L (Some t))) other) (same_kind L.aggregate) ∙ ap alone stays
  where
    first_by : (b q : Bool) → (b && q) ≡ true → b ≡ true
    first_by true q is = refl
    first_by false q is = absurd (cc)

first_of_both : (b q : Bool) → (b && q) ≡ true → b ≡ true
first_of_both true q is = refl
first_of_both false q is = absurd (cc)

second_of_both : (b q : Bool) → (b && q) ≡ true → q ≡ true
second_of_both true q is = is
second_of_both false q is = absurd (cc)

-- what settled leaves, by whether the new one has to wait
two_stay : (wait : Bool) (now then : Time) (r s : Reports) (L : Leaves) (old : TreeFacts) (waited : Option TreeFacts) → now.0 ≤ then.0 →
    is_same old.leaves.aggregate L.aggregate ≡ false → has_to_wait (state_of (stayed now r old)) (state_of (followed now r L waited)) ≡ wait →
    (let ts : Pair TreeFacts = cond wait (both (stayed now r old) (followed now r L waited)) (alone (followed now r L waited)) in
    AgreeOn r s L.leaves → AgreeOn r s ts.serving.leaves.leaves → IsEachOnce (names_of L.leaves) → IsEachOnce (names_of ts.serving.leaves.leaves) → stand_at then ts ≡ true →
    trees_after then s L (Some ts) ≡ ts)
two_stay true now then r s L old waited le kind waits agree agree_old once once_old on =
    let t : TreeFacts = stayed now r old in
    let u : TreeFacts = followed now r L waited in
    let first = tree_stays now then r s old.leaves (Some old) le agree_old once_old (first_of_both (run_on then t.children) (run_on then u.children) on) in
    let second = tree_stays now then r s L waited le agree once (second_of_both (run_on then t.children) (run_on then u.children) on) in
    ap (λ (b : Bool). cond b (alone (followed then s L (Some t))) (settled state_of (stayed then s t) (Some (followed then s L (Some u))))) kind ∙
    (ap (λ (x : TreeFacts). settled state_of x (Some (followed then s L (Some u)))) first ∙
    (ap (λ (x : TreeFacts). settled state_of t (Some x)) second ∙
    ap (λ (b : Bool). cond b (both t u) (alone u)) waits))
two_stay false now then r s L old waited le kind waits agree agree_old once once_old on = one_stays now then r s L waited le agree once on

cases : (b : Bool) (now then : Time) (r s : Reports) (L : Leaves) (old : Pair TreeFacts) → now.0 ≤ then.0 → has_kind L old.serving ≡ b →
    (let ts : Pair TreeFacts = cond b (alone (followed now r L (Some old.serving))) (settled state_of (stayed now r old.serving) (Some (followed now r L old.waiting))) in
    AgreeOn r s L.leaves → AgreeOn r s ts.serving.leaves.leaves → IsEachOnce (names_of L.leaves) → IsEachOnce (names_of ts.serving.leaves.leaves) → stand_at then ts ≡ true →
    trees_after then s L (Some ts) ≡ ts)
cases true now then r s L old le kind agree agree_old once once_old on = one_stays now then r s L (Some old.serving) le agree once on
cases false now then r s L old le kind agree agree_old once once_old on =
    two_stay (has_to_wait (state_of (stayed now r old.serving)) (state_of (followed now r L old.waiting))) now then r s L old.serving old.waiting le kind refl agree agree_old once once_old on

pub trees_stay : (now then : Time) (r s : Reports) (L : Leaves) (old : Option (Pair TreeFacts)) → now.0 ≤ then.0 → AgreeOn r s L.leaves → AgreeOn r s (trees_after now r L old).serving.leaves.leaves →
    IsEachOnce (names_of L.leaves) → IsEachOnce (names_of (trees_after now r L old).serving.leaves.leaves) → stand_at then (trees_after now r L old) ≡ true →
    trees_after then s L (Some (trees_after now r L old)) ≡ trees_after now r L old
trees_stay now then r s L None le agree agree_old once once_old on = one_stays now then r s L None le agree once on
trees_stay now then r s L (Some old) le agree agree_old once once_old on = cases (has_kind L old.serving) now then r s L old le refl agree agree_old once once_old on

pub view_stays : (r s : Reports) (ts : Pair TreeFacts) → AgreeOn r s ts.serving.leaves.leaves → trees_view s ts ≡ trees_view r ts
view_stays r s ts agree =
    let make : Picker → TreeView = λ p. record { children = named_children ts.serving; chosen = ts.serving.chosen; waiting = option_map named_children ts.waiting; picker = p } in
    ap make (picker_at_same r s ts.serving.leaves.leaves ts.serving.chosen agree)
