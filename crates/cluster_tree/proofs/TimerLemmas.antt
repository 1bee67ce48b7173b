-- Which clusters are due, and the ends of the others' timers.
use Rattle.std.proofs.Common.{◌≡◌, ◌<◌, ◌≤◌, ◌+◌, nat_lt, ℕ, Bool, true, false, List, [], length, take, get_or, Result, ◌⊎◌, inl, inr, refl, sym, ap, ◌∙◌, subst, arith}
use Rattle.std.specs.Prelude.{All, Contains}
use Rattle.std.specs.BTreeSet.{BTreeSet}
use Rattle.std.proofs.lemmas.Bool.{cases_lt}
use Rattle.std.proofs.lemmas.Bool.Decides.{nat_tests}
use Rattle.std.proofs.lemmas.List.{get_or_default, get_or-take, length-take-le, take_all}
use Rattle.xc_base.specs.declared.names.Time.{Time}
use Rattle.xc_base.specs.declared.reason.Reason.{Reason}
use Rattle.priority_lb.specs.RunningTimers.{never}
use Rattle.tree_timers.specs.declared.timer_ends.TimerEnd.{TimerEnd}
use Rattle.tree_timers.specs.EndsKept.{Ends, HasEnd, HasPlace, IsDue, KeepsPlaces}
use Rattle.tree_steps.specs.declared.tree_view.TreeView.{TreeView}
use Rattle.tree_steps.specs.Users.{UserList, users_at}
use Rattle.cluster_tree.specs.declared.cluster_trees.Cluster.{Cluster}
use Rattle.cluster_tree.specs.StandingTrees.{until_in}
use Rattle.cluster_tree.specs.ClusterUsers.{StandBut}
use Rattle.cluster_tree.specs.ClusterTimers.{AreKept, AreLeft, AreTimed, AreTimedBut, IsTimed, end_at, is_due_at}
use Rattle.cluster_tree.proofs.MergeLemmas.{none_indexed}

pub kept_timed : (old new : Ends) (place : ℕ) (cluster : Cluster) → ((end : TimerEnd) → HasEnd old end → HasEnd new end) → IsTimed old place cluster → IsTimed new place cluster
kept_timed old new place cluster kept timed runs = kept (end_at place cluster.state) (timed runs)

-- a cluster that stood at its place
pub stood_timed : (marks : List Bool) (ends : Ends) (old new : List Cluster) → StandBut marks old new → AreTimed ends old → (place : ℕ) (d : Cluster) → place < length new → get_or marks place false ≡ false → IsTimed ends place (get_or new place d)
stood_timed marks ends old new stand timed place d lt off =
    let stood = stand.each place d lt off in
    subst (λ (c : Cluster). IsTimed ends place c) (sym stood.1) (timed place d stood.0)

-- ---- which clusters are due

-- a place that isn't due isn't in the set
pub not_there : (due : BTreeSet ℕ) (place : ℕ) → is_due_at due place ≡ false → HasPlace due place → ⊥
not_there due place off there = (let clash : true ≡ false = sym there ∙ off in absurd (cc))

ended_by : (now : Time) (until : ℕ) → nat_lt now.0 until ≡ false → until ≤ now.0
ended_by now until off = grind (arith, nat_tests)

stands_by : (now : Time) (until : ℕ) → (until ≤ now.0 → ⊥) → nat_lt now.0 until ≡ true
stands_by now until never_ended = by (nat_lt now.0 until) refl
  where
    by : (b : Bool) → nat_lt now.0 until ≡ b → b ≡ true
    by true is = refl
    by false is = absurd (never_ended (ended_by now until is))

-- where time goes on, and the readers and the ends that have come are in the set
pub left_by : (last now : Time) (users : UserList) (changed : List (List ℕ)) (ends : Ends) (clusters : List Cluster) (due : BTreeSet ℕ) → last.0 ≤ now.0 → now.0 < never → AreTimed ends clusters →
    ((address : List ℕ) (place : ℕ) → Contains changed address → Contains (users_at users address) place → HasPlace due place) → ((end : TimerEnd) → HasEnd ends end → IsDue now end → HasPlace due end.place) →
    AreLeft last now users changed due clusters
left_by last now users changed ends clusters due le before timed readers ended place d lt off = record {
  unread = λ address has reads. not_there due place off (readers address place has reads);
  stands = stands_by now (until_in (get_or clusters place d).state) (λ over. not_there due place off (ended (end_at place (get_or clusters place d).state) (timed place d lt (omega (arith, over, before))) over));
  goes_on = le;
}

-- those that aren't due have no end that was taken out
pub timed_by : (now : Time) (old new : Ends) (clusters : List Cluster) (due : BTreeSet ℕ) → now.0 < never → AreTimed old clusters → ((end : TimerEnd) → HasEnd old end → IsDue now end → HasPlace due end.place) →
    ((end : TimerEnd) → HasEnd old end → now.0 < end.at.0 → HasEnd new end) → AreTimedBut due new clusters
timed_by now old new clusters due before timed ended kept place d lt off runs = by (cases_lt now.0 (until_in (get_or clusters place d).state))
  where
    own : TimerEnd
    own = end_at place (get_or clusters place d).state

    by : (now.0 < until_in (get_or clusters place d).state) ⊎ (until_in (get_or clusters place d).state ≤ now.0) → HasEnd new own
    by (inl less) = kept own (timed place d lt runs) less
    by (inr over) = absurd (not_there due place off (ended own (timed place d lt runs) over))

-- where all are due, none is left
pub none_left : (last now : Time) (users : UserList) (changed : List (List ℕ)) (clusters : List Cluster) (due : BTreeSet ℕ) → ((place : ℕ) → place < length clusters → HasPlace due place) → AreLeft last now users changed due clusters
none_left last now users changed clusters due all place d lt off = absurd (not_there due place off (all place lt))

pub none_timed : (ends : Ends) (clusters : List Cluster) (due : BTreeSet ℕ) → ((place : ℕ) → place < length clusters → HasPlace due place) → AreTimedBut due ends clusters
none_timed ends clusters due all place d lt off = absurd (not_there due place off (all place lt))

-- ---- no clusters

pub none_kept : (users : UserList) (ends : Ends) (views : List (Result TreeView Reason)) (clusters : List Cluster) → clusters ≡ [] → AreKept users ends views clusters
none_kept users ends views clusters is = record {
  few = omega (arith, ap length is);
  indexed = none_indexed users clusters is;
  timed = λ place d lt. absurd (omega (arith, lt, ap length is));
  seen = λ place d lt. absurd (omega (arith, lt, ap length is));
}

-- ---- places that are added to a set

-- all of the first members, and one more
pub all_more : {X : Type 0} (P Q : X → Type 0) (xs : List X) (i : ℕ) (d : X) → i < length xs → All P (take i xs) → ((x : X) → P x → Q x) → Q (get_or xs i d) → All Q (take (i + 1) xs)
all_more {X} P Q xs i d lt all each here k e within = by (cases_lt k i)
  where
    long : length (take (i + 1) xs) ≡ i + 1
    long = length-take-le (i + 1) xs (omega (arith, lt))

    by : (k < i) ⊎ (i ≤ k) → Q (get_or (take (i + 1) xs) k e)
    by (inl less) =
        let short = length-take-le i xs (omega (arith, lt)) in
        let same : get_or (take i xs) k e ≡ get_or (take (i + 1) xs) k e = get_or-take i xs k e less ∙ sym (get_or-take (i + 1) xs k e (omega (arith, less))) in
        subst Q same (each (get_or (take i xs) k e) (all k e (omega (arith, short, less))))
    by (inr le) =
        let l = long in
        let at : k ≡ i = omega (arith, l, within, le) in
        let same : get_or xs i d ≡ get_or (take (i + 1) xs) k e =
        get_or_default xs i d e lt ∙ (ap (λ (n : ℕ). get_or xs n e) (sym at) ∙ sym (get_or-take (i + 1) xs k e (omega (arith, at)))) in
        subst Q same here

pub all_of : {X : Type 0} (P : X → Type 0) (xs : List X) (i : ℕ) → length xs ≤ i → All P (take i xs) → All P xs
all_of P xs i le all = subst (λ ys. All P ys) (take_all i xs le) all

-- each place below one more
pub below_more : (old new : BTreeSet ℕ) (i : ℕ) → KeepsPlaces old new → HasPlace new i → ((place : ℕ) → place < i → HasPlace old place) → (place : ℕ) → place < i + 1 → HasPlace new place
below_more old new i kept here below place lt = by (cases_lt place i)
  where
    by : (place < i) ⊎ (i ≤ place) → HasPlace new place
    by (inl less) = kept place (below place less)
    by (inr le) = let at : i ≡ place = omega (arith, lt, le) in subst (λ (n : ℕ). HasPlace new n) at here
