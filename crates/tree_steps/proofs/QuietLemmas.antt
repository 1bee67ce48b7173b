-- An update that brings nothing new changes no child whose timers haven't ended.
use Rattle.std.proofs.Common.{◌≡◌, ℕ, ◌≤◌, ◌<◌, Bool, true, false, cond, not, ◌&&◌, ◌||◌, List, [], ◌∷◌, ◌++◌, map, Option, Some, None, refl, ap, ◌∙◌, arith}
use Rattle.std.specs.Prelude.{if◌then◌else◌, is_some, unwrap_or}
use Rattle.std.specs.Option.{option_map_or, option_or}
use Rattle.std.specs.List.{zip}
use Rattle.std.proofs.lemmas.Bool.Decides.{nat_tests}
use Rattle.xc_base.specs.declared.names.State.{State}
use Rattle.xc_base.specs.declared.names.Time.{Time}
use Rattle.priority_lb.specs.declared.facts.ChildFacts.{ChildFacts}
use Rattle.priority_lb.specs.ChildWalk.{is_connecting, is_ready, in_order, is_reached, is_behind_ready}
use Rattle.priority_lb.specs.Step.{is_within, was_reached, unused_after, there_after, connecting_after, timed_after, is_pending, with_there, facts_after, Walked, seen, walked}
use Rattle.priority_lb.specs.RunningTimers.{deactivation_end, end_of, failover_end, first_end, never, run_on, runs_on}
use Rattle.graceful_switch.specs.Takeover.{Pair}
use Rattle.tree_steps.specs.TreeSteps.{TreeFacts}
use Rattle.tree_steps.specs.TreeEnds.{stand_at, trees_end}

-- since when a child is out of use, and whether it is there, by what was so before
abbrev unused_by : (R w B : Bool) → Option Time → Time → Option Time
unused_by R w B u now = cond R None (cond w (option_or u (cond B (Some now) None)) None)

abbrev there_by : (R w : Bool) → Time → Option Time → Bool
there_by R w now u = (R || w) && option_map_or (λ since. is_within 900000 now since) u true

kept_since : (b : Bool) (later : Option Time) (x : Time) → cond (b || true) (option_or (Some x) later) None ≡ Some x
kept_since true later x = refl
kept_since false later x = refl

unused_stays : (R w B : Bool) (u : Option Time) (now later : Time) →
    cond R None (cond (there_by R w now (unused_by R w B u now) || is_some (unused_by R w B u now)) (option_or (unused_by R w B u now) (cond B (Some later) None)) None) ≡ unused_by R w B u now
unused_stays true w B u now later = refl
unused_stays false false B u now later = refl
unused_stays false true B (Some x) now later = kept_since (is_within 900000 now x) (cond B (Some later) None) x
unused_stays false true true None now later = kept_since (is_within 900000 now now) (Some later) now
unused_stays false true false None now later = refl

run_out : (limit : ℕ) (now later since : Time) → now.0 ≤ later.0 → is_within limit now since ≡ false → is_within limit later since ≡ false
run_out limit now later since le over = grind (arith, nat_tests)

gone_since : (b : Bool) (now later x : Time) → now.0 ≤ later.0 → is_within 900000 now x ≡ b → (not b || is_within 900000 later x) ≡ true → ((b || true) && is_within 900000 later x) ≡ b
gone_since true now later x le is on = on
gone_since false now later x le is on = run_out 900000 now later x le is

there_stays : (R w B : Bool) (u : Option Time) (now later : Time) → now.0 ≤ later.0 →
    (not (there_by R w now (unused_by R w B u now)) || option_map_or (λ since. is_within 900000 later since) (unused_by R w B u now) true) ≡ true →
    ((R || (there_by R w now (unused_by R w B u now) || is_some (unused_by R w B u now))) && option_map_or (λ since. is_within 900000 later since) (unused_by R w B u now) true) ≡ there_by R w now (unused_by R w B u now)
there_stays true w B u now later le on = refl
there_stays false false B u now later le on = refl
there_stays false true B (Some x) now later le on = gone_since (is_within 900000 now x) now later x le refl on
there_stays false true true None now later le on = gone_since (is_within 900000 now now) now later now le refl on
there_stays false true false None now later le on = refl

connecting_stays : (e : Bool) (c : Option Time) (now later : Time) → cond e (Some (unwrap_or (cond e (Some (unwrap_or c now)) None) later)) None ≡ cond e (Some (unwrap_or c now)) None
connecting_stays true c now later = refl
connecting_stays false c now later = refl

timed_stays : (e d first second : Bool) (c : Option Time) (now : Time) →
    cond e (cond (is_some (cond e (Some (unwrap_or c now)) None)) (cond e (cond (is_some c) d first) false) second) false ≡ cond e (cond (is_some c) d first) false
timed_stays true d first second c now = refl
timed_stays false d first second c now = refl

pending_at : (b : Bool) (now later x : Time) → now.0 ≤ later.0 → is_within 10000 now x ≡ b → (not b || is_within 10000 later x) ≡ true → is_within 10000 later x ≡ b
pending_at true now later x le is on = on
pending_at false now later x le is on = run_out 10000 now later x le is

pending_stays : (d : Bool) (c : Option Time) (now later : Time) → now.0 ≤ later.0 → (not (is_pending d now c) || option_map_or (λ since. is_within 10000 later since) c false) ≡ true → is_pending d later c ≡ is_pending d now c
pending_stays false c now later le on = refl
pending_stays true None now later le on = refl
pending_stays true (Some x) now later le on = pending_at (is_within 10000 now x) now later x le refl on

second_of : (b q : Bool) → (b && q) ≡ true → q ≡ true
second_of true q is = is
second_of false q is = absurd (cc)

first_by : (b q : Bool) → (b && q) ≡ true → b ≡ true
first_by true q is = refl
first_by false q is = absurd (cc)

abbrev made : (a : Bool) → State → (p : Bool) → Option Time → Bool → Option Time → ChildFacts
made a s p c d u = record { there = a; state = s; pending = p; connecting_since = c; timed = d; unused_since = u }

same_made : (a a' : Bool) (s : State) (p p' : Bool) (c c' : Option Time) (d d' : Bool) (u u' : Option Time) → a ≡ a' → p ≡ p' → c ≡ c' → d ≡ d' → u ≡ u' → made a s p c d u ≡ made a' s p' c' d' u'
same_made a a' s p p' c c' d d' u u' ea ep ec ed eu = rw (ea, ep, ec, ed, eu) refl

pub child_stays : (R B : Bool) (now later : Time) (s : State) (k : ChildFacts) → now.0 ≤ later.0 → runs_on later (facts_after R B now s k) ≡ true →
    facts_after R B later s (facts_after R B now s k) ≡ facts_after R B now s k
child_stays R B now later s k le on =
    let new : ChildFacts = facts_after R B now s k in
    let w : Bool = was_reached k in
    let pends : Bool = not new.pending || option_map_or (λ since. is_within 10000 later since) new.connecting_since false in
    let keeps : Bool = not new.there || option_map_or (λ since. is_within 900000 later since) new.unused_since true in
    let eu : unused_after R B later new ≡ new.unused_since = unused_stays R w B k.unused_since now later in
    let et : there_after R later new (unused_after R B later new) ≡ new.there = ap (λ (u : Option Time). there_after R later new u) eu ∙ there_stays R w B k.unused_since now later le (second_of pends keeps on) in
    let e : Bool = new.there && is_connecting s in
    let ec : connecting_after new.there later s new ≡ new.connecting_since = connecting_stays e k.connecting_since now later in
    let ed : timed_after new.there s new ≡ new.timed = timed_stays e k.timed (not k.there || is_ready k.state) (not new.there || is_ready new.state) k.connecting_since now in
    let ep : is_pending (timed_after new.there s new) later (connecting_after new.there later s new) ≡ new.pending =
    ap (λ (d : Bool). is_pending d later (connecting_after new.there later s new)) ed ∙ (ap (λ (c : Option Time). is_pending new.timed later c) ec ∙
    pending_stays new.timed new.connecting_since now later le (first_by pends keeps on)) in
    let here : facts_after R B later s new ≡ with_there new.there new.unused_since later s new =
    ap (λ (a : Bool). with_there a (unused_after R B later new) later s new) et ∙ ap (λ (u : Option Time). with_there new.there u later s new) eu in
    here ∙ same_made _ _ s _ _ _ _ _ _ _ _ refl ep ec ed refl

facts_of : Walked → ChildFacts
facts_of w = w.facts

walked_stays : (now later : Time) (before : List Walked) (k : ChildFacts) (s : State) → now.0 ≤ later.0 → runs_on later (walked now before (k, s)).facts ≡ true →
    walked later before ((walked now before (k, s)).facts, s) ≡ walked now before (k, s)
walked_stays now later before k s le on =
    let make : ChildFacts → Walked = λ f. record { reached = is_reached (map seen before); facts = f } in
    ap make (child_stays (is_reached (map seen before)) (is_behind_ready (map seen before)) now later s k le on)

pub walk_stays : (now later : Time) (before : List Walked) (ks : List ChildFacts) (ss : List State) → now.0 ≤ later.0 → run_on later (map (λ w. w.facts) (in_order (walked now) before (zip ks ss))) ≡ true →
    in_order (walked later) before (zip (map (λ w. w.facts) (in_order (walked now) before (zip ks ss))) ss) ≡ in_order (walked now) before (zip ks ss)
walk_stays now later before [] ss le on = refl
walk_stays now later before (k ∷ ks) [] le on = refl
walk_stays now later before (k ∷ ks) (s ∷ ss) le on =
    let w : Walked = walked now before (k, s) in
    let rest : List Walked = in_order (walked now) (before ++ w ∷ []) (zip ks ss) in
    let head : walked later before (w.facts, s) ≡ w = walked_stays now later before k s le (first_by (runs_on later w.facts) (run_on later (map (λ v. v.facts) rest)) on) in
    let tail = walk_stays now later (before ++ w ∷ []) ks ss le (second_of (runs_on later w.facts) (run_on later (map (λ v. v.facts) rest)) on) in
    ap (λ (v : Walked). v ∷ in_order (walked later) (before ++ v ∷ []) (zip (map (λ v. v.facts) rest) ss)) head ∙ ap (λ (vs : List Walked). w ∷ vs) tail

-- ---- before the first end no timer has ended

both_true : (b q : Bool) → b ≡ true → q ≡ true → (b && q) ≡ true
both_true true q one two = two
both_true false q one two = absurd (cc)

failover_runs : (pending : Bool) (since : Option Time) (later : Time) → later.0 < (if pending then option_map_or (end_of 10000) since 0 else never) → (not pending || option_map_or (λ at. is_within 10000 later at) since false) ≡ true
failover_runs false since later before = refl
failover_runs true None later before = absurd (omega (arith, before))
failover_runs true (Some at) later before = grind (arith, nat_tests)

deactivation_runs : (there : Bool) (since : Option Time) (later : Time) → later.0 < (if there then option_map_or (end_of 900000) since never else never) → (not there || option_map_or (λ at. is_within 900000 later at) since true) ≡ true
deactivation_runs false since later before = refl
deactivation_runs true None later before = refl
deactivation_runs true (Some at) later before = grind (arith, nat_tests)

run_before : (later : Time) (children : List ChildFacts) → later.0 < first_end children → run_on later children ≡ true
run_before later [] before = refl
run_before later (k ∷ ks) before =
    let failover : later.0 < failover_end k = omega (arith, before) in
    let deactivation : later.0 < deactivation_end k = omega (arith, before) in
    both_true (runs_on later k) (run_on later ks)
    (both_true (not k.pending || option_map_or (λ at. is_within 10000 later at) k.connecting_since false) (not k.there || option_map_or (λ at. is_within 900000 later at) k.unused_since true)
    (failover_runs k.pending k.connecting_since later failover) (deactivation_runs k.there k.unused_since later deactivation))
    (run_before later ks (omega (arith, before)))

waits_before : (later : Time) (waiting : Option TreeFacts) → later.0 < option_map_or (λ t. first_end t.children) waiting never → option_map_or (λ t. run_on later t.children) waiting true ≡ true
waits_before later None before = refl
waits_before later (Some t) before = run_before later t.children before

pub stand_before : (later : Time) (trees : Pair TreeFacts) → later.0 < trees_end trees → stand_at later trees ≡ true
stand_before later trees before =
    both_true (run_on later trees.serving.children) (option_map_or (λ t. run_on later t.children) trees.waiting true)
    (run_before later trees.serving.children (omega (arith, before))) (waits_before later trees.waiting (omega (arith, before)))
