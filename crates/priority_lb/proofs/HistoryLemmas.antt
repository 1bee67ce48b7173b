-- The facts of a child's trail after one more update.
use Rattle.std.proofs.Common.{◌≡◌, ℕ, Bool, true, false, cond, ◌&&◌, ◌||◌, List, [], ◌∷◌, ◌++◌, map, get_or, Option, Some, None, refl, sym, ap, ◌∙◌}
use Rattle.std.specs.Prelude.{is_some, unwrap_or, option_map}
use Rattle.std.specs.Option.{option_map_or, option_or}
use Rattle.std.specs.List.{zip, position_from}
use Rattle.std.proofs.lemmas.List.{map-append}
use Rattle.std.proofs.Math.ListN.{get_or-map}
use Rattle.xc_base.specs.declared.names.State.{State}
use Rattle.xc_base.specs.declared.names.Time.{Time}
use Rattle.priority_lb.specs.declared.facts.ChildFacts.{ChildFacts}
use Rattle.priority_lb.specs.ChildWalk.{is_connecting, in_order, is_reached, is_behind_ready, chosen}
use Rattle.priority_lb.specs.Step.{fresh, is_within, was_reached, unused_after, there_after, connecting_after, timed_after, is_pending, with_there, facts_after, Walked, seen, walked, walk, carried}
use Rattle.priority_lb.specs.ChildHistories.{Name, same_name, Update, Mark, Trail, now_of, before, first_of, ever_reached, after_reached, unused_from, is_there, connecting_run, connecting_from, is_away_or_ready, is_pending_at, facts, reached_of, seen_at, names_of, trail_of, next_trail, trails}
use Rattle.priority_lb.specs.ChildLaws.{places, start, OneStep}

abbrev mark : Time → State → Bool → Bool → Mark
mark now s reached behind = record { now = now; state = s; reached = reached; behind = behind }

r_cases : (h : Bool) (o : Option Mark) (f : Mark → Bool) → h ≡ ((h && option_map_or f (cond h o None) true) || is_some (option_map (λ (u : Mark). u.now) (cond h o None)))
r_cases false o f = refl
r_cases true None f = refl
r_cases true (Some u) f = or_true (f u)
  where
    or_true : (b : Bool) → true ≡ (b || true)
    or_true true = refl
    or_true false = refl

-- r exists where the child is there or out of use since some time
r_kept : (t : Trail) → ever_reached t ≡ was_reached (facts t)
r_kept t = r_cases (ever_reached t) (first_of (λ m. m.behind) (after_reached t)) (λ u. is_within 900000 (now_of t) u.now)

u_cases : (B h w : Bool) (o : Option Mark) (m : Mark) → h ≡ w → option_map (λ (u : Mark). u.now) (cond h (option_or o (cond B (Some m) None)) None) ≡ cond w (option_or (option_map (λ (u : Mark). u.now) (cond h o None)) (cond B (Some m.now) None)) None
u_cases B false false o m e = refl
u_cases B true false o m e = cc
u_cases B false true o m e = cc
u_cases true true true None m e = refl
u_cases false true true None m e = refl
u_cases B true true (Some u) m e = refl

u_next : (now : Time) (s : State) (R B : Bool) (t : Trail) → option_map (λ (u : Mark). u.now) (unused_from (mark now s R B ∷ t)) ≡ unused_after R B now (facts t)
u_next now s true B t = refl
u_next now s false B t = u_cases B (ever_reached t) (was_reached (facts t)) (first_of (λ m. m.behind) (after_reached t)) (mark now s false B) (r_kept t)

through : (f : Time → Bool) (o : Option Mark) → option_map_or (λ (u : Mark). f u.now) o true ≡ option_map_or f (option_map (λ (u : Mark). u.now) o) true
through f None = refl
through f (Some u) = refl

there_next : (now : Time) (s : State) (R B : Bool) (t : Trail) → is_there (mark now s R B ∷ t) ≡ there_after R now (facts t) (unused_after R B now (facts t))
there_next now s R B t =
    ap (λ (h : Bool). (R || h) && option_map_or (λ (u : Mark). is_within 900000 now u.now) (unused_from (mark now s R B ∷ t)) true) (r_kept t) ∙
    (ap (λ (b : Bool). (R || was_reached (facts t)) && b) (through (λ u. is_within 900000 now u) (unused_from (mark now s R B ∷ t))) ∙
    ap (λ (o : Option Time). (R || was_reached (facts t)) && option_map_or (λ u. is_within 900000 now u) o true) (u_next now s R B t))

abbrev q_after : Bool → Trail → Trail → Option Trail
q_after b new t = first_of (λ s. true) (cond b (new ∷ connecting_run t) [])

connecting_cases : (b : Bool) (o : Option Trail) (rest : List Trail) (new : Trail) → first_of (λ s. true) rest ≡ o →
    option_map (λ (q : Trail). now_of q) (first_of (λ s. true) (cond b (new ∷ rest) [])) ≡ cond b (Some (unwrap_or (option_map (λ (q : Trail). now_of q) o) (now_of new))) None
connecting_cases false o rest new e = refl
connecting_cases true None rest new e = rw e refl
connecting_cases true (Some q) rest new e = rw e refl

timed_cases : (b : Bool) (o : Option Trail) (rest : List Trail) (new : Trail) → first_of (λ s. true) rest ≡ o →
    option_map_or (λ (q : Trail). is_away_or_ready (before q)) (first_of (λ s. true) (cond b (new ∷ rest) [])) false ≡
    cond b (cond (is_some (option_map (λ (q : Trail). now_of q) o)) (option_map_or (λ (q : Trail). is_away_or_ready (before q)) o false) (is_away_or_ready (before new))) false
timed_cases false o rest new e = refl
timed_cases true None rest new e = rw e refl
timed_cases true (Some q) rest new e = rw e refl

pending_cases : (o : Option Trail) (now : Time) → option_map_or (λ (q : Trail). is_away_or_ready (before q) && is_within 10000 now (now_of q)) o false ≡
    (option_map_or (λ (q : Trail). is_away_or_ready (before q)) o false && option_map_or (λ (q : Time). is_within 10000 now q) (option_map (λ (q : Trail). now_of q) o) false)
pending_cases None now = refl
pending_cases (Some q) now = refl

same_kept : (a a' : Bool) (s : State) (p p' : Bool) (c c' : Option Time) (d d' : Bool) (u u' : Option Time) → a ≡ a' → p ≡ p' → c ≡ c' → d ≡ d' → u ≡ u' →
    (let K : ChildFacts = record { there = a; state = s; pending = p; connecting_since = c; timed = d; unused_since = u } in K) ≡ record { there = a'; state = s; pending = p'; connecting_since = c'; timed = d'; unused_since = u' }
same_kept a a' s p p' c c' d d' u u' ea ep ec ed eu = rw (ea, ep, ec, ed, eu) refl

-- one more update of a child's trail is one step on its facts
pub facts_next : (now : Time) (s : State) (R B : Bool) (t : Trail) → facts (mark now s R B ∷ t) ≡ facts_after R B now s (facts t)
facts_next now s R B t =
    let new : Trail = mark now s R B ∷ t in
    let T : Bool = is_there new in
    let ec : option_map (λ (q : Trail). now_of q) (connecting_from new) ≡ connecting_after T now s (facts t) = connecting_cases (T && is_connecting s) (connecting_from t) (connecting_run t) new refl in
    let ed : option_map_or (λ (q : Trail). is_away_or_ready (before q)) (connecting_from new) false ≡ timed_after T s (facts t) = timed_cases (T && is_connecting s) (connecting_from t) (connecting_run t) new refl in
    let ep : is_pending_at new ≡ is_pending (timed_after T s (facts t)) now (connecting_after T now s (facts t)) =
    pending_cases (connecting_from new) now ∙ (ap (λ (d : Bool). is_pending d now (option_map (λ (q : Trail). now_of q) (connecting_from new))) ed ∙ ap (λ (c : Option Time). is_pending (timed_after T s (facts t)) now c) ec) in
    let here : facts new ≡ with_there T (option_map (λ (u : Mark). u.now) (unused_from new)) now s (facts t) = same_kept T T s _ _ _ _ _ _ _ _ refl ep ec ed refl in
    here ∙ (ap (λ (u : Option Time). with_there T u now s (facts t)) (u_next now s R B t) ∙ ap (λ (a : Bool). with_there a (unused_after R B now (facts t)) now s (facts t)) (there_next now s R B t))

-- what is read of children in order is the same in two forms, where each child is
pub in_order_same : {A B C D : Type 0} (f : List B → A → B) (g : List D → C → D) (φ : B → D) (ψ : A → C) →
    ((before : List B) (x : A) → φ (f before x) ≡ g (map φ before) (ψ x)) →
    (before : List B) (xs : List A) → map φ (in_order f before xs) ≡ in_order g (map φ before) (map ψ xs)
in_order_same f g φ ψ each before [] = refl
in_order_same {B = B} {D = D} f g φ ψ each before (x ∷ xs) =
    let more : map φ (before ++ f before x ∷ []) ≡ map φ before ++ g (map φ before) (ψ x) ∷ [] = map-append φ before (f before x ∷ []) ∙ ap (λ (d : D). map φ before ++ d ∷ []) (each before x) in
    rw (in_order_same f g φ ψ each (before ++ f before x ∷ []) xs, more, each before x) refl

map_map : {A B C : Type 0} (g : B → C) (f : A → B) (xs : List A) → map g (map f xs) ≡ map (λ x. g (f x)) xs
map_map g f [] = refl
map_map g f (x ∷ xs) = ap (λ ys. g (f x) ∷ ys) (map_map g f xs)

abbrev pub walked_at : Trail → Walked
walked_at t = record { reached = reached_of t; facts = facts t }

walked_next : (now : Time) (earlier : List Trail) (x : Trail × State) → walked_at (next_trail now earlier x) ≡ walked now (map walked_at earlier) (facts x.0, x.1)
walked_next now earlier x =
    let e : map seen (map walked_at earlier) ≡ map seen_at earlier = map_map seen walked_at earlier in
    rw (e, facts_next now x.1 (is_reached (map seen_at earlier)) (is_behind_ready (map seen_at earlier)) x.0) refl

-- the walk over the facts that the updates before gave
walk_next : (now : Time) (xs : List (Trail × State)) → map walked_at (in_order (next_trail now) [] xs) ≡ in_order (walked now) [] (map (λ (x : Trail × State). (facts x.0, x.1)) xs)
walk_next now xs = in_order_same (next_trail now) (walked now) walked_at (λ (x : Trail × State). (facts x.0, x.1)) (walked_next now) [] xs

facts_named : (trails : List Trail) (p : Option ℕ) → option_map_or (λ p. get_or (map facts trails) p fresh) p fresh ≡ facts (option_map_or (λ p. get_or trails p []) p [])
facts_named trails None = refl
facts_named trails (Some p) = get_or-map facts trails p []

-- the places carry the facts of the names
starts_with : (cs : List (Name × State)) (names : List Name) (ts : List Trail) →
    zip (carried (places (map (λ c. c.0) cs) names) (map facts ts)) (map (λ c. c.1) cs) ≡ map (λ (x : Trail × State). (facts x.0, x.1)) (map (λ (c : Name × State). (trail_of c.0 names ts, c.1)) cs)
starts_with [] names ts = refl
starts_with (c ∷ cs) names ts = rw (starts_with cs names ts, facts_named ts (position_from (same_name c.0) 0 names)) refl

walk_is : (e : Update) (past : List Update) → walk e.now (start e past) (map (λ c. c.1) e.children) ≡ map walked_at (trails (e ∷ past))
walk_is e past = ap (λ xs. in_order (walked e.now) [] xs) (starts_with e.children (names_of past) (trails past)) ∙ sym (walk_next e.now (map (λ (c : Name × State). (trail_of c.0 (names_of past) (trails past), c.1)) e.children))

pub one_step : OneStep
one_step e past = (
  ap (λ ws. map (λ (w : Walked). w.facts) ws) (walk_is e past) ∙ map_map (λ (w : Walked). w.facts) walked_at (trails (e ∷ past)),
  ap (λ ws. chosen (map seen ws)) (walk_is e past) ∙ ap chosen (map_map seen walked_at (trails (e ∷ past))),
)
