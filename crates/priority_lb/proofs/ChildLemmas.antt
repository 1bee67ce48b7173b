-- What a history says of each child.
use Rattle.std.proofs.Common.{◌≡◌, ◌↔◌, ℕ, ◌+◌, ◌-◌, ◌<◌, ◌≤◌, zero, suc, Bool, true, false, cond, not, eqb, ◌&&◌, ◌||◌, List, [], ◌∷◌, ◌++◌, length, take, map, get_or, Option, Some, None, refl, sym, ap, ◌∙◌, subst, arith, append-nil, add-one}
use Rattle.std.specs.Prelude.{unwrap_or, IsTrue}
use Rattle.std.specs.Option.{option_map_or}
use Rattle.std.specs.List.{zip, list_all, list_any, position_from}
use Rattle.std.proofs.lemmas.List.{length-map, get_or-take, length-take-le, ext_get_or, get_or_default}
use Rattle.std.proofs.lemmas.Slice.Zip.{get_or-zip, length-zip}
use Rattle.std.proofs.lemmas.List.Folds.{list_all_more, list_any_at}
use Rattle.std.proofs.Math.Seq.{append_snoc}
use Rattle.std.specs.Cmp.Lexicographic.{pointwise}
use lib.Pointwise.{bytes_decides}
use Rattle.std.proofs.Math.ListN.{get_or-map}
use Rattle.xc_base.specs.declared.names.State.{State}
use Rattle.xc_base.specs.declared.names.State.TheVariants.{Connecting}
use Rattle.xc_base.specs.declared.names.Time.{Time}
use Rattle.priority_lb.specs.declared.facts.ChildFacts.{ChildFacts}
use Rattle.priority_lb.specs.ChildWalk.{Seen, is_ready, is_connecting, stops, is_passed, is_chosen_ready, in_order, is_reached, is_behind_ready, chosen}
use Rattle.priority_lb.specs.Step.{step, carried, fresh, walk, walked}
use Rattle.priority_lb.specs.ChildHistories.{Name, same_name, Update, Mark, Trail, reached_of, behind_of, seen_at, names_of, trail_of, next_trail, trails}
use Rattle.priority_lb.specs.ChildLaws.{places, ManySteps, ChildByChild, IsPassed, child_at, trail_at, seen_in, seen_now, SameNames, PlaceByPlace}
use Rattle.priority_lb.proofs.HistoryLemmas.{one_step}
use Rattle.priority_lb.proofs.WalkLemmas.{length-in_order}

pub many_steps : ManySteps
many_steps [] = refl
many_steps (e ∷ past) = ap (λ (ks : List ChildFacts). step e.now (carried (places (map (λ c. c.0) e.children) (names_of past)) ks) (map (λ c. c.1) e.children)) (many_steps past) ∙ (one_step e past).0

in_order_at : {A B : Type 0} (f : List B → A → B) (before : List B) (xs : List A) (p : ℕ) (db : B) (da : A) → p < length xs →
    get_or (in_order f before xs) p db ≡ f (before ++ take p (in_order f before xs)) (get_or xs p da)
in_order_at f before [] p db da lt = absurd (omega arith)
in_order_at {B = B} f before (x ∷ xs) zero db da lt = ap (λ (bs : List B). f bs x) (sym (append-nil before))
in_order_at {B = B} f before (x ∷ xs) (suc p) db da lt =
    let y : B = f before x in
    let rest : List B = in_order f (before ++ y ∷ []) xs in
    in_order_at f (before ++ y ∷ []) xs p db da (omega arith) ∙ ap (λ (bs : List B). f bs (get_or xs p da)) (append_snoc before y (take p rest))

map_take : {A B : Type 0} (f : A → B) (n : ℕ) (xs : List A) → map f (take n xs) ≡ take n (map f xs)
map_take f zero xs = refl
map_take f (suc n) [] = refl
map_take f (suc n) (x ∷ xs) = ap (λ ys. f x ∷ ys) (map_take f n xs)

and_left : (a b : Bool) → (a && b) ≡ true → a ≡ true
and_left true b e = refl
and_left false b e = e

and_right : (a b : Bool) → (a && b) ≡ true → b ≡ true
and_right true b e = e
and_right false b e = cc

all_at : {X : Type 0} (t : X → Bool) (xs : List X) (k : ℕ) (d : X) → list_all t xs ≡ true → k < length xs → t (get_or xs k d) ≡ true
all_at t [] k d e lt = absurd (omega arith)
all_at t (x ∷ xs) zero d e lt = and_left (t x) (list_all t xs) e
all_at t (x ∷ xs) (suc k) d e lt = all_at t xs k d (and_right (t x) (list_all t xs) e) (omega arith)

at_all : {X : Type 0} (t : X → Bool) (xs : List X) (d : X) → ((k : ℕ) → k < length xs → t (get_or xs k d) ≡ true) → list_all t xs ≡ true
at_all t [] d each = refl
at_all t (x ∷ xs) d each = rw (each zero (omega arith)) (at_all t xs d (λ k lt. each (suc k) (omega arith)))

any_cases : {X : Type 0} (t : X → Bool) (x : X) (xs : List X) (d : X) (b : Bool) → (list_any t xs ≡ true → (k : ℕ) × (k < length xs) × (t (get_or xs k d) ≡ true)) →
    t x ≡ b → (b || list_any t xs) ≡ true → (k : ℕ) × (k < length (x ∷ xs)) × (t (get_or (x ∷ xs) k d) ≡ true)
any_cases t x xs d true more is e = (zero, omega arith, is)
any_cases t x xs d false more is e = let r = more e in (suc r.0, omega arith, r.2)

any_at : {X : Type 0} (t : X → Bool) (xs : List X) (d : X) → list_any t xs ≡ true → (k : ℕ) × (k < length xs) × (t (get_or xs k d) ≡ true)
any_at t [] d e = absurd (not_true e)
  where
    not_true : false ≡ true → ⊥
    not_true e = cc
any_at t (x ∷ xs) d e = any_cases t x xs d (t x) (λ more. any_at t xs d more) refl e

position_at : {X : Type 0} (t : X → Bool) (n : ℕ) (xs : List X) (k : ℕ) (d : X) → k < length xs → ((j : ℕ) → j < k → t (get_or xs j d) ≡ false) → t (get_or xs k d) ≡ true → position_from t n xs ≡ Some (n + k)
position_at t n [] k d lt below is = absurd (omega arith)
position_at t n (x ∷ xs) zero d lt below is = rw is (ap Some (omega arith))
position_at t n (x ∷ xs) (suc k) d lt below is =
    rw (below zero (omega arith)) (position_at t (n + 1) xs k d (omega arith) (λ j lj. below (suc j) (omega arith)) is ∙ ap Some (omega arith))

position_none : {X : Type 0} (t : X → Bool) (n : ℕ) (xs : List X) (k : ℕ) (d : X) → position_from t n xs ≡ None → k < length xs → t (get_or xs k d) ≡ false
position_none t n [] k d none lt = absurd (omega arith)
position_none t n (x ∷ xs) k d none lt = none_cases (t x) t n x xs k d (λ k e l. position_none t (n + 1) xs k d e l) refl none lt
  where
    none_cases : {X : Type 0} (b : Bool) (t : X → Bool) (n : ℕ) (x : X) (xs : List X) (k : ℕ) (d : X) → ((k : ℕ) → position_from t (n + 1) xs ≡ None → k < length xs → t (get_or xs k d) ≡ false) →
        t x ≡ b → cond b (Some n) (position_from t (n + 1) xs) ≡ None → k < length (x ∷ xs) → t (get_or (x ∷ xs) k d) ≡ false
    none_cases true t n x xs k d more is none lt = cc
    none_cases false t n x xs zero d more is none lt = is
    none_cases false t n x xs (suc k) d more is none lt = more k none (omega arith)

position_found : {X : Type 0} (t : X → Bool) (n : ℕ) (xs : List X) (m : ℕ) (d : X) → position_from t n xs ≡ Some m → (k : ℕ) × (m ≡ n + k) × (k < length xs) × (t (get_or xs k d) ≡ true)
position_found t n [] m d e = absurd (not_some e)
  where
    not_some : {m : ℕ} → None ≡ Some m → ⊥
    not_some e = cc
position_found t n (x ∷ xs) m d e = found_cases (t x) t n x xs m d (λ e. position_found t (n + 1) xs m d e) refl e
  where
    found_cases : {X : Type 0} (b : Bool) (t : X → Bool) (n : ℕ) (x : X) (xs : List X) (m : ℕ) (d : X) → (position_from t (n + 1) xs ≡ Some m → (k : ℕ) × (m ≡ n + 1 + k) × (k < length xs) × (t (get_or xs k d) ≡ true)) →
        t x ≡ b → cond b (Some n) (position_from t (n + 1) xs) ≡ Some m → (k : ℕ) × (m ≡ n + k) × (k < length (x ∷ xs)) × (t (get_or (x ∷ xs) k d) ≡ true)
    found_cases true t n x xs m d more is e = (zero, (let f : n ≡ m = cc in omega arith), omega arith, is)
    found_cases false t n x xs m d more is e = let r = more e in (suc r.0, omega arith, omega arith, r.3)

-- a list of children that was read in order
abbrev IsWalk : List Seen → Seen → Type 0
IsWalk cs d = (k : ℕ) → k < length cs → (get_or cs k d).reached ≡ is_reached (take k cs)

passed_not_up : (c : Seen) → is_passed c ≡ true → stops c ≡ false
passed_not_up c e = not_cases (stops c) (and_right c.reached (not (stops c)) e)
  where
    not_cases : (b : Bool) → not b ≡ true → b ≡ false
    not_cases true e = cc
    not_cases false e = refl

or_left : (a b : Bool) → (a || b) ≡ false → a ≡ false
or_left true b e = e
or_left false b e = refl

or_right : (a b : Bool) → (a || b) ≡ false → b ≡ false
or_right true b e = cc
or_right false b e = e

and_false : (a b : Bool) → b ≡ false → (a && b) ≡ false
and_false true b e = e
and_false false b e = refl

pub passed : (c : Seen) → (is_passed c ≡ true) ↔ IsPassed c
passed c = (
  λ (e : is_passed c ≡ true). (and_left c.reached (not (stops c)) e, or_left (is_ready c.state) c.pending (passed_not_up c e), or_right (is_ready c.state) c.pending (passed_not_up c e)),
  λ (h : IsPassed c). rw (h.0, h.1, h.2) refl,
)

reached_at : (cs : List Seen) (p k : ℕ) (d : Seen) → is_reached (take p cs) ≡ true → k < p → p ≤ length cs → is_passed (get_or cs k d) ≡ true
reached_at cs p k d e lt le = subst (λ c. is_passed c ≡ true) (get_or-take p cs k d lt) (all_at is_passed (take p cs) k d e (length_take_lt cs p k lt le))
  where
    length_take_lt : (cs : List Seen) (p k : ℕ) → k < p → p ≤ length cs → k < length (take p cs)
    length_take_lt cs p k lt le = rw (length-take-le p cs le) lt

all_on : (cs : List Seen) (d : Seen) → IsWalk cs d → position_from (λ c. c.reached && stops c) 0 cs ≡ None → (k : ℕ) → k ≤ length cs → is_reached (take k cs) ≡ true
all_on cs d walk none zero le = refl
all_on cs d walk none (suc k) le =
    let before : is_reached (take k cs) ≡ true = all_on cs d walk none k (omega arith) in
    let reached : (get_or cs k d).reached ≡ true = walk k (omega arith) ∙ before in
    let no_stop : ((get_or cs k d).reached && stops (get_or cs k d)) ≡ false = position_none (λ c. c.reached && stops c) 0 cs k d none (omega arith) in
    let on : is_passed (get_or cs k d) ≡ true = on_cases (get_or cs k d).reached (stops (get_or cs k d)) reached no_stop in
    rw (← add-one k) (list_all_more is_passed cs k d (omega arith) ∙ (ap (λ (b : Bool). b && is_passed (get_or cs k d)) before ∙ on))
  where
    on_cases : (r u : Bool) → r ≡ true → (r && u) ≡ false → (r && not u) ≡ true
    on_cases true true e f = cc
    on_cases true false e f = refl
    on_cases false u e f = e

chosen_to : (cs : List Seen) (p : ℕ) (d : Seen) → IsWalk cs d → p ≤ length cs → is_behind_ready (take p cs) ≡ true → (chosen cs < p) × (is_ready (get_or cs (chosen cs) d).state ≡ true)
chosen_to cs p d walk le e =
    let r = any_at is_chosen_ready (take p cs) d e in
    let k : ℕ = r.0 in
    let lk : k < p = (let l = length-take-le p cs le in omega (arith, l, r.1)) in
    let here : is_chosen_ready (get_or cs k d) ≡ true = subst (λ c. is_chosen_ready c ≡ true) (get_or-take p cs k d lk) r.2 in
    let c : Seen = get_or cs k d in
    let is_r : c.reached ≡ true = and_left c.reached (is_ready c.state) here in
    let ready : is_ready c.state ≡ true = and_right c.reached (is_ready c.state) here in
    let before : is_reached (take k cs) ≡ true = sym (walk k (omega arith)) ∙ is_r in
    let up : (c.reached && stops c) ≡ true = rw (is_r, ready) refl in
    let place = position_at (λ c. c.reached && stops c) 0 cs k d (omega arith) (λ j lj. and_false (get_or cs j d).reached (stops (get_or cs j d)) (passed_not_up (get_or cs j d) (reached_at cs k j d before lj (omega arith)))) up in
    let is : chosen cs ≡ k = ap (λ (o : Option ℕ). unwrap_or o (unwrap_or (position_from (λ (c : Seen). is_connecting c.state) 0 cs) (length cs - 1))) place ∙ (omega arith) in
    (rw is lk, rw is ready)

chosen_from : (cs : List Seen) (p : ℕ) (d : Seen) (o : Option ℕ) → position_from (λ c. c.reached && stops c) 0 cs ≡ o → IsWalk cs d → p ≤ length cs → chosen cs < p → is_ready (get_or cs (chosen cs) d).state ≡ true → is_behind_ready (take p cs) ≡ true
chosen_from cs p d (Some m) eo walk le lt ready =
    let r = position_found (λ c. c.reached && stops c) 0 cs m d eo in
    let k : ℕ = r.0 in
    let is : chosen cs ≡ k = ap (λ (o : Option ℕ). unwrap_or o (unwrap_or (position_from (λ (c : Seen). is_connecting c.state) 0 cs) (length cs - 1))) eo ∙ (r.1 ∙ (omega arith)) in
    let lk : k < p = subst (λ n. n < p) is lt in
    let here : is_ready (get_or cs k d).state ≡ true = subst (λ n. is_ready (get_or cs n d).state ≡ true) is ready in
    let reached : (get_or cs k d).reached ≡ true = and_left (get_or cs k d).reached (stops (get_or cs k d)) r.3 in
    let both : is_chosen_ready (get_or cs k d) ≡ true = rw (reached, here) refl in
    let there : is_chosen_ready (get_or (take p cs) k d) ≡ true = rw (get_or-take p cs k d lk) both in
    list_any_at is_chosen_ready (take p cs) k d (rw (length-take-le p cs le) lk) there
chosen_from cs p d None eo walk le lt ready =
    let all : is_reached (take p cs) ≡ true = all_on cs d walk eo p le in
    let on = reached_at cs p (chosen cs) d all lt le in
    let not_ready : is_ready (get_or cs (chosen cs) d).state ≡ false = or_left (is_ready (get_or cs (chosen cs) d).state) (get_or cs (chosen cs) d).pending (passed_not_up (get_or cs (chosen cs) d) on) in
    absurd (both_ways (is_ready (get_or cs (chosen cs) d).state) ready not_ready)
  where
    both_ways : (b : Bool) → b ≡ true → b ≡ false → ⊥
    both_ways b t f = let g : true ≡ false = sym t ∙ f in cc

old_of : List Update → Name × State → Trail × State
old_of past c = (trail_of c.0 (names_of past) (trails past), c.1)

trail_is : (e : Update) (past : List Update) (p : ℕ) → p < length e.children →
    trail_at (e ∷ past) p ≡ next_trail e.now (take p (trails (e ∷ past))) (trail_of (child_at e p).0 (names_of past) (trails past), (child_at e p).1)
trail_is e past p lt =
    let g : Name × State → Trail × State = λ c. (trail_of c.0 (names_of past) (trails past), c.1) in
    let d : Name × State = (([], 0), Connecting) in
    let lx : p < length (map g e.children) = rw (length-map e.children g) lt in
    in_order_at (next_trail e.now) [] (map g e.children) p [] (g d) lx ∙ ap (λ (x : Trail × State). next_trail e.now (take p (trails (e ∷ past))) x) (get_or-map g e.children p d)

pub length_trails : (e : Update) (past : List Update) → length (trails (e ∷ past)) ≡ length e.children
length_trails e past = length-in_order (next_trail e.now) [] _ ∙ length-map e.children _

seen_is : (past : List Update) (k : ℕ) → get_or (seen_now past) k (seen_at []) ≡ seen_in past k
seen_is past k = get_or-map seen_at (trails past) k []

is_walk : (e : Update) (past : List Update) → IsWalk (seen_now (e ∷ past)) (seen_at [])
is_walk e past k lt =
    let lc : k < length e.children = (let a = length-map (trails (e ∷ past)) seen_at in let b = length_trails e past in omega arith) in
    ap (λ (c : Seen). c.reached) (seen_is (e ∷ past) k) ∙ (ap reached_of (trail_is e past k lc) ∙ ap is_reached (map_take seen_at k (trails (e ∷ past))))

passed_in : (e : Update) (past : List Update) (p k : ℕ) → p ≤ length (seen_now (e ∷ past)) → k < length (take p (seen_now (e ∷ past))) → ((k : ℕ) → k < p → IsPassed (seen_in (e ∷ past) k)) →
    is_passed (get_or (take p (seen_now (e ∷ past))) k (seen_at [])) ≡ true
passed_in e past p k le lk each =
    let l = length-take-le p (seen_now (e ∷ past)) le in
    let lt : k < p = omega (arith, l, lk) in
    let is : get_or (take p (seen_now (e ∷ past))) k (seen_at []) ≡ seen_in (e ∷ past) k = get_or-take p (seen_now (e ∷ past)) k (seen_at []) lt ∙ seen_is (e ∷ past) k in
    subst (λ c. is_passed c ≡ true) (sym is) ((passed (seen_in (e ∷ past) k)).1 (each k lt))

abbrev mark : Time → State → Bool → Bool → Mark
mark now s r b = record { now = now; state = s; reached = r; behind = b }

pub child_by_child : ChildByChild
child_by_child e past p lt =
    let T : List Trail = trails (e ∷ past) in
    let S : List Seen = seen_now (e ∷ past) in
    let d : Seen = seen_at [] in
    let E = trail_is e past p lt in
    let lS : p ≤ length S = (let a = length-map T seen_at in let b = length_trails e past in omega arith) in
    let R : reached_of (trail_at (e ∷ past) p) ≡ is_reached (take p S) = ap reached_of E ∙ ap is_reached (map_take seen_at p T) in
    let B : behind_of (trail_at (e ∷ past) p) ≡ is_behind_ready (take p S) = ap behind_of E ∙ ap is_behind_ready (map_take seen_at p T) in
    let old : Trail = trail_of (child_at e p).0 (names_of past) (trails past) in
    record {
      trail =
          E ∙ (ap (λ (r : Bool). mark e.now (child_at e p).1 r (is_behind_ready (map seen_at (take p T))) ∷ old) (sym (ap reached_of E)) ∙
          ap (λ (b : Bool). mark e.now (child_at e p).1 (reached_of (trail_at (e ∷ past) p)) b ∷ old) (sym (ap behind_of E)));
      reached = (
        λ (r : IsTrue (reached_of (trail_at (e ∷ past) p))) k lk. (passed (seen_in (e ∷ past) k)).0 (subst (λ c. is_passed c ≡ true) (seen_is (e ∷ past) k) (reached_at S p k d (sym R ∙ r) lk lS)),
        λ (each : (k : ℕ) → k < p → IsPassed (seen_in (e ∷ past) k)). R ∙ at_all is_passed (take p S) d (λ k lk. passed_in e past p k lS lk each),
      );
      behind = (
        λ (b : IsTrue (behind_of (trail_at (e ∷ past) p))). let h = chosen_to S p d (is_walk e past) lS (sym B ∙ b) in (h.0, subst (λ c. is_ready c.state ≡ true) (seen_is (e ∷ past) (chosen S)) h.1),
        λ (h : (chosen S < p) × IsTrue (is_ready (seen_in (e ∷ past) (chosen S)).state)). B ∙ chosen_from S p d (position_from (λ c. c.reached && stops c) 0 S) refl (is_walk e past) lS h.0 (subst (λ c. is_ready c.state ≡ true) (sym (seen_is (e ∷ past) (chosen S))) h.1),
      );
    }

same_self : (n : Name) → same_name n n ≡ true
same_self n = rw ((bytes_decides n.0 n.0).1 refl) (let h : (pointwise eqb (n.1 ∷ []) (n.1 ∷ [])) ≡ true = (bytes_decides (n.1 ∷ []) (n.1 ∷ [])).1 refl in and_left (eqb n.1 n.1) true h)

pub same_names : SameNames
same_names names kept once same =
    let d : Name = ([], 0) in
    let from : Option ℕ → ChildFacts = λ f. option_map_or (λ p. get_or kept p fresh) f fresh in
    let place : Name → Option ℕ = λ n. position_from (same_name n) 0 names in
    let len : length (carried (places names names) kept) ≡ length kept = length-map (places names names) from ∙ (length-map names place ∙ sym same) in
    ext_get_or (from (place d)) (carried (places names names) kept) kept len
    (λ i lt.
    let ln : i < length names = omega (arith, len, lt, same) in
    let at : place (get_or names i d) ≡ Some i = position_at (same_name (get_or names i d)) 0 names i d ln (λ j lj. once j i d lj ln) (same_self (get_or names i d)) ∙ ap Some (omega arith) in
    get_or-map from (places names names) i (place d) ∙ (ap from (get_or-map place names i d ∙ at) ∙ get_or_default kept i fresh (from (place d)) (omega (arith, ln, same))))

pub place_by_place : PlaceByPlace
place_by_place now kept states p d same lt =
    let lz : p < length (zip kept states) = rw (length-zip kept states) (omega arith) in
    in_order_at (walked now) [] (zip kept states) p d (fresh, Connecting) lz ∙
    ap (λ (x : ChildFacts × State). walked now (take p (walk now kept states)) x) (get_or-zip kept states p (fresh, Connecting) lt (omega arith))
