-- The walk of an update, as a loop.
use Rattle.std.proofs.Common.{◌≡◌, ℕ, ◌+◌, ◌-◌, ◌<◌, ◌≤◌, suc, Bool, true, false, cond, not, ◌&&◌, ◌||◌, List, [], ◌∷◌, ◌++◌, length, take, drop, map, get_or, Option, Some, None, refl, sym, ap, ◌∙◌, arith, append-nil, add-one}
use Rattle.std.specs.Prelude.{set, unwrap_or}
use Rattle.std.specs.Option.{option_or}
use Rattle.std.specs.List.{zip, list_all, list_any, position_from}
use Rattle.std.proofs.lemmas.List.{length-map, map-append, take_more, length-take-le, take_all}
use Rattle.std.proofs.lemmas.List.Folds.{list_all-append, list_any-append}
use Rattle.std.proofs.lemmas.Slice.Zip.{get_or-zip, length-zip}
use Rattle.std.proofs.Math.Seq.{set-append_seam, get_or-append_seam, append_snoc, drop-cons}
use Rattle.std.proofs.Math.ListN.{drop_of_length-le}
use Rattle.xc_base.specs.declared.names.State.{State}
use Rattle.xc_base.specs.declared.names.Time.{Time}
use Rattle.priority_lb.specs.declared.facts.ChildFacts.{ChildFacts}
use Rattle.priority_lb.specs.ChildWalk.{Seen, is_ready, is_connecting, stops, is_passed, is_chosen_ready, in_order, is_reached, is_behind_ready, chosen}
use Rattle.priority_lb.specs.Step.{facts_after, Walked, seen, walked, walk, step}

in_order_more : {A B : Type 0} (f : List B → A → B) (before : List B) (xs : List A) (y : A) → in_order f before (xs ++ y ∷ []) ≡ in_order f before xs ++ f (before ++ in_order f before xs) y ∷ []
in_order_more {B = B} f before [] y = ap (λ (bs : List B). f bs y ∷ []) (sym (append-nil before))
in_order_more {B = B} f before (x ∷ xs) y =
    let here : in_order f (before ++ f before x ∷ []) (xs ++ y ∷ []) ≡ in_order f (before ++ f before x ∷ []) xs ++ f ((before ++ f before x ∷ []) ++ in_order f (before ++ f before x ∷ []) xs) y ∷ [] = in_order_more f (before ++ f before x ∷ []) xs y in
    ap (λ (bs : List B). f before x ∷ bs) here ∙
    ap (λ (bs : List B). f before x ∷ (in_order f (before ++ f before x ∷ []) xs ++ f bs y ∷ [])) (append_snoc before (f before x) (in_order f (before ++ f before x ∷ []) xs))

pub length-in_order : {A B : Type 0} (f : List B → A → B) (before : List B) (xs : List A) → length (in_order f before xs) ≡ length xs
length-in_order f before [] = refl
length-in_order f before (x ∷ xs) = ap suc (length-in_order f (before ++ f before x ∷ []) xs)

position_cases : (b : Bool) (n : ℕ) (o p : Option ℕ) → cond b (Some n) (option_or o p) ≡ option_or (cond b (Some n) o) p
position_cases true n o p = refl
position_cases false n o p = refl

position_more : {X : Type 0} (p : X → Bool) (n : ℕ) (xs : List X) (y : X) → position_from p n (xs ++ y ∷ []) ≡ option_or (position_from p n xs) (cond (p y) (Some (n + length xs)) None)
position_more p n [] y = ap (λ (k : ℕ). cond (p y) (Some k) None) (omega arith)
position_more p n (x ∷ xs) y =
    ap (λ (o : Option ℕ). cond (p x) (Some n) o) (position_more p (n + 1) xs y) ∙
    (position_cases (p x) n (position_from p (n + 1) xs) (cond (p y) (Some (n + 1 + length xs)) None) ∙
    ap (λ (k : ℕ). option_or (cond (p x) (Some n) (position_from p (n + 1) xs)) (cond (p y) (Some k) None)) (omega arith))

-- the walk over the first i children
abbrev pub walk_to : Time → List ChildFacts → List State → ℕ → List Walked
walk_to now kept states i = in_order (walked now) [] (take i (zip kept states))

pub record WalkedTo (now : Time) (old : List ChildFacts) (states : List State) (i : ℕ) (kept : List ChildFacts) (reached behind : Bool) (stop : Option ℕ) : Type 0 where
  pub kept_is : kept ≡ map (λ w. w.facts) (walk_to now old states i) ++ drop i old
  pub reached_is : reached ≡ is_reached (map seen (walk_to now old states i))
  pub behind_is : behind ≡ is_behind_ready (map seen (walk_to now old states i))
  pub stop_is : stop ≡ position_from (λ c. c.reached && stops c) 0 (map seen (walk_to now old states i))

walk_more : (now : Time) (old : List ChildFacts) (states : List State) (i : ℕ) (dk : ChildFacts) (ds : State) → i < length old → length states ≡ length old →
    walk_to now old states (i + 1) ≡ walk_to now old states i ++ walked now (walk_to now old states i) (get_or old i dk, get_or states i ds) ∷ []
walk_more now old states i dk ds lt same =
    let lz : i < length (zip old states) = rw (length-zip old states) (omega arith) in
    let ls : i < length states = omega arith in
    ap (λ (xs : List (ChildFacts × State)). in_order (walked now) [] xs) (take_more (zip old states) i (dk, ds) lz) ∙
    (in_order_more (walked now) [] (take i (zip old states)) (get_or (zip old states) i (dk, ds)) ∙
    ap (λ (x : ChildFacts × State). walk_to now old states i ++ walked now (walk_to now old states i) x ∷ []) (get_or-zip old states i (dk, ds) lt ls))

length_walk : (now : Time) (old : List ChildFacts) (states : List State) (i : ℕ) → i ≤ length old → length states ≡ length old → length (walk_to now old states i) ≡ i
length_walk now old states i le same =
    let lz : i ≤ length (zip old states) = rw (length-zip old states) (omega arith) in
    length-in_order (walked now) [] (take i (zip old states)) ∙ length-take-le i (zip old states) lz

reached_cases : (r u : Bool) → (r && not u) ≡ (r && ((r && not u) && true))
reached_cases true true = refl
reached_cases true false = refl
reached_cases false u = refl

behind_cases : (b c : Bool) → (b || c) ≡ (b || (c || false))
behind_cases true c = refl
behind_cases false true = refl
behind_cases false false = refl

pub walk_turn : (now : Time) (old : List ChildFacts) (states : List State) (i : ℕ) (kept : List ChildFacts) (reached behind : Bool) (stop : Option ℕ) (dk : ChildFacts) (ds : State) (next : ChildFacts) (up reached' behind' : Bool) (stop' : Option ℕ) →
    i < length old → length states ≡ length old → WalkedTo now old states i kept reached behind stop →
    next ≡ facts_after reached behind now (get_or states i ds) (get_or kept i dk) →
    up ≡ stops (seen record { reached = true; facts = next }) →
    reached' ≡ (reached && not up) → behind' ≡ (behind || (reached && is_ready next.state)) →
    stop' ≡ option_or stop (cond (reached && up) (Some i) None) →
    WalkedTo now old states (i + 1) (set kept i next) reached' behind' stop'
walk_turn now old states i kept reached behind stop dk ds next up reached' behind' stop' lt same inv next_is up_is r_is b_is s_is =
    let W : List Walked = walk_to now old states i in
    let F : List ChildFacts = map (λ (w : Walked). w.facts) W in
    let o : ChildFacts = get_or old i dk in
    let R : List ChildFacts = drop (suc i) old in
    let w : Walked = walked now W (o, get_or states i ds) in
    let more = walk_more now old states i dk ds lt same in
    let lW : length W ≡ i = length_walk now old states i (omega arith) same in
    let lF : length F ≡ i = length-map W (λ (w : Walked). w.facts) ∙ lW in
    let lS : length (map seen W) ≡ i = length-map W seen ∙ lW in
    let kept_seam : kept ≡ F ++ o ∷ R = inv.kept_is ∙ ap (λ (xs : List ChildFacts). F ++ xs) (drop-cons old i dk lt) in
    let here : get_or kept i dk ≡ o = ap (λ (xs : List ChildFacts). get_or xs i dk) kept_seam ∙ (ap (λ (n : ℕ). get_or (F ++ o ∷ R) n dk) (sym lF) ∙ get_or-append_seam F o R dk) in
    let there : set kept i next ≡ F ++ next ∷ R = ap (λ (xs : List ChildFacts). set xs i next) kept_seam ∙ (ap (λ (n : ℕ). set (F ++ o ∷ R) n next) (sym lF) ∙ set-append_seam F o R next) in
    let next_w : next ≡ w.facts = next_is ∙ (ap (λ (k : ChildFacts). facts_after reached behind now (get_or states i ds) k) here ∙ (ap (λ (r : Bool). facts_after r behind now (get_or states i ds) o) inv.reached_is ∙ ap (λ (b : Bool). facts_after (is_reached (map seen W)) b now (get_or states i ds) o) inv.behind_is)) in
    let up_w : up ≡ stops (seen w) = up_is ∙ ap (λ (k : ChildFacts). stops (seen record { reached = true; facts = k })) next_w in
    let seen_more : map seen (walk_to now old states (i + 1)) ≡ map seen W ++ seen w ∷ [] = ap (λ (ws : List Walked). map seen ws) more ∙ map-append seen W (w ∷ []) in
    record {
      kept_is =
          there ∙ (ap (λ (k : ChildFacts). F ++ k ∷ R) next_w ∙ (sym (append_snoc F w.facts R) ∙
          (ap (λ (xs : List ChildFacts). xs ++ R) (sym (map-append (λ (w : Walked). w.facts) W (w ∷ []))) ∙
          (ap (λ (ws : List Walked). map (λ (w : Walked). w.facts) ws ++ R) (sym more) ∙
          ap (λ (n : ℕ). map (λ (w : Walked). w.facts) (walk_to now old states (i + 1)) ++ drop n old) (sym (add-one i))))));
      reached_is =
          r_is ∙ (ap (λ (u : Bool). reached && not u) up_w ∙ (reached_cases reached (stops (seen w)) ∙
          (ap (λ (r : Bool). r && ((r && not (stops (seen w))) && true)) inv.reached_is ∙
          (sym (list_all-append is_passed (map seen W) (seen w ∷ [])) ∙ ap (λ (xs : List Seen). list_all is_passed xs) (sym seen_more)))));
      behind_is =
          b_is ∙ (ap (λ (k : ChildFacts). behind || (reached && is_ready k.state)) next_w ∙ (behind_cases behind (reached && is_ready w.facts.state) ∙
          (ap (λ (b : Bool). b || ((reached && is_ready w.facts.state) || false)) inv.behind_is ∙
          (ap (λ (r : Bool). is_behind_ready (map seen W) || ((r && is_ready w.facts.state) || false)) inv.reached_is ∙
          (sym (list_any-append is_chosen_ready (map seen W) (seen w ∷ [])) ∙ ap (λ (xs : List Seen). list_any is_chosen_ready xs) (sym seen_more))))));
      stop_is =
          s_is ∙ (ap (λ (u : Bool). option_or stop (cond (reached && u) (Some i) None)) up_w ∙
          (ap (λ (r : Bool). option_or stop (cond (r && stops (seen w)) (Some i) None)) inv.reached_is ∙
          (ap (λ (s : Option ℕ). option_or s (cond (is_reached (map seen W) && stops (seen w)) (Some i) None)) inv.stop_is ∙
          (ap (λ (n : ℕ). option_or (position_from (λ c. c.reached && stops c) 0 (map seen W)) (cond (is_reached (map seen W) && stops (seen w)) (Some n) None)) (sym (let z : 0 + length (map seen W) ≡ i = omega arith in z)) ∙
          (sym (position_more (λ c. c.reached && stops c) 0 (map seen W) (seen w)) ∙ ap (λ (xs : List Seen). position_from (λ c. c.reached && stops c) 0 xs) (sym seen_more))))));
    }

whole : (now : Time) (old : List ChildFacts) (states : List State) (i : ℕ) → length old ≤ i → length states ≡ length old → walk_to now old states i ≡ walk now old states
whole now old states i le same =
    let lz : length (zip old states) ≤ i = rw (length-zip old states) (omega arith) in
    ap (λ (xs : List (ChildFacts × State)). in_order (walked now) [] xs) (take_all i (zip old states) lz)

pub walk_end : (now : Time) (old : List ChildFacts) (states : List State) (i : ℕ) (kept : List ChildFacts) (reached behind : Bool) (stop : Option ℕ) →
    length old ≤ i → length states ≡ length old → WalkedTo now old states i kept reached behind stop →
    (kept ≡ step now old states) × (stop ≡ position_from (λ c. c.reached && stops c) 0 (map seen (walk now old states)))
walk_end now old states i kept reached behind stop le same inv =
    let all = whole now old states i le same in (
      inv.kept_is ∙ (ap (λ (xs : List ChildFacts). map (λ (w : Walked). w.facts) (walk_to now old states i) ++ xs) (drop_of_length-le old le) ∙
          (append-nil (map (λ (w : Walked). w.facts) (walk_to now old states i)) ∙ ap (λ (ws : List Walked). map (λ (w : Walked). w.facts) ws) all)),
      inv.stop_is ∙ ap (λ (ws : List Walked). position_from (λ c. c.reached && stops c) 0 (map seen ws)) all,
    )

position_map : {X Y : Type 0} (p : Y → Bool) (f : X → Y) (n : ℕ) (xs : List X) → position_from p n (map f xs) ≡ position_from (λ x. p (f x)) n xs
position_map p f n [] = refl
position_map p f n (x ∷ xs) = ap (λ (o : Option ℕ). cond (p (f x)) (Some n) o) (position_map p f (n + 1) xs)

pub chosen_is : (now : Time) (old : List ChildFacts) (states : List State) (kept : List ChildFacts) (stop connecting : Option ℕ) (len result : ℕ) →
    kept ≡ step now old states → stop ≡ position_from (λ c. c.reached && stops c) 0 (map seen (walk now old states)) →
    connecting ≡ position_from (λ (k : ChildFacts). is_connecting k.state) 0 kept → len ≡ length kept →
    result ≡ unwrap_or stop (unwrap_or connecting (len - 1)) → result ≡ chosen (map seen (walk now old states))
chosen_is now old states kept stop connecting len result kept_is stop_is connecting_is len_is is =
    let W : List Walked = walk now old states in
    let c : connecting ≡ position_from (λ (s : Seen). is_connecting s.state) 0 (map seen W) =
    connecting_is ∙ (ap (λ (xs : List ChildFacts). position_from (λ (k : ChildFacts). is_connecting k.state) 0 xs) kept_is ∙
    (position_map (λ (k : ChildFacts). is_connecting k.state) (λ (w : Walked). w.facts) 0 W ∙ sym (position_map (λ (s : Seen). is_connecting s.state) seen 0 W))) in
    let l : len ≡ length (map seen W) = len_is ∙ (ap (λ (xs : List ChildFacts). length xs) kept_is ∙ (length-map W (λ (w : Walked). w.facts) ∙ sym (length-map W seen))) in
    is ∙ (ap (λ (o : Option ℕ). unwrap_or o (unwrap_or connecting (len - 1))) stop_is ∙
    (ap (λ (o : Option ℕ). unwrap_or (position_from (λ c. c.reached && stops c) 0 (map seen W)) (unwrap_or o (len - 1))) c ∙
    ap (λ (n : ℕ). unwrap_or (position_from (λ c. c.reached && stops c) 0 (map seen W)) (unwrap_or (position_from (λ (s : Seen). is_connecting s.state) 0 (map seen W)) (n - 1))) l))

position_below : {X : Type 0} (p : X → Bool) (n : ℕ) (xs : List X) (d : ℕ) → d < n + length xs → unwrap_or (position_from p n xs) d < n + length xs
position_below p n [] d lt = lt
position_below p n (x ∷ xs) d lt = below_cases (p x) n (position_from p (n + 1) xs) d (length xs) (let h = position_below p (n + 1) xs d (omega arith) in omega arith)
  where
    below_cases : (b : Bool) (n : ℕ) (o : Option ℕ) (d l : ℕ) → unwrap_or o d < n + suc l → unwrap_or (cond b (Some n) o) d < n + suc l
    below_cases true n o d l h = omega arith
    below_cases false n o d l h = h

pub chosen_below : (cs : List Seen) → 0 < length cs → chosen cs < length cs
chosen_below cs lt =
    let last : length cs - 1 < 0 + length cs = omega arith in
    let connecting = position_below (λ (c : Seen). is_connecting c.state) 0 cs (length cs - 1) last in
    let stop = position_below (λ (c : Seen). c.reached && stops c) 0 cs (unwrap_or (position_from (λ (c : Seen). is_connecting c.state) 0 cs) (length cs - 1)) connecting in
    omega (arith, stop)

-- as many children after an update as before it
pub length_walk_all : (now : Time) (old : List ChildFacts) (states : List State) → length states ≡ length old → length (map seen (walk now old states)) ≡ length old
length_walk_all now old states same = length-map (walk now old states) seen ∙ (length-in_order (walked now) [] (zip old states) ∙ (length-zip old states ∙ (omega arith)))

pub place_below : (now : Time) (old : List ChildFacts) (states : List State) (place : ℕ) → length states ≡ length old → 0 < length old → place ≡ chosen (map seen (walk now old states)) → place < length old
place_below now old states place same some is =
    let l = length_walk_all now old states same in
    let here : 0 < length (map seen (walk now old states)) = rw l some in
    let below = chosen_below (map seen (walk now old states)) here in
    rw (is, ← l) below
