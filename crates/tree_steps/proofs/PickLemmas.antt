-- The READY localities of a priority can be chosen by weight.
use Rattle.std.proofs.Common.{◌≡◌, ◌==◌, ℕ, zero, suc, ◌+◌, ◌<◌, ◌≤◌, ◌^◌, Bool, true, false, cond, List, [], ◌∷◌, length, map, filter, sum, refl, sym, ap, ◌∙◌, subst, arith}
use Rattle.std.specs.Prelude.{All, IfOk, IfSome, Option, Some, None, Result, Ok, Err, slice_get}
use Rattle.std.specs.Option.{option_map_or}
use Rattle.std.specs.List.{list_any}
use Rattle.std.proofs.lemmas.List.{length-map}
use Rattle.std.proofs.lemmas.List.Elements.{All-cons, All-filter}
use Rattle.std.proofs.lemmas.List.Sums.{sum_by-cons}
use Rattle.xc_base.specs.declared.names.State.{State}
use Rattle.xc_base.specs.declared.names.State.TheVariants.{Connecting, Ready, Failing}
use Rattle.xc_base.specs.declared.reason.Reason.{Reason}
use Rattle.xds_config.specs.declared.config.Leaf.{Leaf}
use Rattle.xds_config.specs.declared.endpoint_values.EndpointValue.{EndpointValue}
use Rattle.xds_config.specs.declared.endpoint_values.Locality.{Locality}
use Rattle.xds_config.specs.Endpoints.{IsLawfulEndpoints, IsLawfulLocality}
use Rattle.weight_pick.specs.Weights.{AreWeights}
use Rattle.weighted_lb.specs.States.{is_ready, is_connecting, joined}
use Rattle.weighted_lb.specs.declared.picker.Part.{Part as OnePart}
use Rattle.weighted_lb.specs.declared.picker.PickBody.TheVariants as body
use Rattle.weighted_lb.specs.Pick.{weights_of, HasEndpoints, IsPickable}
use Rattle.tree_steps.specs.Reports.{Reports, Child, state_in, locality_in, at_priority, priority_in, children_of}
use Rattle.tree_steps.specs.TreePickers.{part_at, parts_from, parts_of, endpoint_body, picker_in, child_picker, picker_at}
use Rattle.tree_steps.proofs.ChildLemmas.{all_children}

ready_by : (a b : Bool) → cond a Ready (cond b Connecting Failing) ≡ Ready → a ≡ true
ready_by true b is = refl
ready_by false true is = absurd (cc)
ready_by false false is = absurd (cc)

-- where the whole is READY, one is
some_ready : (states : List State) → joined states ≡ Ready → list_any is_ready states ≡ true
some_ready states is = ready_by (list_any is_ready states) (list_any is_connecting states) is

ready_state : (s : State) → is_ready s ≡ true → s ≡ Ready
ready_state Ready is = refl
ready_state Connecting is = absurd (cc)
ready_state Failing is = absurd (cc)

filter_by : {A : Type 0} (b : Bool) (p : A → Bool) (x : A) (xs : List A) → p x ≡ b → (list_any p xs ≡ true → 0 < length (filter p xs)) → list_any p (x ∷ xs) ≡ true → 0 < length (cond b (x ∷ filter p xs) (filter p xs))
filter_by true p x xs e rest some = omega arith
filter_by false p x xs e rest some = rest (rw e at some)

map_any : {A B : Type 0} (p : B → Bool) (f : A → B) (xs : List A) → list_any p (map f xs) ≡ list_any (λ x. p (f x)) xs
map_any p f [] = refl
map_any p f (x ∷ xs) = rw (map_any p f xs) refl

some_passes : {A : Type 0} (p : A → Bool) (xs : List A) → list_any p xs ≡ true → 0 < length (filter p xs)
some_passes p [] some = absurd (cc)
some_passes p (x ∷ xs) some = filter_by (p x) p x xs refl (some_passes p xs) some

-- a READY locality has a READY address
ready_part : (r : Reports) (place : ℕ) (l : Locality) → is_ready (locality_in r l) ≡ true → 0 < length (part_at r place l).ready
ready_part r place l is =
    some_passes (λ a. is_ready (state_in r a)) l.addresses
    (sym (map_any is_ready (state_in r) l.addresses) ∙ some_ready (map (state_in r) l.addresses) (ready_state (locality_in r l) is))

abbrev HasReady : OnePart → Type 0
HasReady part = 0 < length part.ready

all_by : (b : Bool) (r : Reports) (place : ℕ) (l : Locality) (rest : List OnePart) → is_ready (locality_in r l) ≡ b → All (λ part. 0 < length part.ready) rest → All (λ part. 0 < length part.ready) (cond b (part_at r place l ∷ rest) rest)
all_by true r place l rest is all = All-cons HasReady (part_at r place l) rest (ready_part r place l is) all
all_by false r place l rest is all = all

pub all_ready : (r : Reports) (place : ℕ) (ls : List Locality) → All (λ part. 0 < length part.ready) (parts_from r place ls)
all_ready r place [] = λ k d lt. absurd (omega arith)
all_ready r place (l ∷ ls) = all_by (is_ready (locality_in r l)) r place l (parts_from r (place + 1) ls) refl (all_ready r (place + 1) ls)

few_by : (b : Bool) (part : OnePart) (rest : List OnePart) (n : ℕ) → length rest ≤ n → length (cond b (part ∷ rest) rest) ≤ n + 1
few_by true part rest n le = omega arith
few_by false part rest n le = omega arith

pub few_parts : (r : Reports) (place : ℕ) (ls : List Locality) → length (parts_from r place ls) ≤ length ls
few_parts r place [] = omega arith
few_parts r place (l ∷ ls) = let h = few_by (is_ready (locality_in r l)) (part_at r place l) (parts_from r (place + 1) ls) (length ls) (few_parts r (place + 1) ls) in omega (arith, h)

abbrev weight_of : Locality → ℕ
weight_of l = l.weight

below_by : (b : Bool) (part : OnePart) (rest : List OnePart) (ws : List ℕ) → sum (weights_of rest) ≤ sum ws → sum (weights_of (cond b (part ∷ rest) rest)) ≤ sum (part.weight ∷ ws)
below_by true part rest ws le =
    let a = sum_by-cons (λ (y : ℕ). y) part.weight (weights_of rest) in
    let b = sum_by-cons (λ (y : ℕ). y) part.weight ws in
    omega (arith, a, b, le)
below_by false part rest ws le = let b = sum_by-cons (λ (y : ℕ). y) part.weight ws in omega (arith, b, le)

below_all : (r : Reports) (place : ℕ) (ls : List Locality) → sum (weights_of (parts_from r place ls)) ≤ sum (map weight_of ls)
below_all r place [] = omega arith
below_all r place (l ∷ ls) = below_by (is_ready (locality_in r l)) (part_at r place l) (parts_from r (place + 1) ls) (map weight_of ls) (below_all r (place + 1) ls)

some_by : (b : Bool) (r : Reports) (place : ℕ) (l : Locality) (ls : List Locality) (rest : List OnePart) → is_ready (locality_in r l) ≡ b → 0 < l.weight →
    (list_any (λ l. is_ready (locality_in r l)) ls ≡ true → 0 < sum (weights_of rest)) → list_any (λ l. is_ready (locality_in r l)) (l ∷ ls) ≡ true → 0 < sum (weights_of (cond b (part_at r place l ∷ rest) rest))
some_by true r place l ls rest is pos more some = let a = sum_by-cons (λ (y : ℕ). y) l.weight (weights_of rest) in omega (arith, a, pos)
some_by false r place l ls rest is pos more some = more (rw is at some)

some_weight : (r : Reports) (place : ℕ) (ls : List Locality) → All (λ l. 0 < l.weight) ls → list_any (λ l. is_ready (locality_in r l)) ls ≡ true → 0 < sum (weights_of (parts_from r place ls))
some_weight r place [] all some = absurd (cc)
some_weight r place (l ∷ ls) all some =
    some_by (is_ready (locality_in r l)) r place l ls (parts_from r (place + 1) ls) refl (all 0 l (omega arith)) (some_weight r (place + 1) ls (λ k d lt. all (suc k) d (omega arith))) some

weighed : (ls : List Locality) → All IsLawfulLocality ls → All (λ l. 0 < l.weight) ls
weighed ls all = λ k d lt. (all k d lt).weighed

pub are_weights : (r : Reports) (p : ℕ) (value : EndpointValue) → IsLawfulEndpoints value → priority_in r p value.localities ≡ Ready → AreWeights (weights_of (parts_of r p value.localities))
are_weights r p value lawful ready =
    let ls : List Locality = at_priority p value.localities in
    let all : All IsLawfulLocality ls = All-filter (λ l. l.priority == p) IsLawfulLocality value.localities lawful.localities.each in
    let some : list_any (λ l. is_ready (locality_in r l)) ls ≡ true = sym (map_any is_ready (locality_in r) ls) ∙ some_ready (map (locality_in r) ls) ready in
    let below = below_all r 0 ls in
    let most = lawful.localities.weights p in
    record { some = some_weight r 0 ls (weighed ls all) some; below = omega (arith, below, most) }

filtered_by : {A : Type 0} (b : Bool) (x : A) (rest : List A) (n : ℕ) → length rest ≤ n → length (cond b (x ∷ rest) rest) ≤ n + 1
filtered_by true x rest n le = omega arith
filtered_by false x rest n le = omega arith

few_filtered : {A : Type 0} (p : A → Bool) (xs : List A) → length (filter p xs) ≤ length xs
few_filtered p [] = omega arith
few_filtered p (x ∷ xs) = let h = filtered_by (p x) x (filter p xs) (length xs) (few_filtered p xs) in omega (arith, h)

pub few_localities : (p : ℕ) (value : EndpointValue) → IsLawfulEndpoints value → length (at_priority p value.localities) < 2 ^ 31
few_localities p value lawful = let h = few_filtered (λ (l : Locality). l.priority == p) value.localities in omega (arith, h, lawful.localities.few)

pub few_of : {A : Type 0} (f : A → Locality) (xs : List A) (p : ℕ) (value : EndpointValue) → IsLawfulEndpoints value → map f xs ≡ at_priority p value.localities → length xs < 2 ^ 31
few_of f xs p value lawful same = let a = few_localities p value lawful in let b = length-map xs f in let c = ap length same in omega (arith, a, b, c)

pub weights_are : (r : Reports) (p : ℕ) (value : EndpointValue) (ls : List Locality) (parts : List OnePart) (state : State) → IsLawfulEndpoints value → ls ≡ at_priority p value.localities → parts ≡ parts_from r 0 ls →
    state ≡ joined (map (locality_in r) ls) → state ≡ Ready → AreWeights (weights_of parts)
weights_are r p value ls parts state lawful same made joins ready =
    let whole : parts ≡ parts_of r p value.localities = made ∙ ap (λ (xs : List Locality). parts_from r 0 xs) same in
    subst (λ (ps : List OnePart). AreWeights (weights_of ps)) (sym whole)
    (are_weights r p value lawful (ap (λ (xs : List Locality). joined (map (locality_in r) xs)) (sym same) ∙ (sym joins ∙ ready)))

pub ready_are : (r : Reports) (ls : List Locality) (parts : List OnePart) → parts ≡ parts_from r 0 ls → All (λ part. 0 < length part.ready) parts
ready_are r ls parts made = subst (λ (ps : List OnePart). All HasReady ps) (sym made) (all_ready r 0 ls)

pub few_are : (r : Reports) (p : ℕ) (value : EndpointValue) (ls : List Locality) (parts : List OnePart) → IsLawfulEndpoints value → ls ≡ at_priority p value.localities → parts ≡ parts_from r 0 ls → length parts < 2 ^ 31
few_are r p value ls parts lawful same made =
    let a = few_parts r 0 ls in let b = few_localities p value lawful in let c = ap length same in let d = ap length made in omega (arith, a, b, c, d)

-- ---- what picks ask for

endpoints_by : (b : Bool) (r : Reports) (place : ℕ) (l : Locality) (rest : List OnePart) → is_ready (locality_in r l) ≡ b → IsLawfulLocality l → All HasEndpoints rest → All HasEndpoints (cond b (part_at r place l ∷ rest) rest)
endpoints_by true r place l rest is lawful all =
    let some = ready_part r place l is in
    let fewer = few_filtered (λ (a : List ℕ). is_ready (state_in r a)) l.addresses in
    All-cons HasEndpoints (part_at r place l) rest (record { some = some; few = omega (arith, fewer, lawful.few) }) all
endpoints_by false r place l rest is lawful all = all

have_endpoints : (r : Reports) (place : ℕ) (ls : List Locality) → All IsLawfulLocality ls → All HasEndpoints (parts_from r place ls)
have_endpoints r place [] each = λ k d lt. absurd (omega arith)
have_endpoints r place (l ∷ ls) each =
    endpoints_by (is_ready (locality_in r l)) r place l (parts_from r (place + 1) ls) refl (each 0 l (omega arith)) (have_endpoints r (place + 1) ls (λ k d lt. each (suc k) d (omega arith)))

pickable_by : (state : State) (r : Reports) (p : ℕ) (value : EndpointValue) → IsLawfulEndpoints value → priority_in r p value.localities ≡ state →
    IsPickable (record { drops = value.drops; body = endpoint_body state r p value.localities })
pickable_by Ready r p value lawful is =
    let ls : List Locality = at_priority p value.localities in
    let each : All IsLawfulLocality ls = All-filter (λ l. l.priority == p) IsLawfulLocality value.localities lawful.localities.each in
    let a = few_parts r 0 ls in
    let b = few_localities p value lawful in
    record {
      made = record { cumulate = refl; sound = are_weights r p value lawful is; few = omega (arith, a, b) };
      few = omega (arith, lawful.few_drops);
      endpoints = have_endpoints r 0 ls each;
    }
pickable_by Connecting r p value lawful is = record { made = tt; few = omega (arith, lawful.few_drops); endpoints = tt }
pickable_by Failing r p value lawful is = record { made = tt; few = omega (arith, lawful.few_drops); endpoints = tt }

state_pickable : (r : Reports) (p : ℕ) (state : Result EndpointValue Reason) → IfOk state IsLawfulEndpoints → IsPickable (picker_in r p state)
state_pickable r p (Ok value) lawful = pickable_by (priority_in r p value.localities) r p value lawful refl
state_pickable r p (Err reason) lawful = record { made = tt; few = omega arith; endpoints = tt }

place_holds : {X : Type 0} (P : X → Type 0) (xs : List X) (n : ℕ) → All P xs → IfSome (slice_get xs n) P
place_holds P [] n all = tt
place_holds P (x ∷ xs) zero all = all 0 x (omega arith)
place_holds P (x ∷ xs) (suc n) all = place_holds P xs n (λ k d lt. all (suc k) d (omega arith))

chosen_pickable : (r : Reports) (child : Option Child) → IfSome child (λ c. IfOk c.0.state IsLawfulEndpoints) → IsPickable (option_map_or (child_picker r) child (record { drops = []; body = body.Queue }))
chosen_pickable r None lawful = record { made = tt; few = omega arith; endpoints = tt }
chosen_pickable r (Some child) lawful = state_pickable r child.1 child.0.state lawful

-- picks can be made from the picker of a child of lawful leaves
pub tree_pickable : (r : Reports) (leaves : List Leaf) (place : ℕ) → All (λ l. IfOk l.state IsLawfulEndpoints) leaves → IsPickable (picker_at r leaves place)
tree_pickable r leaves place lawful =
    chosen_pickable r (slice_get (children_of leaves) place)
    (place_holds (λ (c : Child). IfOk c.0.state IsLawfulEndpoints) (children_of leaves) place (all_children (λ (l : Leaf). IfOk l.state IsLawfulEndpoints) leaves lawful))
