-- What is read of leaves rests on the states of their addresses alone.
use Rattle.std.proofs.Common.{◌≡◌, ◌==◌, ℕ, suc, ◌+◌, Bool, cond, List, [], ◌∷◌, map, get_or, filter, Option, Some, None, Result, Ok, Err, refl, sym, ap, ◌∙◌, arith}
use Rattle.std.specs.Prelude.{All, slice_get, option_map, unwrap_or}
use Rattle.std.specs.Option.{option_map_or}
use Rattle.std.proofs.lemmas.List.Elements.{All-filter}
use Rattle.std.proofs.lemmas.Option.{slice_get-map}
use Rattle.xc_base.specs.declared.names.State.{State}
use Rattle.xc_base.specs.declared.names.State.TheVariants.{Connecting, Ready, Failing}
use Rattle.xc_base.specs.declared.reason.Reason.{Reason}
use Rattle.xds_config.specs.declared.config.Leaf.{Leaf}
use Rattle.xds_config.specs.declared.endpoint_values.EndpointValue.{EndpointValue}
use Rattle.xds_config.specs.declared.endpoint_values.Locality.{Locality}
use Rattle.weighted_lb.specs.States.{is_ready, joined}
use Rattle.weighted_lb.specs.declared.picker.Part.{Part as OnePart}
use Rattle.weighted_lb.specs.declared.picker.Picker.{Picker}
use Rattle.weighted_lb.specs.declared.picker.PickBody.{PickBody}
use Rattle.weighted_lb.specs.declared.picker.PickBody.TheVariants as body
use Rattle.tree_steps.specs.Reports.{Reports, state_in, locality_in, at_priority, priority_in, localities_of, localities_in, child_in, children_of, states_in}
use Rattle.tree_steps.specs.TreePickers.{part_at, parts_from, endpoint_body, picker_in, child_picker, picker_at}
use Rattle.tree_steps.specs.Agree.{AgreeAt, AgreeOnLocalities, AgreeOnLeaf, AgreeOn}
use Rattle.tree_steps.proofs.ChildLemmas.{all_children}

map_same : {A B : Type 0} (f g : A → B) (xs : List A) → All (λ x. f x ≡ g x) xs → map f xs ≡ map g xs
map_same f g [] each = refl
map_same f g (x ∷ xs) each = rw (each 0 x (omega arith), map_same f g xs (λ k d lt. each (suc k) d (omega arith))) refl

filter_by : {A : Type 0} (b c : Bool) (x : A) (xs ys : List A) → b ≡ c → xs ≡ ys → cond b (x ∷ xs) xs ≡ cond c (x ∷ ys) ys
filter_by b c x xs ys e f = rw (e, f) refl

filter_same : {A : Type 0} (f g : A → State) (xs : List A) → All (λ x. f x ≡ g x) xs → filter (λ x. is_ready (f x)) xs ≡ filter (λ x. is_ready (g x)) xs
filter_same f g [] each = refl
filter_same f g (x ∷ xs) each = filter_by (is_ready (f x)) (is_ready (g x)) x _ _ (ap is_ready (each 0 x (omega arith))) (filter_same f g xs (λ k d lt. each (suc k) d (omega arith)))

locality_same : (r s : Reports) (l : Locality) → AgreeAt r s l.addresses → locality_in s l ≡ locality_in r l
locality_same r s l agree = ap joined (map_same (state_in s) (state_in r) l.addresses agree)

each_locality : (r s : Reports) (ls : List Locality) → AgreeOnLocalities r s ls → All (λ l. locality_in s l ≡ locality_in r l) ls
each_locality r s ls agree = λ k d lt. locality_same r s (get_or ls k d) (agree k d lt)

at_same : (r s : Reports) (p : ℕ) (ls : List Locality) → AgreeOnLocalities r s ls → AgreeOnLocalities r s (at_priority p ls)
at_same r s p ls agree = All-filter (λ (l : Locality). l.priority == p) (λ (l : Locality). AgreeAt r s l.addresses) ls agree

priority_same : (r s : Reports) (p : ℕ) (ls : List Locality) → AgreeOnLocalities r s ls → priority_in s p ls ≡ priority_in r p ls
priority_same r s p ls agree = ap joined (map_same (locality_in s) (locality_in r) (at_priority p ls) (each_locality r s (at_priority p ls) (at_same r s p ls agree)))

pub states_same : (r s : Reports) (leaves : List Leaf) → AgreeOn r s leaves → states_in s leaves ≡ states_in r leaves
states_same r s leaves agree =
    let each = all_children (AgreeOnLeaf r s) leaves agree in
    map_same (child_in s) (child_in r) (children_of leaves) (λ k d lt. priority_same r s (get_or (children_of leaves) k d).1 (localities_of (get_or (children_of leaves) k d).0) (each k d lt))

part_same : (r s : Reports) (place : ℕ) (l : Locality) → AgreeAt r s l.addresses → part_at s place l ≡ part_at r place l
part_same r s place l agree =
    let make : List (List ℕ) → OnePart = λ ready. record { locality = place; weight = l.weight; ready = ready } in
    ap make (filter_same (state_in s) (state_in r) l.addresses agree)

part_by : (b c : Bool) (x y : OnePart) (xs ys : List OnePart) → b ≡ c → x ≡ y → xs ≡ ys → cond b (x ∷ xs) xs ≡ cond c (y ∷ ys) ys
part_by b c x y xs ys e f g = rw (e, f, g) refl

parts_same : (r s : Reports) (place : ℕ) (ls : List Locality) → AgreeOnLocalities r s ls → parts_from s place ls ≡ parts_from r place ls
parts_same r s place [] agree = refl
parts_same r s place (l ∷ ls) agree =
    let here : AgreeAt r s l.addresses = agree 0 l (omega arith) in
    part_by (is_ready (locality_in s l)) (is_ready (locality_in r l)) (part_at s place l) (part_at r place l) (parts_from s (place + 1) ls) (parts_from r (place + 1) ls)
    (ap is_ready (locality_same r s l here)) (part_same r s place l here) (parts_same r s (place + 1) ls (λ k d lt. agree (suc k) d (omega arith)))

body_same : (state : State) (r s : Reports) (p : ℕ) (ls : List Locality) → AgreeOnLocalities r s ls → endpoint_body state s p ls ≡ endpoint_body state r p ls
body_same Ready r s p ls agree = rw (parts_same r s 0 (at_priority p ls) (at_same r s p ls agree)) refl
body_same Connecting r s p ls agree = refl
body_same Failing r s p ls agree = refl

picker_same : (r s : Reports) (p : ℕ) (state : Result EndpointValue Reason) → AgreeOnLocalities r s (localities_in state) → picker_in s p state ≡ picker_in r p state
picker_same r s p (Ok endpoints) agree =
    let make : PickBody → Picker = λ b. record { drops = endpoints.drops; body = b } in
    ap make (body_same (priority_in s p endpoints.localities) r s p endpoints.localities agree ∙ ap (λ (t : State). endpoint_body t r p endpoints.localities) (priority_same r s p endpoints.localities agree))
picker_same r s p (Err reason) agree = refl

mapped : {A B : Type 0} (f : A → B) (o : Option A) (d : B) → option_map_or f o d ≡ unwrap_or (option_map f o) d
mapped f None d = refl
mapped f (Some x) d = refl

pub picker_at_same : (r s : Reports) (leaves : List Leaf) (place : ℕ) → AgreeOn r s leaves → picker_at s leaves place ≡ picker_at r leaves place
picker_at_same r s leaves place agree =
    let each = all_children (AgreeOnLeaf r s) leaves agree in
    let none : Picker = record { drops = []; body = body.Queue } in
    let all : map (child_picker s) (children_of leaves) ≡ map (child_picker r) (children_of leaves) = map_same (child_picker s) (child_picker r) (children_of leaves) (λ k d lt. picker_same r s (get_or (children_of leaves) k d).1 (get_or (children_of leaves) k d).0.state (each k d lt)) in
    mapped (child_picker s) (slice_get (children_of leaves) place) none ∙
    (ap (λ (o : Option Picker). unwrap_or o none) (sym (slice_get-map (child_picker s) (children_of leaves) place) ∙ (ap (λ (ps : List Picker). slice_get ps place) all ∙ slice_get-map (child_picker r) (children_of leaves) place)) ∙
    sym (mapped (child_picker r) (slice_get (children_of leaves) place) none))
