-- The children of lawful leaves, as the definitions of a history and the steps of trees count them.
use Rattle.std.proofs.Common.{◌≡◌, ℕ, suc, ◌+◌, ◌-◌, ◌≤◌, max, List, [], ◌∷◌, ◌++◌, length, map, Result, Ok, Err, refl, sym, ap, ◌∙◌, arith}
use Rattle.std.specs.Prelude.{All, AllPairs, IfOk, slice_get}
use Rattle.std.specs.Option.{option_map_or}
use Rattle.std.specs.List.{range_with_len, zip}
use Rattle.std.proofs.lemmas.List.{map-append}
use Rattle.xc_base.specs.declared.names.State.{State}
use Rattle.xc_base.specs.declared.reason.Reason.{Reason}
use Rattle.xds_config.specs.declared.config.Leaf.{Leaf}
use Rattle.xds_config.specs.declared.endpoint_values.EndpointValue.{EndpointValue}
use Rattle.xds_config.specs.declared.endpoint_values.Locality.{Locality}
use Rattle.xds_config.specs.Endpoints.{IsLawfulEndpoints}
use Rattle.weighted_lb.specs.States.{joined}
use Rattle.priority_lb.specs.ChildHistories as children
use Rattle.xds_history.specs.tree_steps.Reports.{Reports, Child, state_in, locality_in, at_priority, priority_in, priority_count, leaf_children, name_of, child_in, names_of, states_in}
use Rattle.xds_history.specs.tree_steps.Reports as steps
use Rattle.xds_history.specs.config_assembly.Orders.{Name}
use Rattle.xds_history.specs.Page.{as_child}
use Rattle.xds_history.specs.Trees.{localities_of, of_priority, priorities, locality_state, priority_state, child_of, children_of}
use Rattle.book_trees.specs.TreesKept.{AreReportsOf}

-- ---- how many priorities a leaf has

-- the priority of the last locality
abbrev last_priority : Locality → List Locality → ℕ
last_priority l [] = l.priority
last_priority l (m ∷ ms) = last_priority m ms

abbrev AreAscending : List Locality → Type 0
AreAscending ls = AllPairs (λ (a b : Locality). a.priority ≤ b.priority) ls

rest_ascends : (l : Locality) (ls : List Locality) → AreAscending (l ∷ ls) → AreAscending ls
rest_ascends l ls ascending = λ i j d less lt. ascending (suc i) (suc j) d (omega (arith, less)) (omega (arith, lt))

last_is_greatest : (l : Locality) (ls : List Locality) → AreAscending (l ∷ ls) → l.priority ≤ last_priority l ls
last_is_greatest l [] ascending = omega arith
last_is_greatest l (m ∷ ms) ascending =
    let next : l.priority ≤ m.priority = ascending 0 1 l (omega arith) (omega arith) in
    let more = last_is_greatest m ms (rest_ascends l (m ∷ ms) ascending) in
    omega (arith, next, more)

count_is_last : (l : Locality) (ls : List Locality) → priority_count (l ∷ ls) ≡ last_priority l ls + 1
count_is_last l [] = refl
count_is_last l (m ∷ ms) =
    let place : List Locality → ℕ → ℕ = λ ls n. option_map_or (λ x. x.priority + 1) (slice_get ls n) 1 in
    let last : length (l ∷ m ∷ ms) - 1 ≡ suc (length (m ∷ ms) - 1) = omega arith in
    ap (place (l ∷ m ∷ ms)) last ∙ count_is_last m ms

greatest_is_last : (l : Locality) (ls : List Locality) → AreAscending (l ∷ ls) → priorities (l ∷ ls) ≡ last_priority l ls + 1
greatest_is_last l [] ascending = omega arith
greatest_is_last l (m ∷ ms) ascending =
    let rest = greatest_is_last m ms (rest_ascends l (m ∷ ms) ascending) in
    let most = last_is_greatest l (m ∷ ms) ascending in
    ap (λ n. max (l.priority + 1) n) rest ∙ omega (arith, most)

count_is : (ls : List Locality) → AreAscending ls → priorities ls ≡ priority_count ls
count_is [] ascending = refl
count_is (l ∷ ls) ascending = greatest_is_last l ls ascending ∙ sym (count_is_last l ls)

-- ---- the localities and states of a leaf

pub localities_are : (leaf : Leaf) → localities_of leaf ≡ steps.localities_of leaf
localities_are leaf = by leaf.state
  where
    by : (state : Result EndpointValue Reason) → localities_of (record { name = leaf.name; state = state }) ≡ steps.localities_in state
    by (Ok endpoints) = refl
    by (Err reason) = refl

ascending_in : (state : Result EndpointValue Reason) → IfOk state IsLawfulEndpoints → AreAscending (steps.localities_in state)
ascending_in (Ok endpoints) lawful = lawful.localities.ascending
ascending_in (Err reason) lawful = λ i j d less lt. absurd (omega (arith, lt))

priorities_are : (leaf : Leaf) → IfOk leaf.state IsLawfulEndpoints → priorities (localities_of leaf) ≡ priority_count (steps.localities_of leaf)
priorities_are leaf lawful = ap priorities (localities_are leaf) ∙ count_is (steps.localities_of leaf) (ascending_in leaf.state lawful)

pub map_same : {A B : Type 0} (f g : A → B) (xs : List A) → ((x : A) → f x ≡ g x) → map f xs ≡ map g xs
map_same f g [] each = refl
map_same f g (x ∷ xs) each = rw (each x, map_same f g xs each) refl

pub locality_state_is : (states : Name → State) (reports : Reports) → AreReportsOf states reports → (l : Locality) → locality_state states l ≡ locality_in reports l
locality_state_is states reports agree l = ap joined (map_same states (state_in reports) l.addresses (λ a. sym (agree a)))

pub priority_state_is : (states : Name → State) (reports : Reports) → AreReportsOf states reports → (leaf : Leaf) (p : ℕ) → priority_state states leaf p ≡ priority_in reports p (steps.localities_of leaf)
priority_state_is states reports agree leaf p =
    ap joined (map_same (locality_state states) (locality_in reports) (of_priority p leaf) (locality_state_is states reports agree)
    ∙ ap (λ ls. map (locality_in reports) (at_priority p ls)) (localities_are leaf))

-- ---- the children of leaves

zip_maps : {X A B : Type 0} (f : X → A) (g : X → B) (xs : List X) → zip (map f xs) (map g xs) ≡ map (λ x. (f x, g x)) xs
zip_maps f g [] = refl
zip_maps f g (x ∷ xs) = ap (λ ys. (f x, g x) ∷ ys) (zip_maps f g xs)

map_map : {A B C : Type 0} (g : B → C) (f : A → B) (xs : List A) → map g (map f xs) ≡ map (λ x. g (f x)) xs
map_map g f [] = refl
map_map g f (x ∷ xs) = ap (λ ys. g (f x) ∷ ys) (map_map g f xs)

abbrev named_state : Reports → Child → children.Name × State
named_state reports child = (name_of child, child_in reports child)

abbrev child_at : (Name → State) → Leaf → ℕ → children.Name × State
child_at states leaf p = ((leaf.name, p), priority_state states leaf p)

of_leaf : (states : Name → State) (reports : Reports) (leaf : Leaf) → AreReportsOf states reports → IfOk leaf.state IsLawfulEndpoints →
    map as_child (map (child_of states leaf) (range_with_len 0 (priorities (localities_of leaf)))) ≡ map (named_state reports) (leaf_children leaf)
of_leaf states reports leaf agree lawful =
    map_map as_child (child_of states leaf) (range_with_len 0 (priorities (localities_of leaf)))
    ∙ (ap (λ n. map (child_at states leaf) (range_with_len 0 n)) (priorities_are leaf lawful)
    ∙ (map_same (child_at states leaf) (λ p. named_state reports (leaf, p)) (range_with_len 0 (priority_count (steps.localities_of leaf))) (λ p. ap (λ (s : State). ((leaf.name, p), s)) (priority_state_is states reports agree leaf p))
    ∙ sym (map_map (named_state reports) (λ p. (leaf, p)) (range_with_len 0 (priority_count (steps.localities_of leaf))))))

of_leaves : (states : Name → State) (reports : Reports) (leaves : List Leaf) → AreReportsOf states reports → All (λ l. IfOk l.state IsLawfulEndpoints) leaves →
    map as_child (children_of states leaves) ≡ map (named_state reports) (steps.children_of leaves)
of_leaves states reports [] agree lawful = refl
of_leaves states reports (leaf ∷ leaves) agree lawful =
    map-append as_child (map (child_of states leaf) (range_with_len 0 (priorities (localities_of leaf)))) (children_of states leaves)
    ∙ (ap (λ cs. cs ++ map as_child (children_of states leaves)) (of_leaf states reports leaf agree (lawful 0 leaf (omega arith)))
    ∙ (ap (λ cs. map (named_state reports) (leaf_children leaf) ++ cs) (of_leaves states reports leaves agree (λ k d lt. lawful (suc k) d (omega (arith, lt))))
    ∙ sym (map-append (named_state reports) (leaf_children leaf) (steps.children_of leaves))))

-- the children of lawful leaves with their states are those of the steps of trees
pub children_are : (states : Name → State) (reports : Reports) (leaves : List Leaf) → AreReportsOf states reports → All (λ l. IfOk l.state IsLawfulEndpoints) leaves →
    map as_child (children_of states leaves) ≡ zip (names_of leaves) (states_in reports leaves)
children_are states reports leaves agree lawful =
    of_leaves states reports leaves agree lawful ∙ sym (zip_maps name_of (child_in reports) (steps.children_of leaves))
