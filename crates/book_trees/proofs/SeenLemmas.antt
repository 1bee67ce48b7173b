-- What is seen of trees, by what is kept of them.
use Rattle.std.proofs.Common.{◌≡◌, ◌≢◌, ◌==◌, ℕ, zero, suc, ◌+◌, ◌<◌, Bool, true, false, cond, not, ◌&&◌, ◌||◌, nat_lt, List, [], ◌∷◌, length, map, get_or, filter, Option, Some, None, Result, Ok, Err, refl, sym, ap, ◌∙◌, arith}
use Rattle.std.proofs.lemmas.Bool.Decides.{nat_tests}
use Rattle.std.specs.Prelude.{All, AllPairs, IfSome, option_map, slice_get, bytes_eq, find}
use Rattle.std.specs.Option.{option_map_or}
use Rattle.std.specs.List.{list_any, list_all, filter_map, enumerate_from, zip}
use Rattle.std.proofs.lemmas.List.{length-map, get_or-map}
use Rattle.std.proofs.lemmas.Option.{slice_get-get_or}
use Rattle.std.proofs.lemmas.Slice.Zip.{get_or-zip, length-zip}
use Rattle.std.proofs.lemmas.Slice.Eq.{bytes_eq-Decides}
use Rattle.xc_base.specs.declared.names.State.{State}
use Rattle.xc_base.specs.declared.names.State.TheVariants.{Connecting, Ready, Failing}
use Rattle.xc_base.specs.declared.reason.Reason.{Reason}
use Rattle.xc_base.specs.declared.reason.Reason.TheVariants as reason
use Rattle.xds_config.specs.declared.config.Leaf.{Leaf}
use Rattle.xds_config.specs.declared.endpoint_values.EndpointValue.{EndpointValue}
use Rattle.xds_config.specs.declared.endpoint_values.Locality.{Locality}
use Rattle.weight_pick.specs.Weights.{cumulated}
use Rattle.weight_pick.specs.declared.fraction.DropRule.{DropRule}
use Rattle.weighted_lb.specs.States.{is_ready, is_connecting}
use Rattle.weighted_lb.specs.declared.picker.Part.{Part as OnePart}
use Rattle.weighted_lb.specs.declared.picker.Picker.{Picker}
use Rattle.weighted_lb.specs.declared.picker.PickBody.{PickBody}
use Rattle.weighted_lb.specs.declared.picker.PickBody.TheVariants as body
use Rattle.weighted_lb.specs.Pick.{weights_of}
use Rattle.priority_lb.specs.declared.facts.ChildFacts.{ChildFacts}
use Rattle.priority_lb.specs.Step.{fresh}
use Rattle.priority_lb.specs.ChildHistories.{Name as ChildName, Trail, Update, names_of as names_at, trails, facts, state_of as state_at}
use Rattle.priority_lb.specs.ChildLaws.{all_facts, child_at}
use Rattle.priority_lb.proofs.ChildLemmas.{length_trails, child_by_child}
use Rattle.graceful_switch.specs.Takeover.{Pair}
use Rattle.xds_history.specs.tree_steps.declared.tree_view.NamedChild.{NamedChild}
use Rattle.xds_history.specs.tree_steps.declared.tree_view.TreeView.{TreeView}
use Rattle.xds_history.specs.tree_steps.Reports.{Reports, Child, state_in, locality_in, at_priority, priority_in, name_of, child_in, names_of, states_in}
use Rattle.xds_history.specs.tree_steps.Reports as steps
use Rattle.xds_history.specs.tree_steps.TreePickers.{part_at, parts_from, has_address, failure_of, endpoint_body, child_picker}
use Rattle.xds_history.specs.tree_steps.TreePickers as kept
use Rattle.xds_history.proofs.tree_steps.ChildLemmas.{all_children}
use Rattle.xds_history.specs.tree_steps.TreeSteps.{named_children, chosen_localities, trees_view}
use Rattle.xds_history.specs.config_assembly.Orders.{Name}
use Rattle.xds_history.specs.declared.page.Glimpse.{Glimpse}
use Rattle.xds_history.specs.declared.page.Tree.{Tree}
use Rattle.xds_history.specs.Page.{update_of}
use Rattle.xds_history.specs.Trees.{of_priority, leaves_now, updates, chosen_place, chosen_child}
use Rattle.xds_history.specs.Pickers.{leaf_named, child_localities, part_of, picker_in, picker_at, no_picker, picker, named_child, children_view, tree_view}
use Rattle.book_trees.specs.TreesKept.{facts_of, pair_facts, children_last, IsGrownTree, AreReportsOf}
use Rattle.book_trees.specs.ServedPlaces.{served_localities}
use Rattle.book_trees.proofs.PriorityLemmas.{localities_are}
use Rattle.book_trees.proofs.LifeLemmas.{has_names, has_chosen}

-- ---- the READY parts of a priority

filter_same : {A : Type 0} (p q : A → Bool) (xs : List A) → ((x : A) → p x ≡ q x) → filter p xs ≡ filter q xs
filter_same p q [] each = refl
filter_same p q (x ∷ xs) each = by (p x) (q x) (each x) (filter_same p q xs each)
  where
    by : (a b : Bool) → a ≡ b → filter p xs ≡ filter q xs → cond a (x ∷ filter p xs) (filter p xs) ≡ cond b (x ∷ filter q xs) (filter q xs)
    by a b same rest = rw (same, rest) refl

ready_by : (a b : Bool) → is_ready (cond a Ready (cond b Connecting Failing)) ≡ a
ready_by true b = refl
ready_by false true = refl
ready_by false false = refl

any_map : {A B : Type 0} (p : B → Bool) (f : A → B) (xs : List A) → list_any p (map f xs) ≡ list_any (λ x. p (f x)) xs
any_map p f [] = refl
any_map p f (x ∷ xs) = ap (λ (b : Bool). p (f x) || b) (any_map p f xs)

abbrev has_some : {A : Type 0} → List A → Bool
has_some [] = false
has_some (x ∷ xs) = true

any_left : {A : Type 0} (p : A → Bool) (xs : List A) → list_any p xs ≡ has_some (filter p xs)
any_left p [] = refl
any_left p (x ∷ xs) = by (p x) (any_left p xs)
  where
    by : (b : Bool) → list_any p xs ≡ has_some (filter p xs) → (b || list_any p xs) ≡ has_some (cond b (x ∷ filter p xs) (filter p xs))
    by true rest = refl
    by false rest = rest

-- the READY addresses of a locality
abbrev ready_in : Reports → Locality → List Name
ready_in reports l = filter (λ a. is_ready (state_in reports a)) l.addresses

-- it is READY where it has some
ready_where : (reports : Reports) (l : Locality) → is_ready (locality_in reports l) ≡ has_some (ready_in reports l)
ready_where reports l =
    let states : List State = map (state_in reports) l.addresses in
    ready_by (list_any is_ready states) (list_any is_connecting states)
    ∙ (any_map is_ready (state_in reports) l.addresses ∙ any_left (λ a. is_ready (state_in reports a)) l.addresses)

abbrev part_with : ℕ → Locality → List Name → Option OnePart
part_with place l [] = None
part_with place l (address ∷ more) = Some record { locality = place; weight = l.weight; ready = address ∷ more }

abbrev with_part : Option OnePart → List OnePart → List OnePart
with_part None parts = parts
with_part (Some part) parts = part ∷ parts

part_more : (ready : List Name) (place : ℕ) (l : Locality) (rest more : List OnePart) → rest ≡ more →
    with_part (part_with place l ready) rest ≡ cond (has_some ready) (record { locality = place; weight = l.weight; ready = ready } ∷ more) more
part_more [] place l rest more same = same
part_more (a ∷ more_ready) place l rest more same = ap (λ (ps : List OnePart). record { locality = place; weight = l.weight; ready = a ∷ more_ready } ∷ ps) same

parts_are : (states : Name → State) (reports : Reports) → AreReportsOf states reports → (place : ℕ) (ls : List Locality) → filter_map (part_of states) (enumerate_from place ls) ≡ parts_from reports place ls
parts_are states reports agree place [] = refl
parts_are states reports agree place (l ∷ ls) =
    let rest : List OnePart = filter_map (part_of states) (enumerate_from (place + 1) ls) in
    let same : filter (λ a. is_ready (states a)) l.addresses ≡ ready_in reports l = filter_same (λ a. is_ready (states a)) (λ a. is_ready (state_in reports a)) l.addresses (λ a. ap is_ready (sym (agree a))) in
    ap (λ (ready : List Name). with_part (part_with place l ready) rest) same
    ∙ (part_more (ready_in reports l) place l rest (parts_from reports (place + 1) ls) (parts_are states reports agree (place + 1) ls)
    ∙ ap (λ (b : Bool). cond b (part_at reports place l ∷ parts_from reports (place + 1) ls) (parts_from reports (place + 1) ls)) (sym (ready_where reports l)))

-- ---- pickers

no_address : (ls : List Locality) → list_all (λ (l : Locality). length l.addresses == 0) ls ≡ not (list_any has_address ls)
no_address [] = refl
no_address (l ∷ ls) = by (length l.addresses) (no_address ls)
  where
    by : (n : ℕ) → list_all (λ (l : Locality). length l.addresses == 0) ls ≡ not (list_any has_address ls) → ((n == 0) && list_all (λ (l : Locality). length l.addresses == 0) ls) ≡ not (nat_lt 0 n || list_any has_address ls)
    by zero rest = rest
    by (suc n) rest =
        let some : (suc n == 0) ≡ false = grind (arith, nat_tests) in
        let counted : nat_lt 0 (suc n) ≡ true = grind (arith, nat_tests) in
        rw (some, counted) refl

fails_by : (b : Bool) → cond (not b) reason.NoEndpoints reason.Failing ≡ cond b reason.Failing reason.NoEndpoints
fails_by true = refl
fails_by false = refl

abbrev picker_with : List DropRule → PickBody → Picker
picker_with drops rest = record { drops = drops; body = rest }

abbrev leaf_with : Name → Result EndpointValue Reason → Leaf
leaf_with name state = record { name = name; state = state }

endpoints_picker : (s : State) (states : Name → State) (reports : Reports) (name : Name) (p : ℕ) (endpoints : EndpointValue) → AreReportsOf states reports →
    picker_in states (Some (leaf_with name (Ok endpoints))) (at_priority p endpoints.localities) s ≡ picker_with endpoints.drops (endpoint_body s reports p endpoints.localities)
endpoints_picker Ready states reports name p endpoints agree =
    ap (λ (parts : List OnePart). picker_with endpoints.drops (body.Ready parts (cumulated (weights_of parts)))) (parts_are states reports agree 0 (at_priority p endpoints.localities))
endpoints_picker Connecting states reports name p endpoints agree = refl
endpoints_picker Failing states reports name p endpoints agree =
    ap (λ (b : Bool). picker_with endpoints.drops (body.Fail (cond b reason.NoEndpoints reason.Failing))) (no_address (at_priority p endpoints.localities))
    ∙ ap (λ (r : Reason). picker_with endpoints.drops (body.Fail r)) (fails_by (list_any has_address (at_priority p endpoints.localities)))

leaf_picker : (state : Result EndpointValue Reason) (states : Name → State) (reports : Reports) (name : Name) (p : ℕ) → AreReportsOf states reports →
    picker_in states (Some (leaf_with name state)) (of_priority p (leaf_with name state)) (priority_in reports p (steps.localities_in state)) ≡ kept.picker_in reports p state
leaf_picker (Ok endpoints) states reports name p agree = endpoints_picker (priority_in reports p endpoints.localities) states reports name p endpoints agree
leaf_picker (Err reason) states reports name p agree = refl

-- ---- the chosen child

-- the state of a child is the one that the newest update gave it
newest_state : (e : Update) (past : List Update) (place : ℕ) → place < length e.children → (get_or (all_facts (e ∷ past)) place fresh).state ≡ (child_at e place).1
newest_state e past place lt =
    let within : place < length (trails (e ∷ past)) = (let long = length_trails e past in omega (arith, lt, long)) in
    let at : get_or (map facts (trails (e ∷ past))) place fresh ≡ facts (get_or (trails (e ∷ past)) place []) = get_or-map facts (trails (e ∷ past)) place [] fresh within in
    ap (λ (f : ChildFacts). f.state) at ∙ ap (λ (t : Trail). state_at t) (child_by_child e past place lt).trail

given_state : (gs : List Glimpse) (place : ℕ) → place < length (children_last gs) → (get_or (all_facts (map update_of gs)) place fresh).state ≡ (get_or (children_last gs) place (([], 0), Connecting)).1
given_state [] place lt = absurd (omega (arith, lt))
given_state (g ∷ gs) place lt = newest_state (update_of g) (map update_of gs) place lt

-- a leaf is found by its name where no two have one name
leaf_found : (leaves : List Leaf) (k : ℕ) (d : Leaf) → AllPairs (λ (a b : Leaf). a.name ≢ b.name) leaves → k < length leaves → find (λ (l : Leaf). bytes_eq (get_or leaves k d).name l.name) leaves ≡ Some (get_or leaves k d)
leaf_found [] k d once lt = absurd (omega (arith, lt))
leaf_found (l ∷ ls) zero d once lt = ap (λ (b : Bool). cond b (Some l) (find (λ (x : Leaf). bytes_eq l.name x.name) ls)) ((bytes_eq-Decides l.name l.name).1 refl)
leaf_found (l ∷ ls) (suc k) d once lt =
    let name : Name = (get_or ls k d).name in
    let differ : bytes_eq name l.name ≡ false = not_true (bytes_eq name l.name) (λ same. once 0 (suc k) d (omega (arith)) lt (sym ((bytes_eq-Decides name l.name).0 same))) in
    ap (λ (b : Bool). cond b (Some l) (find (λ (x : Leaf). bytes_eq name x.name) ls)) differ
    ∙ leaf_found ls k d (λ i j x less within. once (suc i) (suc j) x (omega (arith, less)) (omega (arith, within))) (omega (arith, lt))
  where
    not_true : (b : Bool) → (b ≡ true → ⊥) → b ≡ false
    not_true true never = absurd (never refl)
    not_true false never = refl

abbrev IsFoundIn : List Leaf → Leaf → Type 0
IsFoundIn leaves leaf = find (λ (l : Leaf). bytes_eq leaf.name l.name) leaves ≡ Some leaf

leaves_found : (leaves : List Leaf) → AllPairs (λ (a b : Leaf). a.name ≢ b.name) leaves → All (IsFoundIn leaves) leaves
leaves_found leaves once = λ k d lt. leaf_found leaves k d once lt

-- the chosen child, as a leaf and a priority in it, with its name and facts
pub record IsChosen (reports : Reports) (t : Tree) (child : Child) (facts : ChildFacts) : Type 0 where
  pub named : chosen_child t ≡ Some (name_of child, facts)
  pub there : slice_get (steps.children_of (leaves_now t)) (chosen_place t) ≡ Some child
  pub leaf : leaf_named t child.0.name ≡ Some child.0
  pub state : facts.state ≡ child_in reports child

abbrev no_child : Child
no_child = (record { name = []; state = Err reason.Failing }, 0)

abbrev child_there : Tree → Child
child_there t = get_or (steps.children_of (leaves_now t)) (chosen_place t) no_child

abbrev facts_there : Tree → ChildFacts
facts_there t = get_or (all_facts (updates t)) (chosen_place t) fresh

pub is_chosen : (reports : Reports) (t : Tree) → IsGrownTree reports t → IsChosen reports t (child_there t) (facts_there t)
is_chosen reports t is =
    let has = has_chosen reports t is in
    let names = has.names in
    let facts = has.facts in
    let within = has.within in
    let cs : List Child = steps.children_of (leaves_now t) in
    let fs : List ChildFacts = all_facts (updates t) in
    let place : ℕ = chosen_place t in
    let d : ChildName × ChildFacts = (name_of no_child, fresh) in
    let long = length-zip (names_at (updates t)) fs in
    let name : get_or (names_at (updates t)) place (name_of no_child) ≡ name_of (child_there t) =
    ap (λ (ns : List ChildName). get_or ns place (name_of no_child)) (has_names reports t is) ∙ get_or-map name_of cs place no_child (name_of no_child) within in
    let at : get_or (zip (names_at (updates t)) fs) place d ≡ (name_of (child_there t), facts_there t) =
    get_or-zip (names_at (updates t)) fs place d (omega (arith, names, within)) (omega (arith, facts, within)) ∙ ap (λ (n : ChildName). let both : ChildName × ChildFacts = (n, facts_there t) in both) name in
    let ns : List ChildName = names_of (leaves_now t) in
    let ss : List State = states_in reports (leaves_now t) in
    let named_long : length ns ≡ length cs = length-map cs name_of in
    let stated_long : length ss ≡ length cs = length-map cs (child_in reports) in
    let last_long : length (children_last t.life) ≡ length (zip ns ss) = ap length is.children_are in
    let zipped = length-zip ns ss in
    let none : ChildName × State = (([], 0), Connecting) in
    let stated : (get_or (children_last t.life) place none).1 ≡ child_in reports (child_there t) =
    ap (λ (xs : List (ChildName × State)). (get_or xs place none).1) is.children_are
    ∙ (ap (λ (x : ChildName × State). x.1) (get_or-zip ns ss place none (omega (arith, named_long, within)) (omega (arith, stated_long, within)))
    ∙ get_or-map (child_in reports) cs place no_child Connecting within) in
    record {
      named = slice_get-get_or (zip (names_at (updates t)) fs) place d (omega (arith, long, names, facts, within)) ∙ ap (λ (x : ChildName × ChildFacts). let o : Option (ChildName × ChildFacts) = Some x in o) at;
      there = slice_get-get_or cs place no_child within;
      leaf = all_children (IsFoundIn (leaves_now t)) (leaves_now t) (leaves_found (leaves_now t) is.lawful.once) place no_child within;
      state = given_state t.life place (omega (arith, last_long, zipped, named_long, stated_long, within)) ∙ stated;
    }

-- its picker
picker_is : (states : Name → State) (reports : Reports) (t : Tree) → AreReportsOf states reports → IsGrownTree reports t → picker states t ≡ kept.picker_at reports (leaves_now t) (chosen_place t)
picker_is states reports t agree is =
    let here = is_chosen reports t is in
    let child : Child = child_there t in
    let facts : ChildFacts = facts_there t in
    let none : Picker = record { drops = []; body = body.Queue } in
    ap (λ (o : Option (ChildName × ChildFacts)). option_map_or (picker_at states t) o no_picker) here.named
    ∙ (ap (λ (o : Option Leaf). picker_in states o (option_map_or (of_priority child.1) o []) facts.state) here.leaf
    ∙ (ap (λ (s : State). picker_in states (Some child.0) (of_priority child.1 child.0) s) here.state
    ∙ (leaf_picker child.0.state states reports child.0.name child.1 agree
    ∙ ap (λ (o : Option Child). option_map_or (child_picker reports) o none) (sym here.there))))

-- and its localities
pub served_is : (reports : Reports) (t : Tree) → IsGrownTree reports t → served_localities t ≡ chosen_localities (facts_of t)
served_is reports t is =
    let here = is_chosen reports t is in
    let child : Child = child_there t in
    ap (λ (o : Option (ChildName × ChildFacts)). option_map_or (λ c. child_localities t c.0) o []) here.named
    ∙ (ap (λ (o : Option Leaf). option_map_or (of_priority child.1) o []) here.leaf
    ∙ (ap (at_priority child.1) (localities_are child.0)
    ∙ ap (λ (o : Option Child). option_map_or (λ (c : Child). at_priority c.1 (steps.localities_of c.0)) o []) (sym here.there)))

-- ---- the view of trees

children_seen : (reports : Reports) (t : Tree) → IsGrownTree reports t → children_view t ≡ named_children (facts_of t)
children_seen reports t is = ap (λ (ns : List ChildName). map named_child (zip ns (all_facts (updates t)))) (has_names reports t is)

waiting_seen : (reports : Reports) (waiting : Option Tree) → IfSome waiting (IsGrownTree reports) → option_map children_view waiting ≡ option_map named_children (option_map facts_of waiting)
waiting_seen reports None is = refl
waiting_seen reports (Some t) is = ap (λ (cs : List NamedChild). let o : Option (List NamedChild) = Some cs in o) (children_seen reports t is)

abbrev view_with : ℕ → List NamedChild → Option (List NamedChild) → Picker → TreeView
view_with place children waiting picker = record { children = children; chosen = place; waiting = waiting; picker = picker }

-- what is seen of trees is what is seen of what is kept of them
pub view_is : (states : Name → State) (reports : Reports) (trees : Pair Tree) → AreReportsOf states reports → IsGrownTree reports trees.serving → IfSome trees.waiting (IsGrownTree reports) → tree_view states trees ≡ trees_view reports (pair_facts trees)
view_is states reports trees agree serving waiting =
    let place : ℕ = chosen_place trees.serving in
    ap (λ (cs : List NamedChild). view_with place cs (option_map children_view trees.waiting) (picker states trees.serving)) (children_seen reports trees.serving serving)
    ∙ (ap (λ (w : Option (List NamedChild)). view_with place (named_children (facts_of trees.serving)) w (picker states trees.serving)) (waiting_seen reports trees.waiting waiting)
    ∙ ap (λ (p : Picker). view_with place (named_children (facts_of trees.serving)) (option_map named_children (option_map facts_of trees.waiting)) p) (picker_is states reports trees.serving agree serving))
