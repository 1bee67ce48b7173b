-- A tree one driver's entry later is one step on what is kept of it.
use Rattle.std.proofs.Common.{◌≡◌, ℕ, zero, suc, ◌<◌, Bool, true, false, cond, List, [], ◌∷◌, length, map, get_or, Option, Some, None, refl, sym, ap, ◌∙◌, arith}
use Rattle.std.specs.Prelude.{IfSome, option_map, slice_get, unwrap_or}
use Rattle.std.specs.Option.{option_map_or}
use Rattle.std.specs.List.{zip}
use Rattle.std.proofs.lemmas.List.{length-map}
use Rattle.std.proofs.lemmas.Slice.Zip.{firsts-zip, seconds-zip}
use Rattle.xc_base.specs.declared.names.State.{State}
use Rattle.xc_base.specs.declared.names.State.TheVariants.{Failing}
use Rattle.xds_config.specs.declared.config.Leaf.{Leaf}
use Rattle.xds_config.specs.declared.config.Leaves.{Leaves}
use Rattle.xds_config.specs.Configs.{AreLawfulLeaves}
use Rattle.priority_lb.specs.declared.facts.ChildFacts.{ChildFacts}
use Rattle.priority_lb.specs.ChildWalk.{chosen}
use Rattle.priority_lb.specs.Step.{fresh, step, carried}
use Rattle.priority_lb.specs.ChildHistories.{Name as ChildName, Update, names_of as names_at, trails, facts, seen_at}
use Rattle.priority_lb.specs.ChildLaws.{places, all_facts, seen_now, start}
use Rattle.priority_lb.proofs.ChildLemmas.{length_trails}
use Rattle.priority_lb.proofs.HistoryLemmas.{one_step}
use Rattle.priority_lb.proofs.WalkLemmas.{chosen_below}
use Rattle.graceful_switch.specs.Takeover.{Pair, has_to_wait, settled}
use Rattle.xds_history.specs.tree_steps.Reports.{Reports, child_in, name_of, names_of, states_in}
use Rattle.xds_history.specs.tree_steps.Reports as steps
use Rattle.xds_history.specs.tree_steps.TreeSteps.{TreeFacts, begun, stepped, followed, stayed, state_of, is_same}
use Rattle.xds_history.specs.tree_steps.TreeSteps as kept
use Rattle.xds_history.proofs.tree_steps.ChildLemmas.{some_children}
use Rattle.xds_history.specs.declared.page.Glimpse.{Glimpse}
use Rattle.xds_history.specs.declared.page.Tree.{Tree}
use Rattle.xds_history.specs.Page.{update_of}
use Rattle.xds_history.specs.Trees.{Present, glimpse, grown, new_tree, leaves_now, updates, chosen_place, tree_state, is_same_kind, alone, switched, trees_with}
use Rattle.book_trees.specs.TreesKept.{leaves_of, facts_of, pair_facts, children_last, IsGrownTree, IsGrownPair, AreReportsOf}
use Rattle.book_trees.proofs.PriorityLemmas.{children_are}

-- ---- the names of a tree's children

names_last : (gs : List Glimpse) → names_at (map update_of gs) ≡ map (λ c. c.0) (children_last gs)
names_last [] = refl
names_last (g ∷ gs) = refl

pub long_states : (reports : Reports) (leaves : List Leaf) → length (states_in reports leaves) ≡ length (names_of leaves)
long_states reports leaves = length-map (steps.children_of leaves) (child_in reports) ∙ sym (length-map (steps.children_of leaves) name_of)

-- they are those of its leaves
pub has_names : (reports : Reports) (tree : Tree) → IsGrownTree reports tree → names_at (updates tree) ≡ names_of (leaves_now tree)
has_names reports tree is =
    names_last tree.life ∙ (ap (λ (cs : List (ChildName × State)). map (λ c. c.0) cs) is.children_are
    ∙ firsts-zip (names_of (leaves_now tree)) (states_in reports (leaves_now tree)) (long_states reports (leaves_now tree)))

-- ---- one tree

abbrev facts_with : Leaves → List ChildFacts → ℕ → TreeFacts
facts_with leaves children place = record { leaves = leaves; children = children; chosen = place }

with_kind : (leaves : Leaves) (aggregate : Bool) → leaves.aggregate ≡ aggregate → (let L : Leaves = record { aggregate = aggregate; leaves = leaves.leaves } in L) ≡ leaves
with_kind leaves aggregate kind = ap (λ (a : Bool). let L : Leaves = record { aggregate = a; leaves = leaves.leaves } in L) (sym kind)

pub tree_follows : (p : Present) (reports : Reports) (leaves : Leaves) (tree : Tree) → AreReportsOf p.state reports → AreLawfulLeaves leaves → leaves.aggregate ≡ tree.aggregate → names_at (updates tree) ≡ names_of (leaves_now tree) →
    facts_of (grown p leaves.leaves tree) ≡ followed p.now reports leaves (Some (facts_of tree))
tree_follows p reports leaves tree agree lawful kind names =
    let u : Update = update_of (glimpse p leaves.leaves) in
    let past : List Update = updates tree in
    let children : u.children ≡ zip (names_of leaves.leaves) (states_in reports leaves.leaves) = children_are p.state reports leaves.leaves agree lawful.endpoints in
    let long = long_states reports leaves.leaves in
    let named : map (λ c. c.0) u.children ≡ names_of leaves.leaves = ap (λ (cs : List (ChildName × State)). map (λ c. c.0) cs) children ∙ firsts-zip (names_of leaves.leaves) (states_in reports leaves.leaves) long in
    let stated : map (λ c. c.1) u.children ≡ states_in reports leaves.leaves = ap (λ (cs : List (ChildName × State)). map (λ c. c.1) cs) children ∙ seconds-zip (names_of leaves.leaves) (states_in reports leaves.leaves) long in
    let begin : start u past ≡ begun leaves (Some (facts_of tree)) =
    ap (λ (ns : List ChildName). carried (places ns (names_at past)) (all_facts past)) named ∙ ap (λ (ns : List ChildName). carried (places (names_of leaves.leaves) ns) (all_facts past)) names in
    let s = one_step u past in
    let states : List State = map (λ c. c.1) u.children in
    ap (λ (L : Leaves). facts_with L (all_facts (u ∷ past)) (chosen (seen_now (u ∷ past)))) (with_kind leaves tree.aggregate kind)
    ∙ (ap (λ (cs : List ChildFacts). facts_with leaves cs (chosen (seen_now (u ∷ past)))) (sym s.0)
    ∙ (ap (λ (n : ℕ). facts_with leaves (step u.now (start u past) states) n) (sym s.1)
    ∙ (ap (λ (cs : List ChildFacts). stepped p.now leaves cs states) begin ∙ ap (λ (ss : List State). stepped p.now leaves (begun leaves (Some (facts_of tree))) ss) stated)))

-- it followed lawful leaves
pub grown_tree : (p : Present) (reports : Reports) (leaves : Leaves) (tree : Tree) → AreReportsOf p.state reports → AreLawfulLeaves leaves → IsGrownTree reports (grown p leaves.leaves tree)
grown_tree p reports leaves tree agree lawful = record {
  lawful = record { some = lawful.some; once = lawful.once; endpoints = lawful.endpoints; few = lawful.few };
  children_are = children_are p.state reports leaves.leaves agree lawful.endpoints;
}

-- ---- the state of a tree

long_names : (past : List Update) → length (names_at past) ≡ length (all_facts past)
long_names [] = refl
long_names (e ∷ past) = length-map e.children (λ c. c.0) ∙ (sym (length_trails e past) ∙ sym (length-map (trails (e ∷ past)) facts))

long_seen : (past : List Update) → length (seen_now past) ≡ length (names_at past)
long_seen past = length-map (trails past) seen_at ∙ (sym (length-map (trails past) facts) ∙ sym (long_names past))

-- how many children a tree has, and which is chosen
pub record HasChosen (tree : Tree) : Type 0 where
  pub names : length (names_at (updates tree)) ≡ length (steps.children_of (leaves_now tree))
  pub facts : length (all_facts (updates tree)) ≡ length (steps.children_of (leaves_now tree))
  pub within : chosen_place tree < length (steps.children_of (leaves_now tree))

pub has_chosen : (reports : Reports) (tree : Tree) → IsGrownTree reports tree → HasChosen tree
has_chosen reports tree is =
    let long : length (names_at (updates tree)) ≡ length (steps.children_of (leaves_now tree)) = ap length (has_names reports tree is) ∙ length-map (steps.children_of (leaves_now tree)) name_of in
    let same = long_names (updates tree) in
    let seen = long_seen (updates tree) in
    let some = some_children (leaves_now tree) is.lawful.some in
    record {
      names = long;
      facts = omega (arith, long, same);
      within = (let below = chosen_below (seen_now (updates tree)) (omega (arith, seen, long, some)) in omega (arith, below, seen, long));
    }

state_among : (names : List ChildName) (all : List ChildFacts) (place : ℕ) → length names ≡ length all → place < length all → option_map_or (λ c. c.1.state) (slice_get (zip names all) place) Failing ≡ (get_or all place fresh).state
state_among [] [] place same lt = absurd (omega (arith, lt))
state_among [] (f ∷ fs) place same lt = absurd (omega (arith, same))
state_among (n ∷ ns) [] place same lt = absurd (omega (arith, lt))
state_among (n ∷ ns) (f ∷ fs) zero same lt = refl
state_among (n ∷ ns) (f ∷ fs) (suc place) same lt = state_among ns fs place (omega (arith, same)) (omega (arith, lt))

pub state_is : (reports : Reports) (tree : Tree) → IsGrownTree reports tree → tree_state tree ≡ state_of (facts_of tree)
state_is reports tree is =
    let has = has_chosen reports tree is in
    state_among (names_at (updates tree)) (all_facts (updates tree)) (chosen_place tree) (has.names ∙ sym has.facts) (let f = has.facts in let w = has.within in omega (arith, f, w))

-- ---- the trees of a cluster

pub kinds_are : (a b : Bool) → is_same_kind a b ≡ is_same a b
kinds_are true b = refl
kinds_are false b = refl

same_kind : (a b : Bool) → is_same_kind a b ≡ true → b ≡ a
same_kind true true is = refl
same_kind true false is = absurd (cc)
same_kind false true is = absurd (cc)
same_kind false false is = refl

-- of two kinds, what differs from one is the other
other_kind : (a b w : Bool) → is_same_kind a b ≡ false → is_same_kind a w ≡ false → b ≡ w
other_kind true true w is waits = absurd (cc)
other_kind true false true is waits = absurd (cc)
other_kind true false false is waits = refl
other_kind false true true is waits = refl
other_kind false true false is waits = absurd (cc)
other_kind false false w is waits = absurd (cc)

abbrev one : TreeFacts → Pair TreeFacts
one t = record { serving = t; waiting = None }

abbrev both : TreeFacts → TreeFacts → Pair TreeFacts
both t u = record { serving = t; waiting = Some u }

abbrev other_tree : Present → Leaves → Option Tree → Tree
other_tree p leaves waiting = grown p leaves.leaves (unwrap_or waiting (new_tree leaves.aggregate))

other_follows : (p : Present) (last reports : Reports) (leaves : Leaves) (waiting : Option Tree) → AreReportsOf p.state reports → AreLawfulLeaves leaves → IfSome waiting (IsGrownTree last) → IfSome waiting (λ w. leaves.aggregate ≡ w.aggregate) →
    facts_of (other_tree p leaves waiting) ≡ followed p.now reports leaves (option_map facts_of waiting)
other_follows p last reports leaves None agree lawful is kind = tree_follows p reports leaves (new_tree leaves.aggregate) agree lawful refl refl
other_follows p last reports leaves (Some w) agree lawful is kind = tree_follows p reports leaves w agree lawful kind (has_names last w is)

other_aggregate : (leaves : Leaves) (waiting : Option Tree) → IfSome waiting (λ w. leaves.aggregate ≡ w.aggregate) → leaves.aggregate ≡ (unwrap_or waiting (new_tree leaves.aggregate)).aggregate
other_aggregate leaves None kind = refl
other_aggregate leaves (Some w) kind = kind

settled_facts : (wait : Bool) (t u : Tree) → pair_facts (cond wait (record { serving = t; waiting = Some u }) (record { serving = u; waiting = None })) ≡ cond wait (both (facts_of t) (facts_of u)) (one (facts_of u))
settled_facts true t u = refl
settled_facts false t u = refl

waiting_kinds : (serving : Bool) (leaves : Leaves) (waiting : Option Tree) → is_same_kind serving leaves.aggregate ≡ false → IfSome waiting (λ w. is_same_kind serving w.aggregate ≡ false) → IfSome waiting (λ w. leaves.aggregate ≡ w.aggregate)
waiting_kinds serving leaves None is kinds = tt
waiting_kinds serving leaves (Some w) is kinds = other_kind serving leaves.aggregate w.aggregate is kinds

-- the old tree and the other one
stands_on : (p : Present) (last reports : Reports) (leaves : Leaves) (tree : Tree) → AreReportsOf p.state reports → IsGrownTree last tree → facts_of (grown p (leaves_now tree) tree) ≡ stayed p.now reports (facts_of tree)
stands_on p last reports leaves tree agree is = tree_follows p reports (leaves_of tree) tree agree is.lawful refl (has_names last tree is)

switched_follows : (p : Present) (last reports : Reports) (leaves before : Leaves) (old : Pair Tree) → AreReportsOf p.state reports → AreLawfulLeaves leaves → IsGrownPair last before old → is_same_kind old.serving.aggregate leaves.aggregate ≡ false →
    pair_facts (switched p leaves old) ≡ settled state_of (stayed p.now reports (facts_of old.serving)) (Some (followed p.now reports leaves (option_map facts_of old.waiting)))
switched_follows p last reports leaves before old agree lawful is kind =
    let t : Tree = grown p (leaves_now old.serving) old.serving in
    let u : Tree = other_tree p leaves old.waiting in
    let agrees = waiting_kinds old.serving.aggregate leaves old.waiting kind is.kinds in
    let t_is : facts_of t ≡ stayed p.now reports (facts_of old.serving) = stands_on p last reports leaves old.serving agree is.serving in
    let u_is : facts_of u ≡ followed p.now reports leaves (option_map facts_of old.waiting) = other_follows p last reports leaves old.waiting agree lawful is.waiting agrees in
    let t_state : tree_state t ≡ state_of (facts_of t) = state_is reports t (grown_tree p reports (leaves_of old.serving) old.serving agree is.serving.lawful) in
    let u_state : tree_state u ≡ state_of (facts_of u) = state_is reports u (grown_tree p reports leaves (unwrap_or old.waiting (new_tree leaves.aggregate)) agree lawful) in
    settled_facts (has_to_wait (tree_state t) (tree_state u)) t u
    ∙ (ap (λ (s : State). let ts : Pair TreeFacts = cond (has_to_wait s (tree_state u)) (both (facts_of t) (facts_of u)) (one (facts_of u)) in ts) t_state
    ∙ (ap (λ (s : State). let ts : Pair TreeFacts = cond (has_to_wait (state_of (facts_of t)) s) (both (facts_of t) (facts_of u)) (one (facts_of u)) in ts) u_state
    ∙ (ap (λ (x : TreeFacts). settled state_of x (Some (facts_of u))) t_is ∙ ap (λ (x : TreeFacts). settled state_of (stayed p.now reports (facts_of old.serving)) (Some x)) u_is)))

follows_by : (kind : Bool) (p : Present) (last reports : Reports) (leaves before : Leaves) (old : Pair Tree) → AreReportsOf p.state reports → AreLawfulLeaves leaves → IsGrownPair last before old → is_same_kind old.serving.aggregate leaves.aggregate ≡ kind →
    pair_facts (cond kind (alone (grown p leaves.leaves old.serving)) (switched p leaves old))
    ≡ cond kind (one (followed p.now reports leaves (Some (facts_of old.serving)))) (settled state_of (stayed p.now reports (facts_of old.serving)) (Some (followed p.now reports leaves (option_map facts_of old.waiting))))
follows_by true p last reports leaves before old agree lawful is kind =
    ap one (tree_follows p reports leaves old.serving agree lawful (same_kind old.serving.aggregate leaves.aggregate kind) (has_names last old.serving is.serving))
follows_by false p last reports leaves before old agree lawful is kind = switched_follows p last reports leaves before old agree lawful is kind

-- one step on what is kept of a cluster's trees gives what is kept of them one driver's entry later
pub trees_follow : (p : Present) (last reports : Reports) (leaves before : Leaves) (old : Option (Pair Tree)) → AreReportsOf p.state reports → AreLawfulLeaves leaves → IfSome old (IsGrownPair last before) →
    pair_facts (trees_with p leaves old) ≡ kept.trees_after p.now reports leaves (option_map pair_facts old)
trees_follow p last reports leaves before None agree lawful is = ap one (tree_follows p reports leaves (new_tree leaves.aggregate) agree lawful refl refl)
trees_follow p last reports leaves before (Some old) agree lawful is =
    let kind : Bool = is_same_kind old.serving.aggregate leaves.aggregate in
    let other : Pair TreeFacts = settled state_of (stayed p.now reports (facts_of old.serving)) (Some (followed p.now reports leaves (option_map facts_of old.waiting))) in
    follows_by kind p last reports leaves before old agree lawful is refl
    ∙ ap (λ (b : Bool). cond b (one (followed p.now reports leaves (Some (facts_of old.serving)))) other) (kinds_are old.serving.aggregate leaves.aggregate)

-- ---- what holds of the trees then

alone_grown : (p : Present) (reports : Reports) (leaves : Leaves) (tree : Tree) → AreReportsOf p.state reports → AreLawfulLeaves leaves → leaves.aggregate ≡ tree.aggregate → IsGrownPair reports leaves (alone (grown p leaves.leaves tree))
alone_grown p reports leaves tree agree lawful kind = record {
  serving = grown_tree p reports leaves tree agree lawful;
  waiting = tt;
  alone = λ none. with_kind leaves tree.aggregate kind;
  kinds = tt;
}

settled_grown : (wait : Bool) (p : Present) (last reports : Reports) (leaves before : Leaves) (old : Pair Tree) → AreReportsOf p.state reports → AreLawfulLeaves leaves → IsGrownPair last before old → is_same_kind old.serving.aggregate leaves.aggregate ≡ false →
    IsGrownPair reports leaves (cond wait (record { serving = grown p (leaves_now old.serving) old.serving; waiting = Some (other_tree p leaves old.waiting) }) (record { serving = other_tree p leaves old.waiting; waiting = None }))
settled_grown true p last reports leaves before old agree lawful is kind =
    let agrees = other_aggregate leaves old.waiting (waiting_kinds old.serving.aggregate leaves old.waiting kind is.kinds) in record {
      serving = grown_tree p reports (leaves_of old.serving) old.serving agree is.serving.lawful;
      waiting = grown_tree p reports leaves (unwrap_or old.waiting (new_tree leaves.aggregate)) agree lawful;
      alone = λ none. absurd (cc);
      kinds = ap (λ (b : Bool). is_same_kind old.serving.aggregate b) (sym agrees) ∙ kind;
    }
settled_grown false p last reports leaves before old agree lawful is kind =
    alone_grown p reports leaves (unwrap_or old.waiting (new_tree leaves.aggregate)) agree lawful (other_aggregate leaves old.waiting (waiting_kinds old.serving.aggregate leaves old.waiting kind is.kinds))

grown_by : (kind : Bool) (p : Present) (last reports : Reports) (leaves before : Leaves) (old : Pair Tree) → AreReportsOf p.state reports → AreLawfulLeaves leaves → IsGrownPair last before old → is_same_kind old.serving.aggregate leaves.aggregate ≡ kind →
    IsGrownPair reports leaves (cond kind (alone (grown p leaves.leaves old.serving)) (switched p leaves old))
grown_by true p last reports leaves before old agree lawful is kind = alone_grown p reports leaves old.serving agree lawful (same_kind old.serving.aggregate leaves.aggregate kind)
grown_by false p last reports leaves before old agree lawful is kind =
    settled_grown (has_to_wait (tree_state (grown p (leaves_now old.serving) old.serving)) (tree_state (other_tree p leaves old.waiting))) p last reports leaves before old agree lawful is kind

pub trees_grown : (p : Present) (last reports : Reports) (leaves before : Leaves) (old : Option (Pair Tree)) → AreReportsOf p.state reports → AreLawfulLeaves leaves → IfSome old (IsGrownPair last before) → IsGrownPair reports leaves (trees_with p leaves old)
trees_grown p last reports leaves before None agree lawful is = alone_grown p reports leaves (new_tree leaves.aggregate) agree lawful refl
trees_grown p last reports leaves before (Some old) agree lawful is =
    grown_by (is_same_kind old.serving.aggregate leaves.aggregate) p last reports leaves before old agree lawful is refl
