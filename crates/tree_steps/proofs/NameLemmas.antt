-- No two children have one name.
use Rattle.std.proofs.Common.{◌≡◌, ◌≢◌, ◌==◌, ℕ, zero, suc, ◌+◌, ◌<◌, Bool, true, false, ◌&&◌, List, [], ◌∷◌, ◌++◌, map, refl, sym, ap, ◌∙◌, subst, arith}
use Rattle.std.specs.Prelude.{All, IsFalse}
use Rattle.std.specs.List.{range_with_len, AllPairs}
use Rattle.std.specs.Cmp.Lexicographic.{pointwise}
use Rattle.std.proofs.lemmas.Bool.Decides.{nat_tests}
use Rattle.std.proofs.lemmas.List.{map-append}
use Rattle.std.proofs.lemmas.List.Elements.{All-append, All-cons}
use Rattle.std.proofs.lemmas.List.Kept.{AllPairs-cons}
use lib.Pointwise.{bytes_decides}
use Rattle.xds_config.specs.declared.config.Leaf.{Leaf}
use Rattle.xds_config.specs.declared.config.Leaves.{Leaves}
use Rattle.xds_config.specs.Configs.{AreLawfulLeaves}
use Rattle.priority_lb.specs.ChildHistories.{Name, same_name}
use Rattle.priority_lb.specs.ChildLaws.{IsEachOnce}
use Rattle.tree_steps.specs.Reports.{Child, localities_of, priority_count, leaf_children, children_of, name_of, names_of}
use Rattle.tree_steps.proofs.ChildLemmas.{all_children}

abbrev Apart : Name → Name → Type 0
Apart a b = IsFalse (same_name b a)

abbrev with_priority : List ℕ → ℕ → Name
with_priority name priority = (name, priority)

and_false : (b c : Bool) → c ≡ false → (b && c) ≡ false
and_false true c is = is
and_false false c is = refl

false_and : (b c : Bool) → b ≡ false → (b && c) ≡ false
false_and b c is = rw is refl

not_true : (b : Bool) → (b ≡ true → ⊥) → b ≡ false
not_true true never = absurd (never refl)
not_true false never = refl

other_priority : (name : List ℕ) (p q : ℕ) → p < q → Apart (with_priority name p) (with_priority name q)
other_priority name p q lt =
    let differ : (q == p) ≡ false = grind (arith, nat_tests) in
    and_false (pointwise (λ x y. x == y) name name) (q == p) differ

other_leaf : (a b : Name) → b.0 ≢ a.0 → Apart a b
other_leaf a b differ = false_and (pointwise (λ x y. x == y) b.0 a.0) (b.1 == a.1) (not_true (pointwise (λ x y. x == y) b.0 a.0) (λ same. differ ((bytes_decides b.0 a.0).0 same)))

later : (name : List ℕ) (p q n : ℕ) → p < q → All (Apart (with_priority name p)) (map (with_priority name) (range_with_len q n))
later name p q zero lt = λ k d within. absurd (omega arith)
later name p q (suc n) lt =
    All-cons (Apart (with_priority name p)) (with_priority name q) (map (with_priority name) (range_with_len (q + 1) n)) (other_priority name p q lt) (later name p (q + 1) n (omega arith))

leaf_apart : (name : List ℕ) (p n : ℕ) (rest : List Name) → All (λ m. m.0 ≢ name) rest → AllPairs Apart rest → AllPairs Apart (map (with_priority name) (range_with_len p n) ++ rest)
leaf_apart name p zero rest others apart = apart
leaf_apart name p (suc n) rest others apart =
    AllPairs-cons Apart (with_priority name p) (map (with_priority name) (range_with_len (p + 1) n) ++ rest)
    (All-append (Apart (with_priority name p)) (map (with_priority name) (range_with_len (p + 1) n)) rest (later name p (p + 1) n (omega arith)) (λ k d lt. other_leaf (with_priority name p) _ (others k d lt)))
    (leaf_apart name (p + 1) n rest others apart)

map_map : {A B C : Type 0} (g : B → C) (f : A → B) (xs : List A) → map g (map f xs) ≡ map (λ x. g (f x)) xs
map_map g f [] = refl
map_map g f (x ∷ xs) = ap (λ ys. g (f x) ∷ ys) (map_map g f xs)

all_names : (name : List ℕ) (cs : List Child) → All (λ c. c.0.name ≢ name) cs → All (λ m. m.0 ≢ name) (map name_of cs)
all_names name [] all = λ k d lt. absurd (omega arith)
all_names name (c ∷ cs) all = All-cons (λ (m : Name). m.0 ≢ name) (name_of c) (map name_of cs) (all 0 c (omega arith)) (all_names name cs (λ k d lt. all (suc k) d (omega arith)))

rest_pairs : (leaf : Leaf) (leaves : List Leaf) → AllPairs (λ (a b : Leaf). a.name ≢ b.name) (leaf ∷ leaves) → AllPairs (λ (a b : Leaf). a.name ≢ b.name) leaves
rest_pairs leaf leaves once = λ i j d lt within. once (suc i) (suc j) d (omega arith) (omega arith)

with_leaf_name : Leaf → ℕ → Name
with_leaf_name leaf priority = (leaf.name, priority)

pub names_apart : (leaves : List Leaf) → AllPairs (λ (a b : Leaf). a.name ≢ b.name) leaves → AllPairs Apart (names_of leaves)
names_apart [] once = λ i j d lt within. absurd (omega arith)
names_apart (leaf ∷ leaves) once =
    let with_leaf : ℕ → Child = λ p. (leaf, p) in
    let here : names_of (leaf ∷ leaves) ≡ map (with_priority leaf.name) (range_with_len 0 (priority_count (localities_of leaf))) ++ names_of leaves =
    map-append name_of (leaf_children leaf) (children_of leaves) ∙ ap (λ (ns : List Name). ns ++ names_of leaves) (map_map name_of with_leaf (range_with_len 0 (priority_count (localities_of leaf)))) in
    let P : Leaf → Type 0 = λ l. l.name ≢ leaf.name in
    let others : All P leaves = λ k d lt same. once 0 (suc k) d (omega arith) (omega arith) (sym same) in
    subst (λ ns. AllPairs Apart ns) (sym here)
    (leaf_apart leaf.name 0 (priority_count (localities_of leaf)) (names_of leaves) (all_names leaf.name (children_of leaves) (all_children P leaves others)) (names_apart leaves (rest_pairs leaf leaves once)))

pub each_once : (leaves : Leaves) → AreLawfulLeaves leaves → IsEachOnce (names_of leaves.leaves)
each_once leaves lawful = names_apart leaves.leaves lawful.once
