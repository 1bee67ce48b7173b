-- When the first timer of children ends, as far as a loop has come.
use Rattle.std.proofs.Common.{◌≡◌, ◌<◌, ◌≤◌, ◌+◌, ℕ, suc, List, [], ◌∷◌, length, get_or, drop, min, ap, arith, drop-cons}
use Rattle.std.proofs.Math.ListN.{drop_of_length-le}
use Rattle.priority_lb.specs.declared.facts.ChildFacts.{ChildFacts}
use Rattle.priority_lb.specs.RunningTimers.{child_end, first_end, never}

most : (children : List ChildFacts) → first_end children ≤ never
most [] = omega arith
most (child ∷ children) = let more = most children in omega (arith, more)

pub end_begins : (children : List ChildFacts) → min never (first_end (drop 0 children)) ≡ first_end children
end_begins children = let more = most children in omega (arith, more)

pub end_goes_on : (end next : ℕ) (children : List ChildFacts) (i : ℕ) (d : ChildFacts) → i < length children → next ≡ min end (child_end (get_or children i d)) → min end (first_end (drop i children)) ≡ first_end children
    → min next (first_end (drop (i + 1) children)) ≡ first_end children
end_goes_on end next children i d lt made was =
    let one : first_end (drop i children) ≡ min (child_end (get_or children i d)) (first_end (drop (suc i) children)) = ap first_end (drop-cons children i d lt) in
    let same : first_end (drop (i + 1) children) ≡ first_end (drop (suc i) children) = ap (λ (n : ℕ). first_end (drop n children)) (let e : i + 1 ≡ suc i = omega arith in e) in
    omega (arith, was, one, same, made)

pub end_of_all : (end : ℕ) (children : List ChildFacts) (i : ℕ) → end ≤ never → length children ≤ i → min end (first_end (drop i children)) ≡ first_end children → end ≡ first_end children
end_of_all end children i fits all was =
    let none : first_end (drop i children) ≡ never = ap first_end (drop_of_length-le children all) in
    omega (arith, fits, was, none)
