-- Members of what is put in.
use Rattle.std.proofs.Common.{◌≡◌, ◌<◌, ◌+◌, ◌||◌, inl, inr, ℕ, Bool, true, false, cond, List, [], ◌∷◌, map, drop, length, get_or, refl, sym, ap, subst, ◌∙◌, Ordering}
use Rattle.std.specs.Prelude.{◌⊎◌, Contains}
use Rattle.std.specs.Borrow.{Bor}
use Rattle.std.specs.declared.cmp.Ordering.TheVariants.{Less, Equal, Greater}
use Rattle.std.specs.BTreeSet.{insert_key}
use Rattle.std.specs.List.{list_any}
use Rattle.std.specs.Ordering.{nat_cmp, is_eq, match_ordering}
use Rattle.std.proofs.lemmas.List.{drop_more}
use Rattle.std.proofs.lemmas.Map.Lookups.{CmpEqualImpliesEq, exact_bytes, exact_unsigned}
use Rattle.xc_keys.proofs.MemberLemmas.{no_member, here, there, at_first}
use Rattle.cluster_refs.specs.declared.pins.Pin.{Pin}
use Rattle.cluster_refs.specs.ReferredNames.{Name, name_cmp}
use Rattle.cluster_refs.specs.PinnedNames.{put_in, is_seen, put_pins}
use Rattle.cluster_refs.proofs.NameLemmas.{equal_from_is_eq}

-- ---- one member

module _ {X : Type 0} (order : X → X → Ordering) (exact : CmpEqualImpliesEq order) where
  inserted_at : (o : Ordering) (x y : X) (xs : List X) → (o ≡ Equal → y ≡ x) → Contains (insert_key order xs y) y → Contains (match_ordering o (y ∷ x ∷ xs) (x ∷ xs) (x ∷ insert_key order xs y)) y
  inserted_at Less x y xs same more = here y (x ∷ xs)
  inserted_at Equal x y xs same more = subst (λ z. Contains (x ∷ xs) z) (sym (same refl)) (here x xs)
  inserted_at Greater x y xs same more = there x (insert_key order xs y) y more

  inserted : (y : X) (xs : List X) → Contains (insert_key order xs y) y
  inserted y [] = here y []
  inserted y (x ∷ xs) = inserted_at (order y x) x y xs (exact y x) (inserted y xs)

  stays_at : (o : Ordering) (x y z : X) (xs : List X) → (Contains xs z → Contains (insert_key order xs y) z) → Contains (x ∷ xs) z → Contains (match_ordering o (y ∷ x ∷ xs) (x ∷ xs) (x ∷ insert_key order xs y)) z
  stays_at Less x y z xs more has = there y (x ∷ xs) z has
  stays_at Equal x y z xs more has = has
  stays_at Greater x y z xs more has =
      elim (at_first x z xs has) [
        | inl is ↦ subst (λ w. Contains (x ∷ insert_key order xs y) w) is (here x (insert_key order xs y))
        | inr later ↦ there x (insert_key order xs y) z (more later)
      ]

  stays : (y z : X) (xs : List X) → Contains xs z → Contains (insert_key order xs y) z
  stays y z [] has = absurd (no_member z has)
  stays y z (x ∷ xs) has = stays_at (order y x) x y z xs (stays y z xs) has

  from_inserted_at : (o : Ordering) (x y z : X) (xs : List X) → (Contains (insert_key order xs y) z → (y ≡ z) ⊎ Contains xs z) → Contains (match_ordering o (y ∷ x ∷ xs) (x ∷ xs) (x ∷ insert_key order xs y)) z → (y ≡ z) ⊎ Contains (x ∷ xs) z
  from_inserted_at Less x y z xs more has = at_first y z (x ∷ xs) has
  from_inserted_at Equal x y z xs more has = inr has
  from_inserted_at Greater x y z xs more has =
      elim (at_first x z (insert_key order xs y) has) [
        | inl is ↦ inr (subst (λ w. Contains (x ∷ xs) w) is (here x xs))
        | inr later ↦ elim (more later) [ inl is ↦ inl is | inr older ↦ inr (there x xs z older) ]
      ]

  from_inserted : (y z : X) (xs : List X) → Contains (insert_key order xs y) z → (y ≡ z) ⊎ Contains xs z
  from_inserted y z [] has = at_first y z [] has
  from_inserted y z (x ∷ xs) has = from_inserted_at (order y x) x y z xs (from_inserted y z xs) has

-- ---- names

stays_put : (xs ys : List Name) (z : Name) → Contains xs z → Contains (put_in xs ys) z
stays_put xs [] z has = has
stays_put xs (y ∷ ys) z has = stays_put (insert_key name_cmp xs y) ys z (stays name_cmp exact_bytes y z xs has)

pub put : (xs ys : List Name) (z : Name) → Contains ys z → Contains (put_in xs ys) z
put xs [] z has = absurd (no_member z has)
put xs (y ∷ ys) z has =
    elim (at_first y z ys has) [
      | inl is ↦ stays_put (insert_key name_cmp xs y) ys z (subst (λ w. Contains (insert_key name_cmp xs y) w) is (inserted name_cmp exact_bytes y xs))
      | inr later ↦ put (insert_key name_cmp xs y) ys z later
    ]

from_put : (xs ys : List Name) (z : Name) → Contains (put_in xs ys) z → Contains xs z ⊎ Contains ys z
from_put xs [] z has = inl has
from_put xs (y ∷ ys) z has =
    elim (from_put (insert_key name_cmp xs y) ys z has) [
      | inl old ↦ elim (from_inserted name_cmp exact_bytes y z xs old) [ inl is ↦ inr (subst (λ w. Contains (y ∷ ys) w) is (here y ys)) | inr older ↦ inl older ]
      | inr later ↦ inr (there y ys z later)
    ]

pub from_put_none : (ys : List Name) (z : Name) → Contains (put_in [] ys) z → Contains ys z
from_put_none ys z has = elim (from_put [] ys z has) [ inl none ↦ absurd (no_member z none) | inr own ↦ own ]

-- ---- numbers

again : (a b : Bool) → (a || b) ≡ (a || (a || b))
again true b = refl
again false b = refl

swapped : (a b c : Bool) → (a || (b || c)) ≡ (b || (a || c))
swapped true true c = refl
swapped true false c = refl
swapped false b c = refl

by_order : (test : ℕ → Bool) (o : Ordering) (x y : ℕ) (ys rest : List ℕ) → nat_cmp x y ≡ o → list_any test rest ≡ (test x || list_any test ys) → list_any test (match_ordering o (x ∷ y ∷ ys) (y ∷ ys) (y ∷ rest)) ≡ (test x || list_any test (y ∷ ys))
by_order test Less x y ys rest e more = refl
by_order test Equal x y ys rest e more = ap (λ z. test z || list_any test ys) (sym (exact_unsigned x y e)) ∙ again (test x) (list_any test ys) ∙ ap (λ z. test x || (test z || list_any test ys)) (exact_unsigned x y e)
by_order test Greater x y ys rest e more = ap (λ b. test y || b) more ∙ swapped (test y) (test x) (list_any test ys)

any_put : (test : ℕ → Bool) (xs : List ℕ) (x : ℕ) → list_any test (insert_key nat_cmp xs x) ≡ (test x || list_any test xs)
any_put test [] x = refl
any_put test (y ∷ xs) x = by_order test (nat_cmp x y) x y xs (insert_key nat_cmp xs x) refl (any_put test xs x)

or_true : (b d : Bool) → (b || d) ≡ true → (b ≡ true) ⊎ (d ≡ true)
or_true true d is = inl refl
or_true false d is = inr is

-- a number that is seen after one more is this one, or was seen
seen_before : (numbers : List ℕ) (number other : ℕ) → is_seen (insert_key nat_cmp numbers number) other ≡ true → (other ≡ number) ⊎ (is_seen numbers other ≡ true)
seen_before numbers number other seen =
    elim (or_true (is_eq (nat_cmp other number)) (is_seen numbers other) (sym (any_put (λ n. is_eq (nat_cmp other n)) numbers number) ∙ seen)) [
      | inl is ↦ inl (exact_unsigned other number (equal_from_is_eq (nat_cmp other number) is))
      | inr old ↦ inr old
    ]

pub none_seen : (number : ℕ) → is_seen [] number ≡ true → ⊥
none_seen number seen = cc

-- ---- pins

cond_both : (b : Bool) (xs ys : List Name) (z : Name) → Contains xs z → Contains ys z → Contains (cond b xs ys) z
cond_both true xs ys z one other = one
cond_both false xs ys z one other = other

-- what was there stays
pub pins_keep : (names : List Name) (numbers : List ℕ) (pins : List Pin) (z : Name) → Contains names z → Contains (put_pins names numbers pins) z
pins_keep names numbers [] z has = has
pins_keep names numbers (pin ∷ pins) z has =
    cond_both (is_seen numbers pin.number) (put_pins names numbers pins) (put_pins (put_in names pin.names) (insert_key nat_cmp numbers pin.number) pins) z
    (pins_keep names numbers pins z has) (pins_keep (put_in names pin.names) (insert_key nat_cmp numbers pin.number) pins z (stays_put names pin.names z has))

-- one of the pins has the name
abbrev pub HasPin : List Pin → Name → Type 0
HasPin pins z = (pin : Pin) × Contains pins pin × Contains pin.names z

pin_there : (pin : Pin) (pins : List Pin) (z : Name) → HasPin pins z → HasPin (pin ∷ pins) z
pin_there pin pins z (found, has, own) = (found, there pin pins found has, own)

from_at : (b : Bool) (one two names : List Name) (pin : Pin) (pins : List Pin) (z : Name) → (Contains one z → Contains names z ⊎ HasPin pins z) → (Contains two z → Contains (put_in names pin.names) z ⊎ HasPin pins z) →
    Contains (cond b one two) z → Contains names z ⊎ HasPin (pin ∷ pins) z
from_at true one two names pin pins z first second has = elim (first has) [ inl old ↦ inl old | inr some ↦ inr (pin_there pin pins z some) ]
from_at false one two names pin pins z first second has =
    elim (second has) [
      | inl old ↦ elim (from_put names pin.names z old) [ inl older ↦ inl older | inr own ↦ inr (pin, here pin pins, own) ]
      | inr some ↦ inr (pin_there pin pins z some)
    ]

pub from_pins : (names : List Name) (numbers : List ℕ) (pins : List Pin) (z : Name) → Contains (put_pins names numbers pins) z → Contains names z ⊎ HasPin pins z
from_pins names numbers [] z has = inl has
from_pins names numbers (pin ∷ pins) z has =
    from_at (is_seen numbers pin.number) (put_pins names numbers pins) (put_pins (put_in names pin.names) (insert_key nat_cmp numbers pin.number) pins) names pin pins z
    (from_pins names numbers pins z) (from_pins (put_in names pin.names) (insert_key nat_cmp numbers pin.number) pins z) has

-- the names of the lists whose numbers were seen are there
abbrev AreDone : List Pin → List ℕ → List Name → Type 0
AreDone all numbers names = (p : Pin) → Contains all p → is_seen numbers p.number ≡ true → (z : Name) → Contains p.names z → Contains names z

abbrev AreAlike : List Pin → Type 0
AreAlike all = (pin next : Pin) → Contains all pin → Contains all next → pin.number ≡ next.number → pin.names ≡ next.names

done_more : (all : List Pin) (numbers : List ℕ) (names : List Name) (pin : Pin) → AreAlike all → Contains all pin → AreDone all numbers names → AreDone all (insert_key nat_cmp numbers pin.number) (put_in names pin.names)
done_more all numbers names pin alike among done p has seen z own =
    elim (seen_before numbers pin.number p.number seen) [
      | inl same ↦ put names pin.names z (subst (λ ns. Contains ns z) (alike p pin has among same) own)
      | inr old ↦ stays_put names pin.names z (done p has old z own)
    ]

have_at : (b : Bool) (all : List Pin) (names : List Name) (numbers : List ℕ) (p pin : Pin) (pins : List Pin) (z : Name) → is_seen numbers p.number ≡ b → Contains all p → AreDone all numbers names → Contains (p ∷ pins) pin → Contains pin.names z →
    (Contains pins pin → Contains (put_pins names numbers pins) z) → (Contains pins pin → Contains (put_pins (put_in names p.names) (insert_key nat_cmp numbers p.number) pins) z) →
    Contains (cond b (put_pins names numbers pins) (put_pins (put_in names p.names) (insert_key nat_cmp numbers p.number) pins)) z
have_at true all names numbers p pin pins z seen among done has own first second =
    elim (at_first p pin pins has) [
      | inl is ↦ pins_keep names numbers pins z (done p among seen z (subst (λ q. Contains q.names z) (sym is) own))
      | inr later ↦ first later
    ]
have_at false all names numbers p pin pins z seen among done has own first second =
    elim (at_first p pin pins has) [
      | inl is ↦ pins_keep (put_in names p.names) (insert_key nat_cmp numbers p.number) pins z (put names p.names z (subst (λ q. Contains q.names z) (sym is) own))
      | inr later ↦ second later
    ]

-- the names of each of the pins are there afterwards
pub pins_have : (all : List Pin) → AreAlike all → (names : List Name) (numbers : List ℕ) (pins : List Pin) → ((p : Pin) → Contains pins p → Contains all p) → AreDone all numbers names →
    (pin : Pin) (z : Name) → Contains pins pin → Contains pin.names z → Contains (put_pins names numbers pins) z
pins_have all alike names numbers [] within done pin z has own = absurd (no_member pin has)
pins_have all alike names numbers (p ∷ pins) within done pin z has own =
    let among = within p (here p pins) in
    let rest : (q : Pin) → Contains pins q → Contains all q = λ q later. within q (there p pins q later) in
    have_at (is_seen numbers p.number) all names numbers p pin pins z refl among done has own
    (λ later. pins_have all alike names numbers pins rest done pin z later own)
    (λ later. pins_have all alike (put_in names p.names) (insert_key nat_cmp numbers p.number) pins rest (done_more all numbers names p alike among done) pin z later own)

-- ---- pin by pin

step_at : (b : Bool) (names new_names more : List Name) (numbers new_numbers others : List ℕ) (pins : List Pin) → new_names ≡ cond b names more → new_numbers ≡ cond b numbers others →
    put_pins new_names new_numbers pins ≡ cond b (put_pins names numbers pins) (put_pins more others pins)
step_at true names new_names more numbers new_numbers others pins is also = ap (λ n. put_pins n new_numbers pins) is ∙ ap (λ n. put_pins names n pins) also
step_at false names new_names more numbers new_numbers others pins is also = ap (λ n. put_pins n new_numbers pins) is ∙ ap (λ n. put_pins more n pins) also

pub put_step : (names new_names rest : List Name) (numbers new_numbers : List ℕ) (pins : List (Bor Pin)) (i : ℕ) (pin : Bor Pin) → i < length pins → pin ≡ get_or pins i pin →
    new_names ≡ cond (is_seen numbers pin.now.number) names (put_in names pin.now.names) → new_numbers ≡ cond (is_seen numbers pin.now.number) numbers (insert_key nat_cmp numbers pin.now.number) →
    put_pins names numbers (map (λ p. p.now) (drop i pins)) ≡ rest → put_pins new_names new_numbers (map (λ p. p.now) (drop (i + 1) pins)) ≡ rest
put_step names new_names rest numbers new_numbers pins i pin lt is named numbered before =
    let left : drop i pins ≡ pin ∷ drop (i + 1) pins = drop_more pins i pin lt ∙ ap (λ p. p ∷ drop (i + 1) pins) (sym is) in
    step_at (is_seen numbers pin.now.number) names new_names (put_in names pin.now.names) numbers new_numbers (insert_key nat_cmp numbers pin.now.number) (map (λ p. p.now) (drop (i + 1) pins)) named numbered
    ∙ sym (ap (λ (ps : List (Bor Pin)). put_pins names numbers (map (λ p. p.now) ps)) left) ∙ before
