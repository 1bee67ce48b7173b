-- Marks, and names of keys whose homes are marked.
use Rattle.std.proofs.Common.{◌≡◌, ℕ, zero, suc, ◌+◌, ◌<◌, ◌≤◌, Bool, true, false, ◌&&◌, if◌then◌else◌, Some, None, List, [], ◌∷◌, drop, length, get_or, slice_set, refl, sym, subst, ap, ap₂, ◌∙◌, ne_eqb, arith}
use Rattle.std.proofs.lemmas.List.{drop_more}
use Rattle.std.specs.Prelude.{slice_get, replicate}
use Rattle.std.specs.List.{cons_option}
use Rattle.xc_base.specs.declared.names.Authority.{Authority}
use Rattle.xc_base.specs.declared.names.Home.{Home}
use Rattle.xc_base.specs.declared.names.Key.{Key}
use Rattle.xc_base.specs.declared.names.Kind.{Kind}
use Rattle.xds_history.specs.Words.{same_kind, lives_at}
use Rattle.book_streams.specs.StreamsKept.{is_asked_of, key_names}
use Rattle.book_streams.specs.Settling.{HaveSameNames, IsCompared, KeepsMarks, NoneBelow, NoneFrom, mark_home}

-- ---- places of a list

module _ {X : Type 0} where
  pub in_range : (xs : List X) (i : ℕ) (x : X) → slice_get xs i ≡ Some x → i < length xs
  in_range [] i x is = absurd (cc is)
  in_range (y ∷ ys) zero x is = omega arith
  in_range (y ∷ ys) (suc i) x is = omega (arith, in_range ys i x is)

  pub set_here : (xs : List X) (i : ℕ) (x : X) → i < length xs → slice_get (slice_set xs i x) i ≡ Some x
  set_here [] i x lt = absurd (omega (arith, lt))
  set_here (y ∷ ys) zero x lt = refl
  set_here (y ∷ ys) (suc i) x lt = set_here ys i x (omega (arith, lt))

  pub set_elsewhere : (xs : List X) (i j : ℕ) (x : X) → (j ≡ i → ⊥) → slice_get (slice_set xs i x) j ≡ slice_get xs j
  set_elsewhere [] i j x other = refl
  set_elsewhere (y ∷ ys) zero zero x other = absurd (other refl)
  set_elsewhere (y ∷ ys) zero (suc j) x other = refl
  set_elsewhere (y ∷ ys) (suc i) zero x other = refl
  set_elsewhere (y ∷ ys) (suc i) (suc j) x other = set_elsewhere ys i j x (λ e. other (ap suc e))

  pub set_past : (xs : List X) (i : ℕ) (x : X) → length xs ≤ i → slice_set xs i x ≡ xs
  set_past [] i x le = refl
  set_past (y ∷ ys) zero x le = absurd (omega (arith, le))
  set_past (y ∷ ys) (suc i) x le = ap (λ xs. y ∷ xs) (set_past ys i x (omega (arith, le)))

  pub set_long : (xs : List X) (i : ℕ) (x : X) → length (slice_set xs i x) ≡ length xs
  set_long [] i x = refl
  set_long (y ∷ ys) zero x = refl
  set_long (y ∷ ys) (suc i) x = ap suc (set_long ys i x)

-- ---- marks

pub unmarked_at : (marks : List Bool) (i : ℕ) → i < length marks → (slice_get marks i ≡ Some true → ⊥) → slice_get marks i ≡ Some false
unmarked_at [] i lt none = absurd (omega (arith, lt))
unmarked_at (true ∷ marks) zero lt none = absurd (none refl)
unmarked_at (false ∷ marks) zero lt none = refl
unmarked_at (mark ∷ marks) (suc i) lt none = unmarked_at marks i (omega (arith, lt)) none

-- what is unmarked once a place is marked is another place
pub other_place : (marks : List Bool) (i j : ℕ) → slice_get (slice_set marks i true) j ≡ Some false → (j ≡ i → ⊥)
other_place [] i j is e = absurd (cc is)
other_place (mark ∷ marks) zero zero is e = absurd (cc is)
other_place (mark ∷ marks) zero (suc j) is e = absurd (omega (arith, e))
other_place (mark ∷ marks) (suc i) zero is e = absurd (omega (arith, e))
other_place (mark ∷ marks) (suc i) (suc j) is e = other_place marks i j is (omega (arith, e))

-- so is what is marked once a mark is taken away
pub other_mark : (marks : List Bool) (i j : ℕ) → slice_get (slice_set marks i false) j ≡ Some true → (j ≡ i → ⊥)
other_mark [] i j is e = absurd (cc is)
other_mark (mark ∷ marks) zero zero is e = absurd (cc is)
other_mark (mark ∷ marks) zero (suc j) is e = absurd (omega (arith, e))
other_mark (mark ∷ marks) (suc i) zero is e = absurd (omega (arith, e))
other_mark (mark ∷ marks) (suc i) (suc j) is e = other_mark marks i j is (omega (arith, e))

pub passed_mark : (marks : List Bool) (i j : ℕ) → slice_get (slice_set marks i false) j ≡ Some true → slice_get marks j ≡ Some true
passed_mark marks i j is = sym (set_elsewhere marks i j false (other_mark marks i j is)) ∙ is

pub unmarked_before : (marks : List Bool) (i j : ℕ) → slice_get (slice_set marks i true) j ≡ Some false → slice_get marks j ≡ Some false
unmarked_before marks i j is = sym (set_elsewhere marks i j true (other_place marks i j is)) ∙ is

-- a place is marked, or it was
or_marked : (Y : Type 0) (marks : List Bool) (i j : ℕ) → slice_get (slice_set marks i true) j ≡ Some true → (j ≡ i → Y) → (slice_get marks j ≡ Some true → Y) → Y
or_marked Y [] i j is here there = there is
or_marked Y (mark ∷ marks) zero zero is here there = here refl
or_marked Y (mark ∷ marks) zero (suc j) is here there = there is
or_marked Y (mark ∷ marks) (suc i) zero is here there = there is
or_marked Y (mark ∷ marks) (suc i) (suc j) is here there = or_marked Y marks i j is (λ e. here (ap suc e)) there

pub below_marked : (marks : List Bool) (place first end next : ℕ) → NoneBelow marks first → NoneFrom marks end → next ≤ place → ((p : ℕ) → first ≤ p → p < end → next ≤ p) → NoneBelow (slice_set marks place true) next
below_marked marks place first end next below from here range p is =
    or_marked (next ≤ p) marks place p is (λ e. omega (arith, here, e)) (λ was. range p (below p was) (from p was))

pub from_marked : (marks : List Bool) (place first end next : ℕ) → NoneBelow marks first → NoneFrom marks end → place < next → ((p : ℕ) → first ≤ p → p < end → p < next) → NoneFrom (slice_set marks place true) next
from_marked marks place first end next below from here range p is =
    or_marked (p < next) marks place p is (λ e. omega (arith, here, e)) (λ was. range p (below p was) (from p was))

pub below_passed : (marks : List Bool) (place next : ℕ) → place + 1 ≡ next → NoneBelow marks place → NoneBelow (slice_set marks place false) next
below_passed marks place next on below p is =
    let low : place ≤ p = below p (passed_mark marks place p is) in
    let other : p ≡ place → ⊥ = other_mark marks place p is in
    omega (arith, on, low, other)

pub from_passed : (marks : List Bool) (place end : ℕ) → NoneFrom marks end → NoneFrom (slice_set marks place false) end
from_passed marks place end from p is = from p (passed_mark marks place p is)

pub none_marked : (n i : ℕ) → slice_get (replicate n false) i ≡ Some true → ⊥
none_marked zero i is = cc is
none_marked (suc n) zero is = cc is
none_marked (suc n) (suc i) is = none_marked n i is

-- ---- more marks

pub keeps_all : (marks : List Bool) → KeepsMarks marks marks
keeps_all marks = record { long = refl; unmarked = λ place is. is }

pub keeps_then : (a b c : List Bool) → KeepsMarks a b → KeepsMarks b c → KeepsMarks a c
keeps_then a b c one two = record { long = two.long ∙ one.long; unmarked = λ place is. one.unmarked place (two.unmarked place is) }

pub home_keeps : (marks : List Bool) (home : Home) → KeepsMarks marks (mark_home marks home)
home_keeps marks (Home.At a) = record { long = set_long marks a.0 true; unmarked = λ place is. unmarked_before marks a.0 place is }
home_keeps marks (Home.Nowhere fault) = keeps_all marks

-- ---- names

and_false : (x y : Bool) → y ≡ false → (x && y) ≡ false
and_false true y is = is
and_false false y is = refl

lives_elsewhere : (marks : List Bool) (a : Authority) (home : Home) → slice_get (mark_home marks home) a.0 ≡ Some false → lives_at a home ≡ false
lives_elsewhere marks a (Home.At b) is = ne_eqb a.0 b.0 (other_place marks b.0 a.0 is)
lives_elsewhere marks a (Home.Nowhere fault) is = refl

-- the name of a key whose home was marked is of no authority that isn't
pub name_skipped : (marks next : List Bool) (key : Key) (keys : List Key) (a : Authority) (kind : Kind) → next ≡ mark_home marks key.home → slice_get next a.0 ≡ Some false → key_names a kind (key ∷ keys) ≡ key_names a kind keys
name_skipped marks next key keys a kind are is =
    let at : slice_get (mark_home marks key.home) a.0 ≡ Some false = ap (λ ms. slice_get ms a.0) (sym are) ∙ is in
    ap (λ b. cons_option (if b then Some key.name else None) (key_names a kind keys)) (and_false (same_kind key.kind kind) (lives_at a key.home) (lives_elsewhere marks a key.home at))

pub name_added : (key other : Key) (keys others : List Key) (a : Authority) (kind : Kind) → key ≡ other → key_names a kind keys ≡ key_names a kind others → key_names a kind (key ∷ keys) ≡ key_names a kind (other ∷ others)
name_added key other keys others a kind same rest = ap₂ (λ k names. cons_option (if is_asked_of a kind k then Some k.name else None) names) same rest

-- ---- lists that are compared

pub compared_not : (marks : List Bool) (keys others : List Key) → IsCompared marks marks keys others keys others
compared_not marks keys others = record { kept = keeps_all marks; same = λ a kind is same. same }

pub compared_then : (a b c : List Bool) (keys others keys_then others_then keys_left others_left : List Key) → IsCompared a b keys others keys_then others_then → IsCompared b c keys_then others_then keys_left others_left → IsCompared a c keys others keys_left others_left
compared_then a b c keys others keys_then others_then keys_left others_left one two = record {
  kept = keeps_then a b c one.kept two.kept;
  same = λ x kind is same. one.same x kind (two.kept.unmarked x.0 is) (two.same x kind is same);
}

-- the first of the keys that are left
pub first_left : (keys : List Key) (i : ℕ) (key : Key) → i < length keys → key ≡ get_or keys i key → drop i keys ≡ key ∷ drop (i + 1) keys
first_left keys i key lt is = drop_more keys i key lt ∙ ap (λ k. k ∷ drop (i + 1) keys) (sym is)

pub compared_same : (marks : List Bool) (keys others : List Key) (i j : ℕ) (key other : Key) → i < length keys → j < length others → key ≡ get_or keys i key → other ≡ get_or others j other → key ≡ other →
    IsCompared marks marks (drop i keys) (drop j others) (drop (i + 1) keys) (drop (j + 1) others)
compared_same marks keys others i j key other lt lt' is is' same = record {
  kept = keeps_all marks;
  same = λ a kind at rest.
      ap (key_names a kind) (first_left keys i key lt is) ∙ name_added key other (drop (i + 1) keys) (drop (j + 1) others) a kind same rest ∙ sym (ap (key_names a kind) (first_left others j other lt' is'));
}

pub compared_before : (marks next : List Bool) (keys others : List Key) (i : ℕ) (key : Key) → i < length keys → key ≡ get_or keys i key → next ≡ mark_home marks key.home →
    IsCompared marks next (drop i keys) others (drop (i + 1) keys) others
compared_before marks next keys others i key lt is are = record {
  kept = subst (λ ms. KeepsMarks marks ms) (sym are) (home_keeps marks key.home);
  same = λ a kind at rest. ap (key_names a kind) (first_left keys i key lt is) ∙ name_skipped marks next key (drop (i + 1) keys) a kind are at ∙ rest;
}

pub compared_after : (marks next : List Bool) (keys others : List Key) (j : ℕ) (other : Key) → j < length others → other ≡ get_or others j other → next ≡ mark_home marks other.home →
    IsCompared marks next keys (drop j others) keys (drop (j + 1) others)
compared_after marks next keys others j other lt is are = record {
  kept = subst (λ ms. KeepsMarks marks ms) (sym are) (home_keeps marks other.home);
  same = λ a kind at rest. rest ∙ sym (ap (key_names a kind) (first_left others j other lt is) ∙ name_skipped marks next other (drop (j + 1) others) a kind are at);
}

-- once the homes of all that is left are marked, nothing of it is of an authority that isn't
pub homes_more : (marks next : List Bool) (keys : List Key) (i : ℕ) (key : Key) → i < length keys → key ≡ get_or keys i key → next ≡ mark_home marks key.home →
    HaveSameNames marks (drop 0 keys) (drop i keys) → HaveSameNames next (drop 0 keys) (drop (i + 1) keys)
homes_more marks next keys i key lt is are same a kind at =
    let keeps : KeepsMarks marks next = subst (λ ms. KeepsMarks marks ms) (sym are) (home_keeps marks key.home) in
    same a kind (keeps.unmarked a.0 at) ∙ ap (key_names a kind) (first_left keys i key lt is) ∙ name_skipped marks next key (drop (i + 1) keys) a kind are at
