-- The marked places, one after another.
use Rattle.std.proofs.Common.{◌≡◌, ◌<◌, ◌≤◌, ◌+◌, ◌⊎◌, ℕ, Bool, true, false, List, length, get_or, inl, inr, refl, arith}
use Rattle.std.specs.Prelude.{◌↔◌, All, Contains}
use Rattle.std.proofs.lemmas.Bool.{cases_lt}
use Rattle.std.proofs.lemmas.List.{get_or_default, get_or_past}
use Rattle.place_marks.specs.Marks.{AreRising}

-- these are the marked ones of so many places
pub record AreMarkedPlaces (marks : List Bool) (count : ℕ) (places : List ℕ) : Type 0 where
  pub rising : AreRising places
  pub within : All (λ place. place < count) places
  pub marked : (place : ℕ) → (get_or marks place false ≡ true) ↔ Contains places place

-- the marked place whose turn it is; behind the last, how many places there are
abbrev pub place_in_turn : List ℕ → ℕ → ℕ → ℕ
place_in_turn places count turn = get_or places turn count

module _ (marks : List Bool) (count : ℕ) (places : List ℕ) (are : AreMarkedPlaces marks count places) where
  -- a listed place stands before each later one
  stands_before : (i j d : ℕ) → i ≤ j → j < length places → get_or places i d ≤ get_or places j d
  stands_before i j d le lt = by (cases_lt i j)
    where
      by : (i < j) ⊎ (j ≤ i) → get_or places i d ≤ get_or places j d
      by (inl less) = omega (arith, are.rising i j d less lt)
      by (inr least) = let one : i ≡ j = omega (arith, le, least) in rw one (omega arith)

  -- a place isn't marked that is behind the marked ones which had their turn, and before the one whose turn it is
  pub unmarked_till : (turn place : ℕ) → ((i : ℕ) → i < turn → i < length places → get_or places i place < place) → place < place_in_turn places count turn → get_or marks place false ≡ false
  unmarked_till turn place behind before = by (get_or marks place false) refl
    where
      listed : (i : ℕ) → i < length places → get_or places i place ≡ place → (i < turn) ⊎ (turn ≤ i) → ⊥
      listed i lt is (inl had) = omega (arith, behind i had lt, is)
      listed i lt is (inr later) =
          let there : turn < length places = omega (arith, later, lt) in
          omega (arith, before, get_or_default places turn count place there, stands_before turn i place later lt, is)

      by : (mark : Bool) → get_or marks place false ≡ mark → mark ≡ false
      by true on = let among = (are.marked place).0 on in absurd (listed among.0 among.1 among.2 (cases_lt among.0 turn))
      by false off = refl

  -- the next place in turn is behind this one
  pub turn_rises : (turn : ℕ) → turn < length places → place_in_turn places count turn < place_in_turn places count (turn + 1)
  turn_rises turn lt = by (cases_lt (turn + 1) (length places))
    where
      by : (turn + 1 < length places) ⊎ (length places ≤ turn + 1) → place_in_turn places count turn < place_in_turn places count (turn + 1)
      by (inl less) = are.rising turn (turn + 1) count (omega arith) less
      by (inr last) = omega (arith, get_or_past places (turn + 1) count last, are.within turn count lt)

  -- between the two no place is marked
  pub unmarked_between : (turn place : ℕ) → turn < length places → place_in_turn places count turn < place → place < place_in_turn places count (turn + 1) → get_or marks place false ≡ false
  unmarked_between turn place lt behind before =
      unmarked_till (turn + 1) place (λ i had there. omega (arith, had, behind, stands_before i turn place (omega (arith, had)) lt, get_or_default places turn count place lt)) before
