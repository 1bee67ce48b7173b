-- What is said of a source and of a sink: faults that are counted, and texts of which a beginning is held. Each row has the
-- wrong word of the definition that it catches.
use Rattle.std.proofs.Common.{◌≡◌, refl, ℕ, ◌-◌, ◌^◌, List, [], ◌∷◌, ◌++◌, Some, None, Result, Ok, Err, arith}
use Rattle.xc_base.specs.Causes.{HasCause, Rose}
use Rattle.xc_base.specs.Outside.{AppendsPrefix, TakesSome}

-- ---- the count of faults

-- where a count that stays has risen: `before ≤ now`
a_count_that_stays : Rose 3 3 → ⊥
a_count_that_stays rose = absurd (omega (arith, rose))

-- where it may fall
a_count_that_falls : Rose 3 2 → ⊥
a_count_that_falls rose = absurd (omega (arith, rose))

-- where it has to rise by two at least: `before + 2`; or by much: `max` for `min`
a_count_that_rises : Rose 3 4
a_count_that_rises = omega arith

-- where it rises by one alone: `≡` for `≤`
a_count_that_rises_by_more : Rose 3 9
a_count_that_rises_by_more = omega arith

-- where the greatest value has to be passed, at which the count stays: `before + 1 ≤ now`
the_greatest_count : Rose (2 ^ 64 - 1) (2 ^ 64 - 1)
the_greatest_count = omega arith

-- where the value before it counts as risen too: `2 ^ 64 - 2`
the_greatest_count_but_one : Rose (2 ^ 64 - 2) (2 ^ 64 - 2) → ⊥
the_greatest_count_but_one rose = absurd (omega (arith, rose))

-- where a count that comes to the greatest value hasn't risen: `<` for `≤`
to_the_greatest_count : Rose (2 ^ 64 - 2) (2 ^ 64 - 1)
to_the_greatest_count = omega arith

-- ---- a call and the count

abbrev done : Result ℕ (List ℕ)
done = Ok 0

abbrev failed : Result ℕ (List ℕ)
failed = Err []

-- where a call that succeeds has to count a fault, or each call has
no_fault : HasCause 3 3 done
no_fault = record { later = omega arith; failed = tt }

-- where a call that fails has no cause: `failed = ⊥`
a_fault : HasCause 3 4 failed
a_fault = record { later = omega arith; failed = omega arith }

-- where a call fails without a fault: `failed` left out
a_failure_without_a_fault : HasCause 3 3 failed → ⊥
a_failure_without_a_fault cause = absurd (omega (arith, cause.failed))

-- where the count may fall: `later` left out
a_count_that_is_lost : HasCause 3 2 done → ⊥
a_count_that_is_lost cause = absurd (omega (arith, cause.later))

-- ---- what is held of a text

abbrev old : List ℕ
old = 1 ∷ 2 ∷ []

abbrev text : List ℕ
text = 7 ∷ 8 ∷ 9 ∷ []

-- where only the whole will do, or at least one byte, or not all
the_whole : AppendsPrefix (Some old) (Some (old ++ text)) text
the_whole = (text, [], refl, refl)

the_empty_prefix : AppendsPrefix (Some old) (Some old) text
the_empty_prefix = ([], text, refl, refl)

-- where the beginning stands before what was held: `now ≡ prefix ++ held`
a_beginning : AppendsPrefix (Some old) (Some (1 ∷ 2 ∷ 7 ∷ 8 ∷ [])) text
a_beginning = (7 ∷ 8 ∷ [], 9 ∷ [], refl, refl)

-- where a text has at least a byte
of_the_empty_text : AppendsPrefix (Some old) (Some old) []
of_the_empty_text = ([], [], refl, refl)

-- who doesn't tell what it held says nothing
not_told : AppendsPrefix None (Some old) text
not_told = tt

-- What isn't, for each prefix and rest. All of these are seen where `AppendsPrefix _ _ _ = ⊤`.
foreign_piece : (prefix rest : List ℕ) → text ≡ prefix ++ rest → 1 ∷ 2 ∷ 5 ∷ [] ≡ old ++ prefix → ⊥
foreign_piece [] rest is now = cc now
foreign_piece (byte ∷ prefix) rest is now = cc (is, now)

-- where any bytes may follow: `text ≡ prefix ++ rest` left out
a_foreign_text : AppendsPrefix (Some old) (Some (1 ∷ 2 ∷ 5 ∷ [])) text → ⊥
a_foreign_text held = foreign_piece held.0 held.1 held.2 held.3

end_piece : (prefix rest : List ℕ) → text ≡ prefix ++ rest → 1 ∷ 2 ∷ 9 ∷ [] ≡ old ++ prefix → ⊥
end_piece [] rest is now = cc now
end_piece (byte ∷ prefix) rest is now = cc (is, now)

-- where an end of the text will do: `text ≡ rest ++ prefix`
an_end : AppendsPrefix (Some old) (Some (1 ∷ 2 ∷ 9 ∷ [])) text → ⊥
an_end held = end_piece held.0 held.1 held.2 held.3

gap_piece : (prefix rest : List ℕ) → text ≡ prefix ++ rest → 1 ∷ 2 ∷ 7 ∷ 9 ∷ [] ≡ old ++ prefix → ⊥
gap_piece [] rest is now = cc now
gap_piece (byte ∷ []) rest is now = cc now
gap_piece (byte ∷ next ∷ prefix) rest is now = cc (is, now)

-- where a byte may be left out
a_gap : AppendsPrefix (Some old) (Some (1 ∷ 2 ∷ 7 ∷ 9 ∷ [])) text → ⊥
a_gap held = gap_piece held.0 held.1 held.2 held.3

-- where what was held may go: `now ≡ prefix`
what_was_held_is_lost : AppendsPrefix (Some old) (Some text) text → ⊥
what_was_held_is_lost held = cc held.3

-- where a sink that told what it held may tell nothing more
no_longer_told : AppendsPrefix (Some old) None [] → ⊥
no_longer_told held = held

-- ---- a step of a copy

abbrev taken : ℕ → Result ℕ (List ℕ)
taken n = Ok n

-- where nothing may be taken of bytes: `0 ≤ n`
nothing_of_some : TakesSome (taken 0) (7 ∷ []) → ⊥
nothing_of_some takes = absurd (omega (arith, takes (omega arith)))

-- where something is taken of an empty piece
nothing_of_nothing : TakesSome (taken 0) []
nothing_of_nothing none = none

-- where all has to be taken
one_of_two : TakesSome (taken 1) (7 ∷ 8 ∷ [])
one_of_two some = omega arith

-- where a call that fails has to take some
none_by_a_failure : TakesSome failed (7 ∷ [])
none_by_a_failure = tt
