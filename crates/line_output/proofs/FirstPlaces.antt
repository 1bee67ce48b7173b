-- The first place of a byte, as it is found, and as lists have it.
use Rattle.std.proofs.Common.{◌≡◌, ◌≤◌, ℕ, Bool, true, false, cond, ltb, List, length, get_or, Option, Some, None, refl, sym, arith}
use Rattle.std.specs.List.{position, position_or_len}
use Rattle.std.proofs.lemmas.Bool.Decides.{nat_tests}
use Rattle.std.proofs.lemmas.List.Sums.{position_or_len_is}
use Rattle.memchr.specs.Find.{IsFirstByte}

not_true : (b : Bool) → (b ≡ true → ⊥) → b ≡ false
not_true true never = absurd (never refl)
not_true false never = refl

by_len : (test : ℕ → Bool) (bytes : List ℕ) (n : ℕ) (b : Bool) → position_or_len test bytes ≡ n → ltb n (length bytes) ≡ b → position test bytes ≡ cond b (Some n) None
by_len test bytes n b is less = rw (is, less) refl

pub first_place : (test : ℕ → Bool) (bytes : List ℕ) (r : Option ℕ) → IsFirstByte test bytes r → r ≡ position test bytes
first_place test bytes None none =
    let all : position_or_len test bytes ≡ length bytes = position_or_len_is test bytes (length bytes) 0 (omega arith) (λ k less. not_true (test (get_or bytes k 0)) (none k (omega arith) less)) (λ less. absurd (omega (arith, less))) in
    let no : ltb (length bytes) (length bytes) ≡ false = grind (arith, nat_tests) in
    sym (by_len test bytes (length bytes) false all no)
first_place test bytes (Some k) (before, holds) =
    let within = before.high in
    let le : k ≤ length bytes = omega (arith, within) in
    let is : position_or_len test bytes ≡ k = position_or_len_is test bytes k 0 le (λ i less. not_true (test (get_or bytes i 0)) (before.before i (omega arith) less)) (λ less. holds) in
    let yes : ltb k (length bytes) ≡ true = grind (arith, nat_tests, within) in
    sym (by_len test bytes k true is yes)
