-- Proof of the law of the generated session.
use Rattle.std.proofs.Common.{◌≡◌, ℕ, zero, suc, ◌+◌, ◌*◌, ◌<◌, ◌≤◌, [], ◌++◌, false, Ok, length, reverse, refl, sym, ap, ◌∙◌, subst, append-nil, arith}
use Rattle.std.specs.Prelude.{nat_lt}
use Rattle.std.proofs.lemmas.Bool.Decides.{nat_tests}
use Rattle.std.proofs.lemmas.List.{reverse-append, reverse-reverse}
use Rattle.session_lines.specs.Before.{entries}
use Rattle.session_lines.specs.Lines.{lines_of}
use Rattle.session_lines.specs.Session.{lines_from, session_of, session_within}
use Rattle.session_generator.specs.Generated.{generated}
use Rattle.session_generator.specs.Rounds.{first_call, line_before, round_lines}
use Rattle.generated_law.specs.GeneratedLaw.{GeneratedSpells}
use Rattle.generated_law.specs.GeneratedSession.{generated_boot, generated_lines, generated_session, generated_target, lines_of_round}
use Rattle.generated_law.proofs.TakenCalls.{same_text}
use Rattle.generated_law.proofs.TakenLines.{Takes}
use Rattle.generated_law.proofs.TakenRounds.{lines_stand, lines_taken, round_text}
use Rattle.generated_law.proofs.TakenSetup.{Begins, begins_setup, begins_then, head, read_from, setup_stands}
use Rattle.generated_law.proofs.TextSizes.{generated_few}
use Rattle.generated_law.proofs.StandingLines.{Stands, stands_still}

-- ---- so many rounds

abbrev AreTaken : ℕ → Type 0
AreTaken n = Begins (generated n) (generated_lines n) (13 + 20 * n) × Stands (4 * n) n (8 + 4 * n) (174 + 24 * n) (reverse (generated_lines n))

one_more : (n : ℕ) → suc n ≤ 1000 → AreTaken n → AreTaken (suc n)
unfolding generated
one_more n few (begins, stands) =
    let before = reverse (generated_lines n) in
    let round = suc n in
    let last = line_before (suc n) in
    let call = first_call (suc n) in
    let m = 13 + 20 * suc n in
    let still : Stands call round (8 + 4 * n) (174 + 24 * n) before = stands_still (4 * n) n (8 + 4 * n) (174 + 24 * n) call round (8 + 4 * n) (174 + 24 * n) before stands (omega arith) (omega arith) (omega arith) (omega arith) in
    let low : 5 ≤ last = omega arith in
    let short : last + 20 ≤ 200000 = omega (arith, few) in
    let named : call + 3 ≤ 65535 = omega (arith, few) in
    let behind : 8 + 4 * n + 3 < 20000 = omega (arith, few) in
    let next : m ≡ last + 21 = omega arith in
    let taken = lines_taken generated_boot generated_target before last call round (8 + 4 * n) (174 + 24 * n) m low short few named behind next still in
    let spelled : Takes head before (last + 1) (round_lines round) (lines_of_round round) m = same_text head before (last + 1) (round_lines round) _ (lines_of_round round) m (round_text round) taken in
    let at : last + 1 ≡ 13 + 20 * n = omega arith in
    let here : Takes head before (13 + 20 * n) (round_lines round) (lines_of_round round) m = subst (λ k. Takes head before k (round_lines round) (lines_of_round round) m) at spelled in
    let stood = lines_stand generated_boot generated_target before last call round (8 + 4 * n) (174 + 24 * n) m low short few named behind next still in
    let kept : Stands (4 * suc n) (suc n) (8 + 4 * suc n) (174 + 24 * suc n) (reverse (lines_of_round round) ++ before) =
    stands_still (call + 4) round (8 + 4 * n + 4) (174 + 24 * n + 24) (4 * suc n) (suc n) (8 + 4 * suc n) (174 + 24 * suc n) (reverse (lines_of_round round) ++ before) stood (omega arith) (omega arith) (omega arith) (omega arith) in (
      begins_then (generated n) (round_lines round) (generated_lines n) (lines_of_round round) (13 + 20 * n) m begins here,
      subst (λ lines. Stands (4 * suc n) (suc n) (8 + 4 * suc n) (174 + 24 * suc n) lines) (sym (reverse-append (generated_lines n) (lines_of_round round))) kept,
    )

are_taken : (n : ℕ) → n ≤ 1000 → AreTaken n
unfolding generated
are_taken zero few = (begins_setup, setup_stands)
are_taken (suc n) few = one_more n few (are_taken n (omega (arith, few)))

-- ---- the session

whole_session : (n : ℕ) → n ≤ 1000 → read_from (lines_of (generated n)) ≡ Ok (generated_session n)
unfolding lines_of lines_from
whole_session n few =
    let (begins, stands) = are_taken n few in
    let lines = reverse (generated_lines n) in
    let made = stands.made_few in
    let room : nat_lt 1048576 (entries lines + 1) ≡ false = grind (arith, nat_tests, made, few) in
    ap (λ text. read_from (lines_of text)) (sym (append-nil (generated n)))
    ∙ begins []
    ∙ rw (room, reverse-reverse (generated_lines n)) refl

pub generated_spells : GeneratedSpells
unfolding session_of session_within
generated_spells n most =
    let long = generated_few n in
    let size : nat_lt 67108864 (length (generated n)) ≡ false = grind (arith, nat_tests, long, most) in
    rw size (whole_session n most)
