-- The generated session, cut before and behind a round.
use Rattle.std.proofs.Common.{◌≡◌, ◌≤◌, ◌<◌, ℕ, zero, suc, ◌+◌, ◌-◌, List, [], ◌++◌, sym, ap, ◌∙◌, append_assoc, append-nil, arith, refl}
use Rattle.session_generator.specs.FirstLines.{first_lines}
use Rattle.session_generator.specs.Rounds.{round_lines}
use Rattle.session_generator.specs.Generated.{generated}

-- more rounds stand behind fewer
rounds_behind : (i d n : ℕ) → n ≡ d + i → (rest : List ℕ) × (generated n ≡ generated i ++ rest)
unfolding generated
rounds_behind i zero n e =
    let same : n ≡ i = omega (arith, e) in
    ([], ap generated same ∙ sym (append-nil (generated i)))
rounds_behind i (suc d) n e =
    let same : n ≡ suc (d + i) = omega (arith, e) in
    let rest = rounds_behind i d (d + i) refl in
    (rest.0 ++ round_lines (suc (d + i)), ap generated same ∙ (ap (λ (t : List ℕ). t ++ round_lines (suc (d + i))) rest.1 ∙ append_assoc (generated i) rest.0 (round_lines (suc (d + i)))))

pub so_far : (n i : ℕ) → i ≤ n → (rest : List ℕ) × (generated n ≡ generated i ++ rest)
so_far n i le = rounds_behind i (n - i) n (omega (arith, le))

pub one_more : (i : ℕ) → generated (i + 1) ≡ generated i ++ round_lines (i + 1)
unfolding generated
one_more i =
    let same : i + 1 ≡ suc i = omega arith in
    ap generated same ∙ ap (λ n. generated i ++ round_lines n) (sym same)

-- a round, and the rounds behind it
pub split_at_round : (n i : ℕ) → i < n → (rest : List ℕ) × (generated n ≡ (generated i ++ round_lines (i + 1)) ++ rest)
split_at_round n i lt =
    let rest = so_far n (i + 1) (omega (arith, lt)) in
    (rest.0, rest.1 ∙ ap (λ (t : List ℕ). t ++ rest.0) (one_more i))

pub begins : generated 0 ≡ first_lines
unfolding generated
begins = refl
