-- How long the generated text is.
use Rattle.std.proofs.Common.{◌≡◌, ℕ, zero, suc, ◌+◌, ◌*◌, ◌/◌, ◌%◌, ◌==◌, ◌≤◌, List, [], ◌∷◌, Bool, true, false, codes, length, refl, arith, if◌then◌else◌}
use Rattle.std.specs.Prelude.{nat_le}
use Rattle.std.specs.Fmt.{decimal, digit_glyph, digits, digits_onto}
use Rattle.std.proofs.lemmas.Bool.{cond_both, leb-true}
use Rattle.std.proofs.lemmas.List.{length-append}
use Rattle.hex.specs.Hex.{encode_with}
use Rattle.proto_wire.specs.Spelling.{number_field, spelled_within, text_field}
use Rattle.proto_discovery.specs.TypeUrls.{cluster_url, endpoint_url, listener_url, manager_url}
use Rattle.session_generator.specs.FirstLines.{first_lines}
use Rattle.session_generator.specs.Generated.{generated}
use Rattle.session_generator.specs.Rounds.{call_lines, caller_lines, commit_line, driver_lines, first_call, line_before, pick_line, round_lines, start_line, state_line, time_line, word_of_call}

digits_few : (k n : ℕ) (after : List ℕ) → length (digits_onto k 10 false n after) ≤ k + length after
digits_few zero n after = omega arith
digits_few (suc k) n after =
    let more = digits_few k (n / 10) (digit_glyph false (n % 10) ∷ after) in
    cond_both (n / 10 == 0) (digit_glyph false (n % 10) ∷ after) (digits_onto k 10 false (n / 10) (digit_glyph false (n % 10) ∷ after)) (λ x. length x ≤ suc k + length after)
    (λ _. omega arith) (λ _. omega (arith, more))

decimal_few : (n : ℕ) → length (decimal n) ≤ 64
unfolding digits
decimal_few n = digits_few 64 n []

start_few : (gate caller call : ℕ) → length (start_line gate caller call) ≤ 300
unfolding start_line
start_few gate caller call =
    let a = decimal_few gate in
    let b = decimal_few caller in
    let c = decimal_few call in
    let d = decimal_few (word_of_call call) in
    simp length-append (omega (arith, a, b, c, d))

pick_few : (caller call : ℕ) → length (pick_line caller call) ≤ 300
unfolding pick_line
pick_few caller call =
    let b = decimal_few caller in
    let c = decimal_few call in
    let d = decimal_few (word_of_call call) in
    simp length-append (omega (arith, b, c, d))

commit_few : (caller call : ℕ) → length (commit_line caller call) ≤ 300
unfolding commit_line
commit_few caller call =
    let b = decimal_few caller in
    let c = decimal_few call in
    simp length-append (omega (arith, b, c))

call_few : (gate caller call : ℕ) → length (call_lines gate caller call) ≤ 1200
unfolding call_lines
call_few gate caller call =
    let a = start_few gate caller call in
    let b = pick_few caller call in
    let c = commit_few caller call in
    simp length-append (omega (arith, a, b, c))

time_few : (gate round : ℕ) → length (time_line gate round) ≤ 300
unfolding time_line
time_few gate round =
    let a = decimal_few gate in
    let b = decimal_few round in
    simp length-append (omega (arith, a, b))

word_few : (b : Bool) → length (if b then codes "failing" else codes "ready") ≤ 7
word_few true = omega arith
word_few false = omega arith

state_few : (gate round : ℕ) → length (state_line gate round) ≤ 300
unfolding state_line
state_few gate round =
    let a = decimal_few gate in
    let b = word_few (round % 2 == 1) in
    simp length-append (omega (arith, a, b))

round_few : (round : ℕ) → length (round_lines round) ≤ 6000
unfolding round_lines caller_lines driver_lines
round_few round =
    let a = call_few (line_before round) 1 (first_call round) in
    let b = call_few (line_before round) 2 (first_call round + 1) in
    let c = call_few (line_before round) 3 (first_call round + 2) in
    let d = call_few (line_before round) 4 (first_call round + 3) in
    let e = time_few (line_before round + 4) round in
    let f = time_few (line_before round + 8) round in
    let g = time_few (line_before round + 12) round in
    let h = state_few (line_before round + 16) round in
    simp length-append (omega (arith, a, b, c, d, e, f, g, h))

first_test : nat_le (length first_lines) 4000 ≡ true
unfolding first_lines encode_with spelled_within text_field number_field cluster_url endpoint_url listener_url manager_url
first_test = refl

pub generated_few : (n : ℕ) → length (generated n) ≤ 4000 + 6000 * n
unfolding generated
generated_few zero = leb-true (length first_lines) 4000 first_test
generated_few (suc n) =
    let joined = length-append (generated n) (round_lines (suc n)) in
    let before = generated_few n in
    let own = round_few (suc n) in
    omega (arith, joined, before, own)
