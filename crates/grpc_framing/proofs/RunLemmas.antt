-- A list of calls in whatever pieces.
use Rattle.std.proofs.Common.{◌≡◌, ℕ, zero, suc, Bool, true, false, cond, List, [], ◌∷◌, ◌++◌, refl, sym, ap, ◌∙◌, append-nil, inl, inr, Option, Some, None, Result, Err}
use Rattle.std.specs.Prelude.{◌⊎◌, ◌||◌, is_some}
use Rattle.grpc_framing.specs.declared.frame_fault.FrameFault.{FrameFault}
use Rattle.grpc_framing.specs.declared.frame_fault.FrameFault.TheVariants.{TooLong, Ended, Memory}
use Rattle.grpc_framing.specs.Framing.{Parts, fault_at}
use Rattle.grpc_framing.specs.Cut.{cut, cut_within}
use Rattle.grpc_framing.specs.Feeding.{answer_at, answer_after, answer_to, is_taken, left_by}
use Rattle.grpc_framing.specs.FeedRuns.{Call, IsRun, AreFramed, AreAnswered, bytes_fed, payloads_added, waiting_after, is_fault, had_fault, answer_in}
use Rattle.grpc_framing.proofs.CutLemmas.{cut_more}
use Rattle.grpc_framing.proofs.FaultLemmas.{taken_at}

-- one more piece, taken or not
more_parts : (b : Bool) (fed piece waiting : List ℕ) (given : List (List ℕ)) → given ≡ (cut fed).payloads → waiting ≡ (cut fed).rest →
    (given ++ cond b (cut (waiting ++ piece)).payloads [] ≡ (cut (fed ++ cond b piece [])).payloads) ×
    (cond b (cut (waiting ++ piece)).rest waiting ≡ (cut (fed ++ cond b piece [])).rest)
more_parts true fed piece waiting given p r =
    let e = cut_more fed piece in
    (rw (p, r) (ap (λ (parts : Parts). parts.payloads) (sym e)), rw r (ap (λ (parts : Parts). parts.rest) (sym e)))
more_parts false fed piece waiting given p r = (rw (append-nil, append-nil) p, rw append-nil r)

by_test : (b : Bool) (size : ℕ) → is_fault (answer_at (cond b (Some (TooLong size)) None)) ≡ is_some (cond b (Some (TooLong size)) None)
by_test true size = refl
by_test false size = refl

fault_told : (bytes : List ℕ) → is_fault (answer_at (fault_at bytes)) ≡ is_some (fault_at bytes)
unfolding fault_at
fault_told [] = refl
fault_told (zero ∷ bytes) = by_test _ _
fault_told (suc flag ∷ bytes) = refl

or_false : (b : Bool) → (b || false) ≡ b
or_false true = refl
or_false false = refl

-- whether there was a fault shows in the bytes that wait
fault_after : (before : Option FrameFault) (waiting piece : List ℕ) (answer : Result Unit FrameFault) (had : Bool) → fault_at waiting ≡ before → had ≡ is_some before →
    answer ≡ answer_after before (cut (waiting ++ piece)).rest → (is_fault answer || had) ≡ is_some (fault_at (left_by answer waiting piece))
fault_after None waiting piece answer had is told e =
    rw (e, told, taken_at (cut (waiting ++ piece)).rest, or_false) (fault_told (cut (waiting ++ piece)).rest)
fault_after (Some fault) waiting piece answer had is told e = rw (e, told, is) refl

fault_kept : (waiting piece : List ℕ) (answer : Result Unit FrameFault) (had : Bool) → had ≡ is_some (fault_at waiting) →
    answer ≡ Err Memory → (is_fault answer || had) ≡ is_some (fault_at (left_by answer waiting piece))
fault_kept waiting piece answer had told e = rw e told

fault_more : (waiting piece : List ℕ) (answer : Result Unit FrameFault) (had : Bool) → had ≡ is_some (fault_at waiting) →
    (answer ≡ Err Memory) ⊎ (answer ≡ answer_to waiting piece) → (is_fault answer || had) ≡ is_some (fault_at (left_by answer waiting piece))
fault_more waiting piece answer had told (inl e) = fault_kept waiting piece answer had told e
fault_more waiting piece answer had told (inr e) = fault_after (fault_at waiting) waiting piece answer had refl told e

had_is : (calls : List Call) → IsRun calls → had_fault calls ≡ is_some (fault_at (waiting_after calls))
unfolding fault_at
had_is [] run = refl
had_is (call ∷ earlier) run = fault_more (waiting_after earlier) call.piece call.answer (had_fault earlier) (had_is earlier run.1) run.0

parts_are : (calls : List Call) → (payloads_added calls ≡ (cut (bytes_fed calls)).payloads) × (waiting_after calls ≡ (cut (bytes_fed calls)).rest)
unfolding cut cut_within
parts_are [] = (refl, refl)
parts_are (call ∷ earlier) =
    let e = parts_are earlier in
    more_parts (is_taken call.answer) (bytes_fed earlier) call.piece (waiting_after earlier) (payloads_added earlier) e.0 e.1

-- the answer by the bytes that wait is the answer by all bytes fed
answer_is : (before : Option FrameFault) (fed waiting piece : List ℕ) (had : Bool) → waiting ≡ (cut fed).rest → had ≡ is_some before →
    answer_after before (cut (waiting ++ piece)).rest ≡ cond had (Err Ended) (answer_at (fault_at (cut (fed ++ piece)).rest))
answer_is None fed waiting piece had r told =
    let e = ap (λ (parts : Parts). parts.rest) (cut_more fed piece) in
    rw (told, r) (ap (λ xs. answer_at (fault_at xs)) (sym e))
answer_is (Some fault) fed waiting piece had r told = rw told refl

answered : (earlier : List Call) (call : Call) → IsRun earlier → (call.answer ≡ Err Memory) ⊎ (call.answer ≡ answer_to (waiting_after earlier) call.piece) →
    (call.answer ≡ Err Memory) ⊎ (call.answer ≡ answer_in earlier call.piece)
answered earlier call run (inl e) = inl e
answered earlier call run (inr e) =
    inr (e ∙ answer_is (fault_at (waiting_after earlier)) (bytes_fed earlier) (waiting_after earlier) call.piece (had_fault earlier) (parts_are earlier).1 (had_is earlier run))

all_answered : (calls : List Call) → IsRun calls → AreAnswered calls
all_answered [] run = tt
all_answered (call ∷ earlier) run = (answered earlier call run.1 run.0, all_answered earlier run.1)

pub any_pieces : (calls : List Call) → IsRun calls → AreFramed calls
any_pieces calls run = record { payloads = (parts_are calls).0; rest = (parts_are calls).1; answers = all_answered calls run }
