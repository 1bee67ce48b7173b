-- Lists of calls of `feed` on new frames, the newest first, whatever the pieces and the answers.
use Rattle.std.specs.Prelude.{◌≡◌, ℕ, List, [], ◌∷◌, ◌++◌, Bool, true, false, ◌||◌, ◌⊎◌, Result, Ok, Err, if◌then◌else◌}
use Rattle.grpc_framing.specs.declared.frame_fault.FrameFault.{FrameFault}
use Rattle.grpc_framing.specs.declared.frame_fault.FrameFault.TheVariants.{Compressed, TooLong, Ended, Memory}
use Rattle.grpc_framing.specs.Framing.{fault_at}
use Rattle.grpc_framing.specs.Cut.{cut}
use Rattle.grpc_framing.specs.Feeding.{answer_at, answer_to, is_taken, added_by, left_by}

-- a piece and the answer to it
pub record Call : Type 0 where
  pub piece : List ℕ
  pub answer : Result Unit FrameFault

-- the bytes that wait after the calls, and the payloads that they added, one call after another
abbrev pub waiting_after : List Call → List ℕ
waiting_after [] = []
waiting_after (call ∷ earlier) = left_by call.answer (waiting_after earlier) call.piece

abbrev pub payloads_added : List Call → List (List ℕ)
payloads_added [] = []
payloads_added (call ∷ earlier) = payloads_added earlier ++ added_by call.answer (waiting_after earlier) call.piece

-- each call answered what `feed` answers there
abbrev pub IsRun : List Call → Type 0
IsRun [] = Unit {0}
IsRun (call ∷ earlier) = ((call.answer ≡ Err Memory) ⊎ (call.answer ≡ answer_to (waiting_after earlier) call.piece)) × IsRun earlier

-- all bytes fed: those of the pieces that were taken, up to the first fault
abbrev pub bytes_fed : List Call → List ℕ
bytes_fed [] = []
bytes_fed (call ∷ earlier) = bytes_fed earlier ++ (if is_taken call.answer then call.piece else [])

-- whether one of the calls answered a fault of the bytes
abbrev pub is_fault : Result Unit FrameFault → Bool
is_fault (Ok done) = false
is_fault (Err Compressed) = true
is_fault (Err (TooLong size)) = true
is_fault (Err Ended) = false
is_fault (Err Memory) = false

abbrev pub had_fault : List Call → Bool
had_fault [] = false
had_fault (call ∷ earlier) = is_fault call.answer || had_fault earlier

-- what is answered to a piece, by all bytes fed: `Ended` after a fault, else the fault of their rest
abbrev pub answer_in : List Call → List ℕ → Result Unit FrameFault
answer_in earlier piece =
    if had_fault earlier then Err Ended else answer_at (fault_at (cut (bytes_fed earlier ++ piece)).rest)

abbrev pub AreAnswered : List Call → Type 0
AreAnswered [] = Unit {0}
AreAnswered (call ∷ earlier) = ((call.answer ≡ Err Memory) ⊎ (call.answer ≡ answer_in earlier call.piece)) × AreAnswered earlier

-- what the calls gave is the framing of all bytes fed
pub record AreFramed (calls : List Call) : Type 0 where
  pub payloads : payloads_added calls ≡ (cut (bytes_fed calls)).payloads
  pub rest : waiting_after calls ≡ (cut (bytes_fed calls)).rest
  pub answers : AreAnswered calls
