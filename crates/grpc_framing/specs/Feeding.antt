-- What one call of `feed` answers, adds and leaves.
use Rattle.std.specs.Prelude.{ℕ, List, [], ◌++◌, Bool, true, false, Option, None, Some, Result, Ok, Err, if◌then◌else◌}
use Rattle.grpc_framing.specs.declared.frame_fault.FrameFault.{FrameFault}
use Rattle.grpc_framing.specs.declared.frame_fault.FrameFault.TheVariants.{Compressed, TooLong, Ended, Memory}
use Rattle.grpc_framing.specs.Framing.{fault_at}
use Rattle.grpc_framing.specs.Cut.{cut}

-- the answer where the bytes that are left have this fault
abbrev pub answer_at : Option FrameFault → Result Unit FrameFault
answer_at None = Ok tt
answer_at (Some fault) = Err fault

-- the same where the bytes that waited before had a fault, after which there is no other answer
abbrev pub answer_after : Option FrameFault → List ℕ → Result Unit FrameFault
answer_after None left = answer_at (fault_at left)
answer_after (Some fault) left = Err Ended

-- the answer to a piece, with memory
abbrev pub answer_to : List ℕ → List ℕ → Result Unit FrameFault
answer_to waiting piece = answer_after (fault_at waiting) (cut (waiting ++ piece)).rest

-- whether the piece was taken
abbrev pub is_taken : Result Unit FrameFault → Bool
is_taken (Ok done) = true
is_taken (Err Compressed) = true
is_taken (Err (TooLong size)) = true
is_taken (Err Ended) = false
is_taken (Err Memory) = false

-- the payloads that a call adds
abbrev pub added_by : Result Unit FrameFault → List ℕ → List ℕ → List (List ℕ)
added_by answer waiting piece = if is_taken answer then (cut (waiting ++ piece)).payloads else []

-- the bytes that wait after it
abbrev pub left_by : Result Unit FrameFault → List ℕ → List ℕ → List ℕ
left_by answer waiting piece = if is_taken answer then (cut (waiting ++ piece)).rest else waiting
