-- What a head says of the bytes that it was read from.
use Rattle.std.specs.Borrow.{Bor}
use Rattle.std.specs.Prelude.{ℕ, List, Option, None, Some}
use Rattle.grpc_framing.specs.declared.frame_fault.FrameFault.{FrameFault}
use Rattle.grpc_framing.specs.declared.frame_head.Head.{Head}
use Rattle.grpc_framing.specs.declared.frame_head.Head.TheVariants as head

abbrev pub frame_of : Head → Option (List ℕ × List ℕ)
frame_of (head.Frame payload after) = Some (payload.now, after.now)
frame_of head.Short = None
frame_of (head.Fault fault) = None

abbrev pub fault_of : Head → Option FrameFault
fault_of (head.Frame payload after) = None
fault_of head.Short = None
fault_of (head.Fault fault) = Some fault

-- what a first frame shows
abbrev pub first_of : Option (Bor (List ℕ) × Bor (List ℕ)) → Option (List ℕ × List ℕ)
first_of None = None
first_of (Some first) = Some (first.0.now, first.1.now)
