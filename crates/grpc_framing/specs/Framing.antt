-- Frames of a byte stream (gRPC over HTTP/2, "Length-Prefixed-Message").
use Rattle.std.specs.Prelude.{◌≡◌, ℕ, zero, suc, ◌≤◌, List, [], ◌∷◌, ◌++◌, length, take, All, Option, None, Some, ◌&&◌, nat_le, nat_lt, if◌then◌else◌}
use Rattle.std.specs.List.{flat_map}
use Rattle.std.specs.Int.{w32, to_be_bytes, from_be_bytes}
use Rattle.grpc_framing.specs.declared.frame_fault.FrameFault.{FrameFault}
use Rattle.grpc_framing.specs.declared.frame_fault.FrameFault.TheVariants.{Compressed, TooLong}

-- the most bytes that a payload may have here
abbrev pub longest : ℕ
longest = 4194304

-- the byte 0, the length in four bytes, the greatest first, and the payload
abbrev pub frame : List ℕ → List ℕ
frame payload = 0 ∷ to_be_bytes w32 (length payload) ++ payload

-- a frame stands before anything else
abbrev pub BeginsWithFrame : List ℕ → Type 0
BeginsWithFrame bytes = (payload : List ℕ) × (after : List ℕ) × (length payload ≤ longest) × (bytes ≡ frame payload ++ after)

-- the payloads of the frames that bytes begin with, and what is left
pub record Parts : Type 0 where
  pub payloads : List (List ℕ)
  pub rest : List ℕ

-- the bytes are those frames in their order and then the rest, which begins with no frame
pub record IsCut (bytes : List ℕ) (parts : Parts) : Type 0 where
  pub split : bytes ≡ flat_map frame parts.payloads ++ parts.rest
  pub allowed : All (λ payload. length payload ≤ longest) parts.payloads
  pub over : BeginsWithFrame parts.rest → ⊥

-- the length that the first four bytes spell
abbrev pub size_of : List ℕ → ℕ
size_of bytes = from_be_bytes w32 (take 4 bytes)

-- a length above the longest
abbrev pub size_fault : List ℕ → Option FrameFault
size_fault bytes = if nat_le 4 (length bytes) && nat_lt longest (size_of bytes) then Some (TooLong (size_of bytes)) else None

-- why no frame follows: another first byte than 0 is the flag of a compressed message, and four bytes
-- after a 0 may spell a length above the longest
unfoldable pub fault_at : List ℕ → Option FrameFault
fault_at [] = None
fault_at (zero ∷ bytes) = size_fault bytes
fault_at (suc flag ∷ bytes) = Some Compressed
