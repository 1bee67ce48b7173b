-- The cut of bytes into frames, computed. A law says that it is the one cut.
use Rattle.std.specs.Prelude.{ℕ, zero, suc, List, [], ◌∷◌, length, take, drop, nat_le, ◌&&◌, Option, None, Some, if◌then◌else◌}
use Rattle.grpc_framing.specs.Framing.{longest, size_of, Parts}

-- the payload that a length and so many bytes give, and what stands after it
abbrev pub sized_frame : List ℕ → Option (List ℕ × List ℕ)
sized_frame bytes =
    if nat_le 4 (length bytes) && nat_le (size_of bytes) longest && nat_le (size_of bytes) (length (drop 4 bytes))
    then Some (take (size_of bytes) (drop 4 bytes), drop (size_of bytes) (drop 4 bytes))
    else None

-- the payload of the first frame and what stands after it
unfoldable pub first_frame : List ℕ → Option (List ℕ × List ℕ)
first_frame [] = None
first_frame (zero ∷ bytes) = sized_frame bytes
first_frame (suc flag ∷ bytes) = None

abbrev pub with_payload : List ℕ → Parts → Parts
with_payload payload parts = record { payloads = payload ∷ parts.payloads; rest = parts.rest }

abbrev pub cut_after : List ℕ → Option (List ℕ × List ℕ) → (List ℕ → Parts) → Parts
cut_after bytes None cut = record { payloads = []; rest = bytes }
cut_after bytes (Some first) cut = with_payload first.0 (cut first.1)

-- at most so many frames
unfoldable pub cut_within : ℕ → List ℕ → Parts
cut_within zero bytes = record { payloads = []; rest = bytes }
cut_within (suc frames) bytes = cut_after bytes (first_frame bytes) (λ after. cut_within frames after)

-- all frames: there are no more than bytes
unfoldable pub cut : List ℕ → Parts
cut bytes = cut_within (length bytes) bytes
