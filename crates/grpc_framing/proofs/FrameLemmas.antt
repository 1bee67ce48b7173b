-- The first frame of bytes, taken apart and put together.
use Rattle.std.proofs.Common.{◌≡◌, ◌<◌, ◌≤◌, ℕ, zero, suc, Bool, true, false, cond, leb, List, [], ◌∷◌, ◌++◌, length, take, drop, refl, sym, ap, ◌∙◌, arith, append_assoc, length-append, Option, Some, None}
use Rattle.std.proofs.lemmas.Bool.{leb-true, le-leb}
use Rattle.std.proofs.lemmas.List.{take_at, drop_at, take-append-drop, length-take-le}
use Rattle.std.specs.Int.{w32, from_be_bytes}
use Rattle.std.specs.Prelude.{◌&&◌}
use Rattle.grpc_framing.specs.Framing.{longest, size_of}
use Rattle.grpc_framing.specs.Cut.{first_frame, sized_frame}

-- a length in four bytes, the payload, and what stands after it
pub record IsSized (bytes payload after : List ℕ) : Type 0 where
  pub size : List ℕ
  pub four : length size ≡ 4
  pub spells : from_be_bytes w32 size ≡ length payload
  pub allowed : length payload ≤ longest
  pub whole : bytes ≡ size ++ (payload ++ after)

-- the three tests of a sized payload
abbrev tested : Bool → Bool → Bool → List ℕ → Option (List ℕ × List ℕ)
tested a b c bytes = cond (a && b && c) (Some (take (size_of bytes) (drop 4 bytes), drop (size_of bytes) (drop 4 bytes))) None

abbrev first : Option (List ℕ × List ℕ) → List ℕ
first (Some x) = x.0
first None = []

abbrev second : Option (List ℕ × List ℕ) → List ℕ
second (Some x) = x.1
second None = []

parts : (bytes payload after : List ℕ) → 4 ≤ length bytes → size_of bytes ≤ longest → size_of bytes ≤ length (drop 4 bytes) → take (size_of bytes) (drop 4 bytes) ≡ payload → drop (size_of bytes) (drop 4 bytes) ≡ after → IsSized bytes payload after
parts bytes payload after head few whole p a =
    let len : size_of bytes ≡ length payload = sym (length-take-le (size_of bytes) (drop 4 bytes) whole) ∙ ap length p in
    record {
      size = take 4 bytes;
      four = length-take-le 4 bytes head;
      spells = len;
      allowed = rw (← len) few;
      whole = sym (take-append-drop 4 bytes) ∙ ap (λ xs. take 4 bytes ++ xs) (sym (take-append-drop (size_of bytes) (drop 4 bytes))) ∙ ap (λ xs. take 4 bytes ++ (xs ++ drop (size_of bytes) (drop 4 bytes))) p ∙ ap (λ xs. take 4 bytes ++ (payload ++ xs)) a;
    }

by_tests : (a b c : Bool) (bytes payload after : List ℕ) → leb 4 (length bytes) ≡ a → leb (size_of bytes) longest ≡ b → leb (size_of bytes) (length (drop 4 bytes)) ≡ c → tested a b c bytes ≡ Some (payload, after) → IsSized bytes payload after
by_tests false b c bytes payload after ea eb ec is = cc
by_tests true false c bytes payload after ea eb ec is = cc
by_tests true true false bytes payload after ea eb ec is = cc
by_tests true true true bytes payload after ea eb ec is =
    parts bytes payload after (leb-true _ _ ea) (leb-true _ _ eb) (leb-true _ _ ec) (ap first is) (ap second is)

pub sized_is : (bytes payload after : List ℕ) → sized_frame bytes ≡ Some (payload, after) → IsSized bytes payload after
sized_is bytes payload after is =
    by_tests (leb 4 (length bytes)) (leb (size_of bytes) longest) (leb (size_of bytes) (length (drop 4 bytes))) bytes payload after refl refl refl is

is_sized : (size payload after : List ℕ) → length size ≡ 4 → from_be_bytes w32 size ≡ length payload → length payload ≤ longest → sized_frame (size ++ (payload ++ after)) ≡ Some (payload, after)
is_sized size payload after four spells allowed =
    let t : take 4 (size ++ (payload ++ after)) ≡ size = take_at size (payload ++ after) 4 four in
    let d : drop 4 (size ++ (payload ++ after)) ≡ payload ++ after = drop_at size (payload ++ after) 4 four in
    let n : size_of (size ++ (payload ++ after)) ≡ length payload = ap (λ xs. from_be_bytes w32 xs) t ∙ spells in
    let head : 4 ≤ length (size ++ (payload ++ after)) = rw (length-append size (payload ++ after)) (omega arith) in
    let fits : length payload ≤ length (payload ++ after) = rw (length-append payload after) (omega arith) in
    rw (n, d, le-leb _ _ head, le-leb _ _ allowed, le-leb _ _ fits, take_at payload after (length payload) refl, drop_at payload after (length payload) refl) refl

pub sized_more : (bytes payload after ys : List ℕ) → IsSized bytes payload after → sized_frame (bytes ++ ys) ≡ Some (payload, after ++ ys)
sized_more bytes payload after ys is =
    let e : bytes ++ ys ≡ is.size ++ (payload ++ (after ++ ys)) =
    ap (λ xs. xs ++ ys) is.whole ∙ append_assoc is.size (payload ++ after) ys ∙ ap (λ xs. is.size ++ xs) (append_assoc payload after ys) in
    ap sized_frame e ∙ is_sized is.size payload (after ++ ys) is.four is.spells is.allowed

-- the flag 0 stands before it
pub record IsFirst (bytes payload after : List ℕ) : Type 0 where
  pub sized : List ℕ
  pub flagged : bytes ≡ zero ∷ sized
  pub is : IsSized sized payload after

pub first_is : (bytes payload after : List ℕ) → first_frame bytes ≡ Some (payload, after) → IsFirst bytes payload after
unfolding first_frame
first_is [] payload after is = cc
first_is (zero ∷ bytes) payload after is = record { sized = bytes; flagged = refl; is = sized_is bytes payload after is }
first_is (suc flag ∷ bytes) payload after is = cc

-- a frame stays a frame where more bytes follow
pub first_more : (bytes payload after ys : List ℕ) → first_frame bytes ≡ Some (payload, after) → first_frame (bytes ++ ys) ≡ Some (payload, after ++ ys)
unfolding first_frame
first_more bytes payload after ys is =
    let f = first_is bytes payload after is in
    rw f.flagged (sized_more f.sized payload after ys f.is)

-- a frame in the words of the standard
pub frame_is_first : (size payload after : List ℕ) → length size ≡ 4 → from_be_bytes w32 size ≡ length payload → length payload ≤ longest → first_frame (zero ∷ (size ++ (payload ++ after))) ≡ Some (payload, after)
unfolding first_frame
frame_is_first size payload after four spells allowed = is_sized size payload after four spells allowed

-- what stands after a frame is a tail, and shorter
pub tail_of : (bytes payload after : List ℕ) → first_frame bytes ≡ Some (payload, after) → (front : List ℕ) × (bytes ≡ front ++ after)
tail_of bytes payload after is =
    let f = first_is bytes payload after is in
    (zero ∷ (f.is.size ++ payload), f.flagged ∙ ap (λ xs. zero ∷ xs) (f.is.whole ∙ sym (append_assoc f.is.size payload after)))

pub shorter : (bytes payload after : List ℕ) → first_frame bytes ≡ Some (payload, after) → length after < length bytes
shorter bytes payload after is =
    let f = first_is bytes payload after is in
    let a = ap length f.flagged in
    let b = ap length f.is.whole in
    let c = length-append f.is.size (payload ++ after) in
    let d = length-append payload after in
    let four = f.is.four in
    omega arith
