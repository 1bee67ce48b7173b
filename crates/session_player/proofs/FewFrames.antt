-- How many frames end in bytes: each has five at least, and the first of them ends in the first of these bytes or later.
use Rattle.std.proofs.Common.{◌≡◌, ◌<◌, ◌≤◌, ◌+◌, ◌-◌, ◌*◌, ◌⊎◌, inl, inr, ℕ, zero, suc, List, ◌∷◌, ◌++◌, length, take, drop, Option, Some, None, refl, sym, ap, ◌∙◌, arith, append_assoc, length-append, length-drop, take-append-drop, not-suc-le-zero}
use Rattle.std.proofs.lemmas.Bool.{cases_lt}
use Rattle.std.proofs.Math.Seq.{take-append_seam, drop-append_seam}
use Rattle.grpc_framing.specs.Cut.{cut, first_frame}
use Rattle.grpc_framing.proofs.CutLemmas.{cut_first, cut_none, cut_more, rest_over}
use Rattle.grpc_framing.proofs.FrameLemmas.{first_is, shorter, frame_is_first}
use Rattle.session_script.specs.Plan.{ended_in}

five_more : (bytes payload after : List ℕ) → first_frame bytes ≡ Some (payload, after) → length after + 5 ≤ length bytes
five_more bytes payload after is =
    let f = first_is bytes payload after is in
    let a : length bytes ≡ length (zero ∷ f.sized) = ap length f.flagged in
    let b : length f.sized ≡ length (f.is.size ++ (payload ++ after)) = ap length f.is.whole in
    let c = length-append f.is.size (payload ++ after) in
    let d = length-append payload after in
    let e = f.is.four in
    omega (arith, a, b, c, d, e)

five_at : (bytes : List ℕ) (f : Option (List ℕ × List ℕ)) → ((after : List ℕ) → length after < length bytes → 5 * length (cut after).payloads ≤ length after) → first_frame bytes ≡ f
    → 5 * length (cut bytes).payloads ≤ length bytes
five_at bytes None each is = rw (cut_none bytes is) (omega arith)
five_at bytes (Some f) each is =
    let more = five_more bytes f.0 f.1 is in
    let rest = each f.1 (shorter bytes f.0 f.1 is) in
    rw (cut_first bytes f.0 f.1 is) (omega (arith, more, rest))

five_within : (n : ℕ) (bytes : List ℕ) → length bytes ≤ n → 5 * length (cut bytes).payloads ≤ length bytes
five_within zero bytes le = five_at bytes (first_frame bytes) (λ after less. absurd (not-suc-le-zero (below after bytes less le))) refl
  where
    below : (after bytes : List ℕ) → length after < length bytes → length bytes ≤ zero → suc zero ≤ zero
    below after bytes less le = omega arith
five_within (suc n) bytes le = five_at bytes (first_frame bytes) (λ after less. five_within n after (grind (arith, less, le))) refl

-- each frame has five bytes at least
five : (bytes : List ℕ) → 5 * length (cut bytes).payloads ≤ length bytes
five bytes = five_within (length bytes) bytes (omega arith)

-- lists that are equal and end in parts of one length have equal fronts
front_of_equal : (xs ys us vs : List ℕ) → xs ++ us ≡ ys ++ vs → length us ≡ length vs → xs ≡ ys
front_of_equal xs ys us vs e same =
    let a = length-append xs us in
    let b = length-append ys vs in
    let c = ap length e in
    let n : length xs ≡ length ys = omega (arith, a, b, c, same) in
    sym (take-append_seam xs us) ∙ (ap (take (length xs)) e ∙ (ap (λ k. take k (ys ++ vs)) n ∙ take-append_seam ys vs))

-- a frame that ends within the first bytes stands in them
stands : (rest bytes payload after : List ℕ) → first_frame (rest ++ bytes) ≡ Some (payload, after) → length bytes ≤ length after → first_frame rest ≡ Some (payload, take (length after - length bytes) after)
stands rest bytes payload after is le =
    let f = first_is (rest ++ bytes) payload after is in
    let whole : rest ++ bytes ≡ (zero ∷ (f.is.size ++ payload)) ++ after = f.flagged ∙ ap (λ xs. zero ∷ xs) (f.is.whole ∙ sym (append_assoc f.is.size payload after)) in
    let kept : rest ++ bytes ≡ ((zero ∷ (f.is.size ++ payload)) ++ take (length after - length bytes) after) ++ drop (length after - length bytes) after =
    whole ∙ (ap (λ xs. (zero ∷ (f.is.size ++ payload)) ++ xs) (sym (take-append-drop (length after - length bytes) after)) ∙ sym (append_assoc (zero ∷ (f.is.size ++ payload)) (take (length after - length bytes) after) (drop (length after - length bytes) after))) in
    let cut_off = length-drop (length after - length bytes) after in
    let same_len : length bytes ≡ length (drop (length after - length bytes) after) = omega (arith, cut_off, le) in
    let rest_is : rest ≡ (zero ∷ (f.is.size ++ payload)) ++ take (length after - length bytes) after = front_of_equal rest _ bytes _ kept same_len in
    ap first_frame (rest_is ∙ ap (λ xs. zero ∷ xs) (append_assoc f.is.size payload (take (length after - length bytes) after)))
    ∙ frame_is_first f.is.size payload (take (length after - length bytes) after) f.is.four f.is.spells f.is.allowed

inside : (rest bytes payload after : List ℕ) → first_frame rest ≡ None → first_frame (rest ++ bytes) ≡ Some (payload, after) → length after < length bytes
inside rest bytes payload after over is = by_length (cases_lt (length after) (length bytes))
  where
    by_length : (length after < length bytes) ⊎ (length bytes ≤ length after) → length after < length bytes
    by_length (inl lt) = lt
    by_length (inr le) = let found = stands rest bytes payload after is le in cc

few_at : (rest bytes : List ℕ) (f : Option (List ℕ × List ℕ)) → first_frame rest ≡ None → first_frame (rest ++ bytes) ≡ f → 5 * length (cut (rest ++ bytes)).payloads ≤ length bytes + 4
few_at rest bytes None over is = rw (cut_none (rest ++ bytes) is) (omega arith)
few_at rest bytes (Some f) over is =
    let less = inside rest bytes f.0 f.1 over is in
    let more = five f.1 in
    rw (cut_first (rest ++ bytes) f.0 f.1 is) (omega (arith, less, more))

-- at most one frame for every five bytes that are begun
pub few_ended : (before bytes : List ℕ) → 5 * length (ended_in before bytes) ≤ length bytes + 4
few_ended before bytes =
    let more : ended_in before bytes ≡ (cut ((cut before).rest ++ bytes)).payloads =
    ap (λ parts. drop (length (cut before).payloads) parts.payloads) (cut_more before bytes) ∙ drop-append_seam (cut before).payloads (cut ((cut before).rest ++ bytes)).payloads in
    rw more (few_at (cut before).rest bytes (first_frame ((cut before).rest ++ bytes)) (rest_over before) refl)
