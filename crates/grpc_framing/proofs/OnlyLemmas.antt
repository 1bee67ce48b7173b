-- The computed cut is a cut, and there is no other.
use Rattle.std.proofs.Common.{◌≡◌, ◌<◌, ◌≤◌, ℕ, zero, suc, List, [], ◌∷◌, ◌++◌, length, take, drop, get_or, refl, sym, ap, subst, ◌∙◌, arith, append_assoc, ⊎_elim, Option, Some, None, not-suc-le-zero}
use Rattle.std.specs.Prelude.{All, ◌↔◌}
use Rattle.std.specs.List.{flat_map}
use Rattle.std.specs.Int.{w32, to_be_bytes, from_be_bytes}
use Rattle.std.proofs.lemmas.Bool.{cases_lt}
use Rattle.std.proofs.lemmas.List.{drop_at, take_at, get_or_past}
use Rattle.std.proofs.lemmas.List.Elements.{All-nil, All-cons, All-head, All-tail, All-drop, All-take, All-get_or, All-same}
use Rattle.std.proofs.lemmas.Nat.{be_bytes_4, from_be_bytes-to_be_bytes_4}
use Rattle.grpc_framing.specs.Framing.{longest, frame, BeginsWithFrame, Parts, IsCut}
use Rattle.grpc_framing.specs.Cut.{first_frame, cut, with_payload}
use Rattle.grpc_framing.proofs.FrameLemmas.{first_is, frame_is_first, shorter}
use Rattle.grpc_framing.proofs.CutLemmas.{cut_first, cut_none}

abbrev IsByte : ℕ → Type 0
IsByte byte = byte < 256

abbrev Allowed : List ℕ → Type 0
Allowed payload = length payload ≤ longest

right : (xs ys : List ℕ) → All IsByte (xs ++ ys) → All IsByte ys
right xs ys all = All-same IsByte ys (drop (length xs) (xs ++ ys)) (sym (drop_at xs ys (length xs) refl)) (All-drop IsByte (length xs) (xs ++ ys) all)

left : (xs ys : List ℕ) → All IsByte (xs ++ ys) → All IsByte xs
left xs ys all = All-same IsByte xs (take (length xs) (xs ++ ys)) (sym (take_at xs ys (length xs) refl)) (All-take IsByte (length xs) (xs ++ ys) all)

each_byte : (xs : List ℕ) → All IsByte xs → (i : ℕ) → get_or xs i 0 < 256
each_byte xs all i = ⊎_elim (λ lt. All-get_or IsByte xs i 0 lt all) (λ le. rw (get_or_past xs i 0 le) (omega arith)) (cases_lt i (length xs))

-- the first frame that is found is a frame of the standard
first_whole : (bytes payload after : List ℕ) → All IsByte bytes → first_frame bytes ≡ Some (payload, after) → (length payload ≤ longest) × (bytes ≡ frame payload ++ after) × All IsByte after
first_whole bytes payload after all is =
    let f = first_is bytes payload after is in
    let tail : All IsByte f.sized = All-tail IsByte zero f.sized (All-same IsByte (zero ∷ f.sized) bytes (sym f.flagged) all) in
    let sized : All IsByte (f.is.size ++ (payload ++ after)) = All-same IsByte (f.is.size ++ (payload ++ after)) f.sized (sym f.is.whole) tail in
    let spelled : to_be_bytes w32 (length payload) ≡ f.is.size = be_bytes_4 f.is.size (length payload) f.is.four (each_byte f.is.size (left f.is.size (payload ++ after) sized)) (sym f.is.spells) in (
      f.is.allowed,
      f.flagged ∙ ap (λ xs. zero ∷ xs) (f.is.whole ∙ sym (append_assoc f.is.size payload after) ∙ ap (λ xs. (xs ++ payload) ++ after) (sym spelled)),
      right payload after (right f.is.size (payload ++ after) sized),
    )

-- a frame of the standard is found
frame_found : (payload after : List ℕ) → length payload ≤ longest → first_frame (frame payload ++ after) ≡ Some (payload, after)
frame_found payload after allowed =
    let n : from_be_bytes w32 (to_be_bytes w32 (length payload)) ≡ length payload = from_be_bytes-to_be_bytes_4 (length payload) (omega arith) in
    ap first_frame (ap (λ xs. zero ∷ xs) (append_assoc (to_be_bytes w32 (length payload)) payload after)) ∙
    frame_is_first (to_be_bytes w32 (length payload)) payload after refl n allowed

some_is_none : (x : List ℕ × List ℕ) → Some x ≡ None → ⊥
some_is_none x is = cc

over : (bytes : List ℕ) → first_frame bytes ≡ None → BeginsWithFrame bytes → ⊥
over bytes none (payload, after, allowed, is) = some_is_none (payload, after) (sym (frame_found payload after allowed) ∙ ap first_frame (sym is) ∙ none)

cut_at : (bytes : List ℕ) (f : Option (List ℕ × List ℕ)) → All IsByte bytes →
    ((after : List ℕ) → length after < length bytes → All IsByte after → IsCut after (cut after)) →
    first_frame bytes ≡ f → IsCut bytes (cut bytes)
cut_at bytes None all each is = subst (λ parts. IsCut bytes parts) (sym (cut_none bytes is)) (record { split = refl; allowed = All-nil Allowed; over = over bytes is })
cut_at bytes (Some f) all each is =
    let w = first_whole bytes f.0 f.1 all is in
    let c = each f.1 (shorter bytes f.0 f.1 is) w.2 in
    subst (λ parts. IsCut bytes parts) (sym (cut_first bytes f.0 f.1 is)) (record {
      split = w.1 ∙ ap (λ xs. frame f.0 ++ xs) c.split ∙ sym (append_assoc (frame f.0) (flat_map frame (cut f.1).payloads) (cut f.1).rest);
      allowed = All-cons Allowed f.0 (cut f.1).payloads w.0 c.allowed;
      over = c.over;
    })

cut_within_is : (n : ℕ) (bytes : List ℕ) → length bytes ≤ n → All IsByte bytes → IsCut bytes (cut bytes)
cut_within_is zero bytes le all = cut_at bytes (first_frame bytes) all (λ after less. absurd (not-suc-le-zero (below after bytes less le))) refl
  where
    below : (after bytes : List ℕ) → length after < length bytes → length bytes ≤ zero → suc (length after) ≤ zero
    below after bytes less le = omega arith
cut_within_is (suc n) bytes le all = cut_at bytes (first_frame bytes) all (λ after less. cut_within_is n after (grind (arith, less, le))) refl

cut_is : (bytes : List ℕ) → All IsByte bytes → IsCut bytes (cut bytes)
cut_is bytes all = cut_within_is (length bytes) bytes (omega arith) all

-- the rest of a cut begins with no frame that is found
none_found : (bytes : List ℕ) (f : Option (List ℕ × List ℕ)) → All IsByte bytes → (BeginsWithFrame bytes → ⊥) → first_frame bytes ≡ f → first_frame bytes ≡ None
none_found bytes None all no_frame is = is
none_found bytes (Some f) all no_frame is = let w = first_whole bytes f.0 f.1 all is in absurd (no_frame (f.0, f.1, w.0, w.1))

cut_of : (payloads : List (List ℕ)) (rest : List ℕ) → All Allowed payloads → first_frame rest ≡ None → cut (flat_map frame payloads ++ rest) ≡ record { payloads = payloads; rest = rest }
cut_of [] rest allowed none = cut_none rest none
cut_of (payload ∷ payloads) rest allowed none =
    let e = append_assoc (frame payload) (flat_map frame payloads) rest in
    let found = frame_found payload (flat_map frame payloads ++ rest) (All-head Allowed payload payloads allowed) in
    let f : first_frame ((frame payload ++ flat_map frame payloads) ++ rest) ≡ Some (payload, flat_map frame payloads ++ rest) = ap first_frame e ∙ found in
    cut_first ((frame payload ++ flat_map frame payloads) ++ rest) payload (flat_map frame payloads ++ rest) f ∙
    ap (λ parts. with_payload payload parts) (cut_of payloads rest (All-tail Allowed payload payloads allowed) none)

only : (bytes : List ℕ) (parts : Parts) → All IsByte bytes → IsCut bytes parts → parts ≡ cut bytes
only bytes parts all is =
    let bytes_all : All IsByte (flat_map frame parts.payloads ++ parts.rest) = All-same IsByte (flat_map frame parts.payloads ++ parts.rest) bytes (sym is.split) all in
    let none = none_found parts.rest (first_frame parts.rest) (right (flat_map frame parts.payloads) parts.rest bytes_all) is.over refl in
    sym (ap cut is.split ∙ cut_of parts.payloads parts.rest is.allowed none)

pub cut_is_the_only_one : (bytes : List ℕ) (parts : Parts) → All IsByte bytes → IsCut bytes parts ↔ (parts ≡ cut bytes)
cut_is_the_only_one bytes parts all = (λ is. only bytes parts all is, λ e. subst (λ p. IsCut bytes p) (sym e) (cut_is bytes all))
