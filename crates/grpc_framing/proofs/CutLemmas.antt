-- The cut of bytes that come in pieces.
use Rattle.std.proofs.Common.{◌≡◌, ◌<◌, ◌≤◌, ℕ, zero, suc, List, [], ◌∷◌, ◌++◌, length, refl, ap, arith, not-suc-le-zero, Option, Some, None}
use Rattle.grpc_framing.specs.Framing.{Parts}
use Rattle.grpc_framing.specs.Cut.{first_frame, cut_within, cut, cut_after, with_payload}
use Rattle.grpc_framing.proofs.FrameLemmas.{shorter, first_more}

-- enough turns are as good as any
fuel_after : (n m : ℕ) (bytes : List ℕ) (f : Option (List ℕ × List ℕ)) →
    ((after : List ℕ) → length after < length bytes → cut_within n after ≡ cut_within m after) →
    first_frame bytes ≡ f → cut_after bytes f (λ after. cut_within n after) ≡ cut_after bytes f (λ after. cut_within m after)
fuel_after n m bytes None each is = refl
fuel_after n m bytes (Some f) each is = ap (λ parts. with_payload f.0 parts) (each f.1 (shorter bytes f.0 f.1 is))

fuel : (n m : ℕ) (bytes : List ℕ) → length bytes ≤ n → length bytes ≤ m → cut_within n bytes ≡ cut_within m bytes
unfolding cut_within first_frame
fuel zero zero bytes ln lm = refl
fuel zero (suc m) [] ln lm = refl
fuel zero (suc m) (b ∷ bytes) ln lm = absurd (not-suc-le-zero ln)
fuel (suc n) zero [] ln lm = refl
fuel (suc n) zero (b ∷ bytes) ln lm = absurd (not-suc-le-zero lm)
fuel (suc n) (suc m) bytes ln lm =
    fuel_after n m bytes (first_frame bytes) (λ after less. fuel n m after (grind (arith, less, ln)) (grind (arith, less, lm))) refl

-- the cut of more bytes, after a cut
abbrev pub cut_on : Parts → List ℕ → Parts
cut_on parts ys = record { payloads = parts.payloads ++ (cut (parts.rest ++ ys)).payloads; rest = (cut (parts.rest ++ ys)).rest }

pub cut_first : (bytes payload after : List ℕ) → first_frame bytes ≡ Some (payload, after) → cut bytes ≡ with_payload payload (cut after)
unfolding cut cut_within
cut_first [] payload after is = absurd (not-suc-le-zero (shorter [] payload after is))
cut_first (b ∷ bytes) payload after is =
    let less = shorter (b ∷ bytes) payload after is in
    let le : length after ≤ length bytes = grind (arith, less) in
    let self : length after ≤ length after = grind (arith) in
    rw is (ap (λ parts. with_payload payload parts) (fuel (length bytes) (length after) after le self))

after_none : (bytes : List ℕ) (f : Option (List ℕ × List ℕ)) (others : List ℕ → Parts) → f ≡ None → cut_after bytes f others ≡ record { payloads = []; rest = bytes }
after_none bytes None others is = refl
after_none bytes (Some f) others is = cc

pub cut_none : (bytes : List ℕ) → first_frame bytes ≡ None → cut bytes ≡ record { payloads = []; rest = bytes }
unfolding cut cut_within
cut_none [] is = refl
cut_none (b ∷ bytes) is = after_none (b ∷ bytes) (first_frame (b ∷ bytes)) _ is

on_none : (bytes ys : List ℕ) → first_frame bytes ≡ None → cut (bytes ++ ys) ≡ cut_on (cut bytes) ys
on_none bytes ys is = rw (cut_none bytes is) refl

more_at : (bytes ys : List ℕ) (f : Option (List ℕ × List ℕ)) →
    ((after : List ℕ) → length after < length bytes → cut (after ++ ys) ≡ cut_on (cut after) ys) →
    first_frame bytes ≡ f → cut (bytes ++ ys) ≡ cut_on (cut bytes) ys
more_at bytes ys None each is = on_none bytes ys is
more_at bytes ys (Some f) each is =
    let e = each f.1 (shorter bytes f.0 f.1 is) in
    rw (cut_first (bytes ++ ys) f.0 (f.1 ++ ys) (first_more bytes f.0 f.1 ys is), cut_first bytes f.0 f.1 is)
    (ap (λ parts. with_payload f.0 parts) e)

more_within : (n : ℕ) (bytes ys : List ℕ) → length bytes ≤ n → cut (bytes ++ ys) ≡ cut_on (cut bytes) ys
more_within zero bytes ys le = more_at bytes ys (first_frame bytes) (λ after less. absurd (not-suc-le-zero (below after bytes less le))) refl
  where
    below : (after bytes : List ℕ) → length after < length bytes → length bytes ≤ zero → suc (length after) ≤ zero
    below after bytes less le = omega arith
more_within (suc n) bytes ys le = more_at bytes ys (first_frame bytes) (λ after less. more_within n after ys (grind (arith, less, le))) refl

-- the cut of bytes in two pieces is the cut of the first, gone on with
pub cut_more : (bytes ys : List ℕ) → cut (bytes ++ ys) ≡ cut_on (cut bytes) ys
cut_more bytes ys = more_within (length bytes) bytes ys (omega arith)

rest_at : (bytes : List ℕ) (f : Option (List ℕ × List ℕ)) →
    ((after : List ℕ) → length after < length bytes → first_frame (cut after).rest ≡ None) →
    first_frame bytes ≡ f → first_frame (cut bytes).rest ≡ None
rest_at bytes None each is = rw (cut_none bytes is) is
rest_at bytes (Some f) each is = rw (cut_first bytes f.0 f.1 is) (each f.1 (shorter bytes f.0 f.1 is))

rest_within : (n : ℕ) (bytes : List ℕ) → length bytes ≤ n → first_frame (cut bytes).rest ≡ None
rest_within zero bytes le = rest_at bytes (first_frame bytes) (λ after less. absurd (not-suc-le-zero (below after bytes less le))) refl
  where
    below : (after bytes : List ℕ) → length after < length bytes → length bytes ≤ zero → suc (length after) ≤ zero
    below after bytes less le = omega arith
rest_within (suc n) bytes le = rest_at bytes (first_frame bytes) (λ after less. rest_within n after (grind (arith, less, le))) refl

-- the rest begins with no frame
pub rest_over : (bytes : List ℕ) → first_frame (cut bytes).rest ≡ None
rest_over bytes = rest_within (length bytes) bytes (omega arith)
