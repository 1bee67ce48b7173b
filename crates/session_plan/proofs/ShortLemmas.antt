-- The payloads of frames are short.
use Rattle.std.proofs.Common.{◌≡◌, ◌≤◌, ◌<◌, ℕ, zero, suc, List, [], ◌∷◌, ◌++◌, length, get_or, All, Bool, true, false, cond, Option, Some, None, Result, refl, sym, ap, ◌∙◌, subst, arith, not-suc-le-zero}
use Rattle.std.proofs.lemmas.List.Elements.{All-cons, All-nil}
use Rattle.grpc_framing.specs.declared.frame_fault.FrameFault.{FrameFault}
use Rattle.grpc_framing.specs.Cut.{cut, first_frame, with_payload}
use Rattle.grpc_framing.specs.Feeding.{added_by, is_taken}
use Rattle.grpc_framing.specs.Framing.{Parts}
use Rattle.grpc_framing.proofs.CutLemmas.{cut_first, cut_none}
use Rattle.grpc_framing.proofs.FrameLemmas.{first_is, shorter}
use Rattle.session_plan.specs.ReadablePayloads.{IsShort}

abbrev AllShort : List (List ℕ) → Type 0
AllShort payloads = All IsShort payloads

short_first : (bytes : List ℕ) (f : Option (List ℕ × List ℕ)) → ((after : List ℕ) → length after < length bytes → AllShort (cut after).payloads) → first_frame bytes ≡ f → AllShort (cut bytes).payloads
short_first bytes None each is = subst (λ (parts : Parts). AllShort parts.payloads) (sym (cut_none bytes is)) (All-nil IsShort)
short_first bytes (Some f) each is =
    let allowed = (first_is bytes f.0 f.1 is).is.allowed in
    let short : IsShort f.0 = omega (arith, allowed) in
    subst (λ (parts : Parts). AllShort parts.payloads) (sym (cut_first bytes f.0 f.1 is)) (All-cons IsShort f.0 (cut f.1).payloads short (each f.1 (shorter bytes f.0 f.1 is)))

short_within : (n : ℕ) (bytes : List ℕ) → length bytes ≤ n → AllShort (cut bytes).payloads
short_within zero bytes le = short_first bytes (first_frame bytes) (λ after less. absurd (not-suc-le-zero (below after bytes less le))) refl
  where
    below : (after bytes : List ℕ) → length after < length bytes → length bytes ≤ zero → suc (length after) ≤ zero
    below after bytes less le = omega arith
short_within (suc n) bytes le = short_first bytes (first_frame bytes) (λ after less. short_within n after (grind (arith, less, le))) refl

short_by : (t : Bool) (bytes : List ℕ) → AllShort (cond t (cut bytes).payloads [])
short_by true bytes = short_within (length bytes) bytes (omega arith)
short_by false bytes = All-nil IsShort

-- those that a piece adds to none
pub added_short : (answer : Result Unit FrameFault) (waiting piece : List ℕ) (old payloads : List (List ℕ)) → old ≡ [] → payloads ≡ old ++ added_by answer waiting piece → AllShort payloads
added_short answer waiting piece old payloads none is =
    subst (λ (ps : List (List ℕ)). AllShort ps) (sym (is ∙ ap (λ (ps : List (List ℕ)). ps ++ added_by answer waiting piece) none)) (short_by (is_taken answer) (waiting ++ piece))

-- one of short payloads
pub short_item : (payloads : List (List ℕ)) (n : ℕ) (payload : List ℕ) → AllShort payloads → n < length payloads → payload ≡ get_or payloads n payload → IsShort payload
short_item payloads n payload all less is = subst (λ (p : List ℕ). IsShort p) (sym is) (all n payload less)
