-- The faults that bytes can begin with.
use Rattle.std.proofs.Common.{◌≡◌, ℕ, zero, suc, Bool, true, false, cond, List, [], ◌∷◌, refl, sym, ap, ◌∙◌, Option, Some, None, Result, Err}
use Rattle.std.specs.Prelude.{◌↔◌, IsSome, is_err}
use Rattle.grpc_framing.specs.declared.frame_fault.FrameFault.{FrameFault}
use Rattle.grpc_framing.specs.declared.frame_fault.FrameFault.TheVariants.{TooLong, Ended}
use Rattle.grpc_framing.specs.Framing.{fault_at}
use Rattle.grpc_framing.specs.Feeding.{answer_at, is_taken}

by_test : (b : Bool) (size : ℕ) → is_taken (answer_at (cond b (Some (TooLong size)) None)) ≡ true
by_test true size = refl
by_test false size = refl

-- the piece that brings a fault is taken
pub taken_at : (bytes : List ℕ) → is_taken (answer_at (fault_at bytes)) ≡ true
unfolding fault_at
taken_at [] = refl
taken_at (zero ∷ bytes) = by_test _ _
taken_at (suc flag ∷ bytes) = refl

true_is_false : true ≡ false → ⊥
true_is_false is = cc

-- the bytes themselves are no earlier fault
not_ended : (bytes : List ℕ) → answer_at (fault_at bytes) ≡ Err Ended → ⊥
not_ended bytes is = true_is_false (sym (taken_at bytes) ∙ ap is_taken is)

no_fault : (f : Option FrameFault) → is_err (answer_at f) ≡ false → IsSome f → ⊥
no_fault None right some = true_is_false (sym some)
no_fault (Some fault) right some = true_is_false right

pub ended_told : (before left : List ℕ) (answer : Result Unit FrameFault) → is_err (answer_at (fault_at before)) ≡ false → answer ≡ answer_at (fault_at left) →
    (answer ≡ Err Ended) ↔ IsSome (fault_at before)
ended_told before left answer right is = (λ e. absurd (not_ended left (sym is ∙ e)), λ some. absurd (no_fault (fault_at before) right some))
