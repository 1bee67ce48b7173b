-- The steps of a table of checks: each gives something, or the checks stop at it. What a function answers is what its step
-- says, unless memory ran out.
use Rattle.std.specs.Prelude.{◌≡◌, ℕ, List, [], ◌∷◌, Bool, true, false, Result, Ok, Err}
use Rattle.xc_base.specs.declared.reason.Reason.{Reason}
use Rattle.xc_base.specs.declared.reason.Reason.TheVariants.{Unreadable}
use Rattle.check_steps.specs.declared.check_fault.Stop.{Stop}
use Rattle.check_steps.specs.declared.check_fault.Stop.TheVariants.{Because}
use Rattle.check_steps.specs.declared.check_fault.Fault.{Fault}
use Rattle.check_steps.specs.declared.check_fault.Fault.TheVariants.{Stopped, Memory}

infixl 10 ◌>>=◌
abbrev pub ◌>>=◌ : {A B E : Type 0} → Result A E → (A → Result B E) → Result B E
(Ok x) >>= f = f x
(Err e) >>= f = Err e

-- the test holds, else the checks stop for the reason
abbrev pub demand : Bool → Reason → Result (Unit {0}) Stop
demand true reason = Ok tt
demand false reason = Err (Because reason)

-- what each of a list gives, in order
unfoldable pub each : {X A : Type 0} → (X → Result A Stop) → List X → Result (List A) Stop
each f [] = Ok []
each f (x ∷ xs) = f x >>= λ y. each f xs >>= λ ys. Ok (y ∷ ys)

-- a message is read, or is unreadable
abbrev pub readable : {A : Type 0} → Result A ℕ → Result A Stop
readable (Ok message) = Ok message
readable (Err at) = Err (Because Unreadable)

-- the answer is what the step says, unless memory ran out
abbrev pub Tells : {A : Type 0} → Result A Fault → Result A Stop → Type 0
Tells (Ok x) step = step ≡ Ok x
Tells (Err (Stopped stop)) step = step ≡ Err stop
Tells (Err Memory) step = Unit {0}
