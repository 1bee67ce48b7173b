-- A step that stops at a text stops at one that is refused.
use Rattle.std.proofs.Common.{◌≡◌, ℕ, List, [], ◌∷◌, Bool, true, false, Option, Some, None, refl}
use Rattle.std.specs.Prelude.{◌==◌, if◌then◌else◌, Result, Ok, Err}
use Rattle.xc_base.specs.declared.reason.Reason.{Reason}
use Rattle.proto_route.specs.declared.fractional_percent.RawFractionalPercent.{RawFractionalPercent}
use Rattle.proto_route.specs.declared.fractional_percent.RawRuntimeFractionalPercent.{RawRuntimeFractionalPercent}
use Rattle.check_steps.specs.declared.check_fault.Stop.{Stop}
use Rattle.check_steps.specs.declared.check_fault.Stop.TheVariants.{Because, Refused}
use Rattle.check_steps.specs.Asking.{pattern_of}
use Rattle.check_steps.specs.CallFractions.{fraction_of, part_of, runtime_part}
use Rattle.check_steps.specs.ResourceNames.{required_name}
use Rattle.check_steps.specs.TableSteps.{◌>>=◌, demand, each, readable}

abbrev pub IsFairStop : (List ℕ → Bool) → Stop → Type 0
IsFairStop refuses (Because reason) = Unit {0}
IsFairStop refuses (Refused text) = refuses text ≡ true

abbrev pub IsFair : {A : Type 0} → (List ℕ → Bool) → Result A Stop → Type 0
IsFair refuses (Ok x) = Unit {0}
IsFair refuses (Err stop) = IsFairStop refuses stop

pub fair_then : {A B : Type 0} (refuses : List ℕ → Bool) (step : Result A Stop) (next : A → Result B Stop) → IsFair refuses step → ((x : A) → IsFair refuses (next x)) → IsFair refuses (step >>= next)
fair_then refuses (Ok x) next first rest = rest x
fair_then refuses (Err stop) next first rest = first

pub fair_if : {A : Type 0} (refuses : List ℕ → Bool) (test : Bool) (x y : Result A Stop) → IsFair refuses x → IsFair refuses y → IsFair refuses (if test then x else y)
fair_if refuses true x y first second = first
fair_if refuses false x y first second = second

pub fair_demand : (refuses : List ℕ → Bool) (test : Bool) (reason : Reason) → IsFair refuses (demand test reason)
fair_demand refuses true reason = tt
fair_demand refuses false reason = tt

pub fair_readable : {A : Type 0} (refuses : List ℕ → Bool) (reading : Result A ℕ) → IsFair refuses (readable reading)
fair_readable refuses (Ok message) = tt
fair_readable refuses (Err at) = tt

pub fair_each : {X A : Type 0} (refuses : List ℕ → Bool) (f : X → Result A Stop) (xs : List X) → ((x : X) → IsFair refuses (f x)) → IsFair refuses (each f xs)
unfolding each
fair_each refuses f [] all = tt
fair_each refuses f (x ∷ xs) all =
    fair_then refuses (f x) (λ y. each f xs >>= λ ys. Ok (y ∷ ys)) (all x) (λ y. fair_then refuses (each f xs) (λ ys. Ok (y ∷ ys)) (fair_each refuses f xs all) (λ ys. tt))

pattern_by : (refuses : List ℕ → Bool) (text : List ℕ) (refused : Bool) → refuses text ≡ refused → IsFair {A = List ℕ} refuses (if refused then Err (Refused text) else Ok text)
pattern_by refuses text true is = is
pattern_by refuses text false is = tt

pub fair_pattern : (refuses : List ℕ → Bool) (text : List ℕ) → IsFair refuses (pattern_of refuses text)
fair_pattern refuses text = pattern_by refuses text (refuses text) refl

pub fair_name : (refuses : List ℕ → Bool) (text : List ℕ) → IsFair refuses (required_name text)
fair_name refuses [] = tt
fair_name refuses (b ∷ bs) = tt

fair_fraction : (refuses : List ℕ → Bool) (part : RawFractionalPercent) → IsFair refuses (fraction_of part)
fair_fraction refuses part =
    fair_if refuses (part.denominator == 0) _ _ tt (fair_if refuses (part.denominator == 1) _ _ tt (fair_if refuses (part.denominator == 2) _ _ tt tt))

pub fair_part : (refuses : List ℕ → Bool) (part : Option RawFractionalPercent) → IsFair refuses (part_of part)
fair_part refuses None = tt
fair_part refuses (Some part) = fair_fraction refuses part

pub fair_runtime : (refuses : List ℕ → Bool) (fraction : Option RawRuntimeFractionalPercent) → IsFair refuses (runtime_part fraction)
fair_runtime refuses None = tt
fair_runtime refuses (Some fraction) = fair_then refuses (part_of fraction.default_value) (λ part. Ok (Some part)) (fair_part refuses fraction.default_value) (λ part. tt)
