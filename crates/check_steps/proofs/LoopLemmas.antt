-- Loops that take the steps of each of a list, while patterns are asked for.
use Rattle.std.proofs.Common.{◌≡◌, ℕ, ◌<◌, ◌≤◌, ◌+◌, List, [], ◌∷◌, ◌++◌, length, get_or, drop, Bool, refl}
use Rattle.std.specs.Prelude.{Result, Ok, Err}
use Rattle.check_steps.specs.declared.check_fault.Stop.{Stop}
use Rattle.check_steps.specs.declared.check_fault.Fault.{Fault}
use Rattle.check_steps.specs.Asking.{Agrees, Asks, TellsOver, Texts}
use Rattle.check_steps.specs.TableSteps.{each}
use Rattle.check_steps.proofs.AskingLemmas.{agrees_before}
use Rattle.check_steps.proofs.EachLemmas.{each_ends, each_more, each_stops, joined}

-- what is done of a list up to a place
abbrev pub IsUnderWay : {X A : Type 0} → ((List ℕ → Bool) → X → Result A Stop) → List X → ℕ → List A → Texts → Type 0
IsUnderWay f xs i done texts = (refuses : List ℕ → Bool) → Agrees refuses texts → joined done (each (f refuses) (drop i xs)) ≡ each (f refuses) xs

pub nothing_before : {A : Type 0} (rest : Result (List A) Stop) → joined [] rest ≡ rest
nothing_before (Ok ys) = refl
nothing_before (Err stop) = refl

pub begins : {X A : Type 0} (f : (List ℕ → Bool) → X → Result A Stop) (xs : List X) (texts : Texts) → IsUnderWay f xs 0 [] texts
begins f xs texts refuses agrees = nothing_before (each (f refuses) xs)

pub goes_on : {X A : Type 0} {texts later : Texts} {told tells : List (List ℕ)} (f : (List ℕ → Bool) → X → Result A Stop) (xs : List X) (i : ℕ) (x : X) (done : List A) (y : A)
    → i < length xs → x ≡ get_or xs i x → IsUnderWay f xs i done texts → Asks texts later told tells → TellsOver later (Ok y) (λ refuses. f refuses x)
    → IsUnderWay f xs (i + 1) (done ++ y ∷ []) later
goes_on f xs i x done y lt is so_far asks gives refuses agrees =
    each_more (f refuses) xs i x done (done ++ y ∷ []) y lt is (gives refuses agrees) refl (so_far refuses (agrees_before asks agrees))

pub stops : {X A : Type 0} {texts later : Texts} {told tells : List (List ℕ)} (f : (List ℕ → Bool) → X → Result A Stop) (xs : List X) (i : ℕ) (x : X) (done : List A) (fault : Fault)
    → i < length xs → x ≡ get_or xs i x → IsUnderWay f xs i done texts → Asks texts later told tells → TellsOver {A = A} later (Err fault) (λ refuses. f refuses x)
    → TellsOver {A = List A} later (Err fault) (λ refuses. each (f refuses) xs)
stops f xs i x done fault lt is so_far asks gives refuses agrees =
    each_stops (f refuses) xs i x done fault lt is (gives refuses agrees) (so_far refuses (agrees_before asks agrees))

pub ends : {X A : Type 0} {texts : Texts} (f : (List ℕ → Bool) → X → Result A Stop) (xs : List X) (i : ℕ) (done : List A) → length xs ≤ i → IsUnderWay f xs i done texts
    → TellsOver texts (Ok done) (λ refuses. each (f refuses) xs)
ends f xs i done le so_far refuses agrees = each_ends (f refuses) xs i done le (so_far refuses agrees)
