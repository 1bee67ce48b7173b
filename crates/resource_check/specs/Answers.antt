-- What a check of a resource answers: a step that gives something gives it, and a refusal is the step's, unless memory ran
-- out.
use Rattle.std.specs.Prelude.{◌≡◌, ℕ, List, [], ◌∷◌, ◌++◌, Bool, bytes_eq, if◌then◌else◌, Option, Some, None, Result, Ok, Err}
use Rattle.std.specs.List.{list_any}
use Rattle.check_steps.specs.declared.check_fault.CheckFault.{CheckFault}
use Rattle.check_steps.specs.declared.check_fault.CheckFault.TheVariants as fault
use Rattle.check_steps.specs.declared.check_fault.Fault.{Fault}
use Rattle.check_steps.specs.declared.check_fault.Fault.TheVariants.{Stopped, Memory}
use Rattle.check_steps.specs.declared.check_fault.Halt.{Halt}
use Rattle.check_steps.specs.declared.check_fault.Halt.TheVariants as halt
use Rattle.check_steps.specs.declared.check_fault.Refusal.{Refusal}
use Rattle.check_steps.specs.declared.check_fault.Stop.{Stop}
use Rattle.check_steps.specs.declared.check_fault.Stop.TheVariants.{Because, Refused}
use Rattle.check_steps.specs.Asking.{Agrees, Ending, Texts}
use Rattle.resource_check.specs.Resources.{reason_of}

-- ---- with the step at which the checks stop

abbrev pub Halts : {A : Type 0} → Halt → Result A Refusal → Type 0
Halts (halt.Refused refusal) step = step ≡ Err refusal
Halts halt.Memory step = Unit {0}

abbrev pub Gives : {A : Type 0} → Result A Halt → Result A Refusal → Type 0
Gives (Ok x) step = step ≡ Ok x
Gives (Err why) step = Halts why step

-- over each test of texts that agrees with the texts asked by then
abbrev pub GivesOver : {A : Type 0} → Texts → Result A Halt → ((List ℕ → Bool) → Result A Refusal) → Type 0
GivesOver texts result step = (refuses : List ℕ → Bool) → Agrees refuses texts → Gives result (step refuses)

-- why a resource that stops here under a name, if one is known, gives no value
abbrev pub halt_under : Option (List ℕ) → Fault → Halt
halt_under name (Stopped stop) = halt.Refused record { name = name; stop = stop }
halt_under name Memory = halt.Memory

-- ---- with the reason alone

-- the checks stop at a step, whose reason is told
abbrev pub Refuses : {A : Type 0} → CheckFault → Result A Refusal → Type 0
Refuses (fault.Refused name reason) step = (stop : Stop) × (step ≡ Err record { name = name; stop = stop }) × (reason_of stop ≡ reason)
Refuses fault.Memory step = Unit {0}

abbrev pub Answers : {A : Type 0} → Result A CheckFault → Result A Refusal → Type 0
Answers (Ok x) step = step ≡ Ok x
Answers (Err fault) step = Refuses fault step

-- over each test of texts that agrees with the texts asked by then
abbrev pub AnswersOver : {A : Type 0} → Texts → Result A CheckFault → ((List ℕ → Bool) → Result A Refusal) → Type 0
AnswersOver texts result step = (refuses : List ℕ → Bool) → Agrees refuses texts → Answers result (step refuses)

-- a refusal with its reason alone
abbrev pub fault_of : Halt → CheckFault
fault_of (halt.Refused refusal) = fault.Refused refusal.name (reason_of refusal.stop)
fault_of halt.Memory = fault.Memory

-- ---- the text at which a check stops

-- how a check ends, without the name
abbrev pub halt_ending : {A : Type 0} → Result A Halt → Ending
halt_ending (Ok x) = Ok tt
halt_ending (Err (halt.Refused refusal)) = Err (Stopped refusal.stop)
halt_ending (Err halt.Memory) = Err Memory

abbrev pub stop_text : Stop → Option (List ℕ)
stop_text (Because reason) = None
stop_text (Refused text) = Some text

abbrev pub halt_text : {A : Type 0} → Result A Halt → Option (List ℕ)
halt_text (Ok x) = None
halt_text (Err (halt.Refused refusal)) = stop_text refusal.stop
halt_text (Err halt.Memory) = None

-- the text, where it isn't among the refused ones yet
abbrev pub new_text : List (List ℕ) → Option (List ℕ) → List (List ℕ)
new_text refused None = []
new_text refused (Some text) = if list_any (λ t. bytes_eq t text) refused then [] else text ∷ []

-- the builder refused these texts in a check, and no other, unless memory ran out
abbrev pub TellsAll : {A : Type 0} → Result A Halt → List (List ℕ) → List (List ℕ) → List (List ℕ) → Type 0
TellsAll (Ok x) told tells gained = tells ≡ told ++ gained
TellsAll (Err (halt.Refused refusal)) told tells gained = tells ≡ told ++ gained
TellsAll (Err halt.Memory) told tells gained = Unit {0}
