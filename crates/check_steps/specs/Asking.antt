-- What was asked of a builder of patterns in one response, and what its answers say (gRFC A28: a pattern that can't be built
-- refuses the resource).
use Rattle.std.specs.Prelude.{◌≡◌, ℕ, List, [], ◌∷◌, ◌++◌, ◌⊎◌, All, bytes_eq, Bool, true, false, if◌then◌else◌, Option, Some, None, cond, Result, Ok, Err}
use Rattle.std.specs.List.{list_any}
use Rattle.std.specs.Map.{lookup}
use Rattle.std.specs.Ordering.{nat_cmp, is_eq}
use Rattle.std.specs.Cmp.Lexicographic.{slice_cmp}
use Rattle.check_steps.specs.declared.check_fault.Stop.{Stop}
use Rattle.check_steps.specs.declared.check_fault.Stop.TheVariants.{Because, Refused}
use Rattle.check_steps.specs.declared.check_fault.Fault.{Fault}
use Rattle.check_steps.specs.declared.check_fault.Fault.TheVariants.{Stopped, Memory}
use Rattle.check_steps.specs.TableSteps.{Tells}

-- ---- the texts that were asked

-- the answer for a text: the text of its pattern, or none where it was refused
abbrev pub Answer : Type 0
Answer = Option (List ℕ)

-- the answers by text, and the refused texts in the order in which they were asked
pub record Texts : Type 0 where
  pub answers : List (List ℕ × Answer)
  pub refused : List (List ℕ)

-- nothing was asked yet
abbrev pub no_texts : Texts
no_texts = record { answers = []; refused = [] }

abbrev pub is_text : List ℕ → List ℕ → Bool
is_text text other = is_eq (slice_cmp nat_cmp text other)

-- what was answered for a text, if it was asked
abbrev pub answer_to : Texts → List ℕ → Option Answer
answer_to texts text = lookup (is_text text) texts.answers

-- the text is among the refused ones
abbrev pub refusing : Texts → List ℕ → Bool
refusing texts text = list_any (λ t. bytes_eq t text) texts.refused

-- ---- tests of texts that agree with the answers

-- what an answer says of whether the text is refused: nothing where it wasn't asked
abbrev pub Says : Bool → Option Answer → Type 0
Says refused None = Unit {0}
Says refused (Some None) = refused ≡ true
Says refused (Some (Some pattern)) = refused ≡ false

-- the test refuses each text that was refused, and no text of which a pattern was built
pub record Agrees (refuses : List ℕ → Bool) (texts : Texts) : Type 0 where
  pub says : (text : List ℕ) → Says (refuses text) (answer_to texts text)

-- a pattern is seen as its text, and is built where that isn't refused
abbrev pub pattern_of : (List ℕ → Bool) → List ℕ → Result (List ℕ) Stop
pattern_of refuses pattern = if refuses pattern then Err (Refused pattern) else Ok pattern

-- ---- what a call asks

-- an answer stays
abbrev pub Stays : Option Answer → Option Answer → Type 0
Stays None now = Unit {0}
Stays (Some answer) now = now ≡ Some answer

-- the members of a list stand in another in the same order
abbrev pub IsSubsequence : List (List ℕ) → List (List ℕ) → Type 0
IsSubsequence [] [] = Unit {0}
IsSubsequence (x ∷ xs) [] = ⊥
IsSubsequence [] (y ∷ ys) = Unit {0}
IsSubsequence (x ∷ xs) (y ∷ ys) = ((x ≡ y) × IsSubsequence xs ys) ⊎ IsSubsequence (x ∷ xs) ys

-- Of calls that go on from the texts `before` to the texts `after`, while the builder's refused texts go from `told` to
-- `tells`: each answer stays; the refused texts gain a subsequence of those that the builder refused in them; and of
-- these none had been asked before.
pub record Asks (before after : Texts) (told tells : List (List ℕ)) : Type 0 where
  pub stays : (text : List ℕ) → Stays (answer_to before text) (answer_to after text)
  pub gained : List (List ℕ)
  pub refused : after.refused ≡ before.refused ++ gained
  pub answered : List (List ℕ)
  pub tells_them : tells ≡ told ++ answered
  pub among : IsSubsequence gained answered
  pub new : All (λ text. answer_to before text ≡ None) answered

-- ---- the one text at which a call stops

-- how a call ends: it gives something, it stops, or memory runs out
abbrev pub Ending : Type 0
Ending = Result (Unit {0}) Fault

abbrev pub ending : {A : Type 0} → Result A Fault → Ending
ending (Ok x) = Ok tt
ending (Err fault) = Err fault

-- where a call stops at a text that was refused before it gains nothing, and else this text
abbrev pub IsStopGain : Texts → Stop → List (List ℕ) → Type 0
IsStopGain before (Because reason) gained = gained ≡ []
IsStopGain before (Refused text) gained = (gained ≡ []) ⊎ ((refusing before text ≡ false) × (gained ≡ text ∷ []))

-- a call that doesn't stop at a text gains no refused text
abbrev pub IsGain : Texts → Ending → List (List ℕ) → Type 0
IsGain before (Ok given) gained = gained ≡ []
IsGain before (Err (Stopped stop)) gained = IsStopGain before stop gained
IsGain before (Err Memory) gained = gained ≡ []

-- the builder refused no other texts than those that were gained, unless memory ran out
abbrev pub IsAllOf : Ending → List (List ℕ) → List (List ℕ) → Type 0
IsAllOf (Ok given) gained answered = answered ≡ gained
IsAllOf (Err (Stopped stop)) gained answered = answered ≡ gained
IsAllOf (Err Memory) gained answered = Unit {0}

-- Of a call that asks until it ends so: what it gains is the one text at which it stops, if that is a new one, and the
-- builder refused no other text.
pub record AsksUntil (before after : Texts) (told tells : List (List ℕ)) (end : Ending) : Type 0 where
  pub asks : Asks before after told tells
  pub gains : IsGain before end asks.gained
  pub all : IsAllOf end asks.gained asks.answered

-- what a call answers is what its step says over each test of texts that agrees with the texts asked by then
abbrev pub TellsOver : {A : Type 0} → Texts → Result A Fault → ((List ℕ → Bool) → Result A Stop) → Type 0
TellsOver texts result step = (refuses : List ℕ → Bool) → Agrees refuses texts → Tells result (step refuses)

-- ---- one text

-- one more text has this answer, and each other the one before
abbrev pub Gains : Texts → Texts → List ℕ → Answer → Type 0
Gains before after text answer = (other : List ℕ) → answer_to after other ≡ cond (is_text text other) (Some answer) (answer_to before other)

-- what is known of a text: its pattern, that it is refused, or that it wasn't asked
abbrev pub Knows : Texts → List ℕ → Result (Option (List ℕ)) Fault → Type 0
Knows texts text (Ok None) = answer_to texts text ≡ None
Knows texts text (Ok (Some pattern)) = (answer_to texts text ≡ Some (Some text)) × (pattern ≡ text)
Knows texts text (Err (Stopped stop)) = (answer_to texts text ≡ Some None) × (stop ≡ Refused text)
Knows texts text (Err Memory) = Unit {0}

-- ---- the texts and their answers fit one another

abbrev pub is_refusal : Option Answer → Bool
is_refusal None = false
is_refusal (Some None) = true
is_refusal (Some (Some pattern)) = false

-- a pattern that was built has its text
abbrev pub IsOwn : List ℕ → Option Answer → Type 0
IsOwn text None = Unit {0}
IsOwn text (Some None) = Unit {0}
IsOwn text (Some (Some pattern)) = pattern ≡ text

pub record IsKept (texts : Texts) : Type 0 where
  pub listed : (text : List ℕ) → refusing texts text ≡ is_refusal (answer_to texts text)
  pub own : (text : List ℕ) → IsOwn text (answer_to texts text)
