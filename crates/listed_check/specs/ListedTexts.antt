-- Texts that are given as refused, and sets and records of them.
use Rattle.std.specs.Prelude.{◌≡◌, ℕ, List, Bool, true, false, Option, Some, None}
use Rattle.std.specs.BTreeSet.{BTreeSet}
use Rattle.check_steps.specs.Asking.{Answer, Texts, answer_to, refusing}
use Rattle.check_steps.specs.Sets.{has}
use Rattle.resource_check.specs.Deliveries.{among}

-- the set has the texts of the list, and no other
abbrev pub HasThese : BTreeSet (List ℕ) → List (List ℕ) → Type 0
HasThese seen texts = (text : List ℕ) → has seen text ≡ among text texts

-- the texts of the list were refused, and no other
abbrev pub RefusesThese : Texts → List (List ℕ) → Type 0
RefusesThese asked texts = (text : List ℕ) → refusing asked text ≡ among text texts

-- what was answered for a text that was refused, or wasn't asked
abbrev pub answer_of : Bool → Option Answer
answer_of true = Some None
answer_of false = None

-- the texts of the set were refused, and nothing else was asked
pub record KnowsThese (asked : Texts) (seen : BTreeSet (List ℕ)) : Type 0 where
  pub answers : (text : List ℕ) → answer_to asked text ≡ answer_of (has seen text)
  pub refused : (text : List ℕ) → refusing asked text ≡ has seen text
