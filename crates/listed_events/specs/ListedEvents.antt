-- Events of the driver, prepared with the pattern texts that a report lists as refused (this project's own).
use Rattle.std.specs.Prelude.{◌≡◌, ◌<◌, ◌⊎◌, ℕ, List, [], length, take, Option, Some}
use Rattle.call_journal.specs.declared.event.DriverEvent.{DriverEvent}
use Rattle.resource_check.specs.declared.delivery.Prepared.{Prepared}
use Rattle.listed_patterns.specs.ListedPatterns.{listed_in}
use Rattle.listed_check.specs.ListedAnswers.{IsPreparedWith, stops_at}

-- an event of the driver, and what its payload was read as
pub record ComingView : Type 0 where
  pub event : DriverEvent
  pub prepared : Option Prepared

-- The lines list these texts for a response with this payload, and its checks stop at exactly these where these are refused,
-- each once and in this order.
pub record ListsStops (payload lines : List ℕ) (listed : List (List ℕ)) : Type 0 where
  pub lists : listed_in lines ≡ Some listed
  pub stops : listed ≡ stops_at listed payload

-- the same of any event: one that is no response has none
abbrev pub ListsFor : DriverEvent → List ℕ → List (List ℕ) → Type 0
ListsFor (DriverEvent.Response a payload) lines listed = ListsStops payload lines listed
ListsFor event lines listed = listed ≡ []

abbrev pub refused_of : Prepared → List (List ℕ)
refused_of prepared = prepared.refused

-- a response was prepared where exactly the first so many of these texts were refused
pub record IsPreparedWithPrefix (payload : List ℕ) (texts : List (List ℕ)) (found : Prepared) : Type 0 where
  pub count : ℕ
  pub prepared : IsPreparedWith payload (take count texts) found

-- a response was prepared where exactly a prefix of the texts was refused that the lines list
pub record IsPreparedBy (payload lines : List ℕ) (found : Prepared) : Type 0 where
  pub listed : List (List ℕ)
  pub lists : listed_in lines ≡ Some listed
  pub prepared : IsPreparedWithPrefix payload listed found

-- the builder of patterns tells the texts that it told as refused, or more of them
abbrev pub TellsOn : List (List ℕ) → List (List ℕ) → Type 0
TellsOn told tells = (tells ≡ told) ⊎ (length told < length tells)
