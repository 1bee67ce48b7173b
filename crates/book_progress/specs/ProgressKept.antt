-- What is kept of the actors' counts and of ended lines, and what it is of a history.
use Rattle.std.specs.Prelude.{◌≡◌, ◌≤◌, ℕ, ◌+◌, List, Bool, length, map}
use Rattle.std.specs.List.{range_with_len}
use Rattle.call_journal.specs.declared.entry.Entry.{Entry}
use Rattle.call_journal.specs.declared.plan.Count.{Count}
use Rattle.book_progress.specs.ActorCounts.{count_of}
use Rattle.book_progress.specs.EndedLines.{has_ended}

-- a count for each actor, and for each of the first lines whether it has ended
pub record Tally : Type 0 where
  pub counts : List Count
  pub ended : List Bool

-- the counts of so many actors
abbrev pub counts_of : ℕ → List Entry → List Count
counts_of actors history = map (λ actor. count_of actor history) (range_with_len 0 actors)

-- whether each of so many lines has ended
abbrev pub ends_of : ℕ → List Entry → List Bool
ends_of lines history = map (λ line. has_ended line history) (range_with_len 0 lines)

-- the tally of so many actors and lines over a history
abbrev pub tally_of : ℕ → ℕ → List Entry → Tally
tally_of actors lines history = record { counts = counts_of actors history; ended = ends_of lines history }

-- an actor counts no more events and pins than there are entries
abbrev pub CountsAreFew : Type 0
CountsAreFew = (actor : ℕ) (history : List Entry) → (count_of actor history).ended + (count_of actor history).pins ≤ length history

-- the most entries that a journal of a channel has
abbrev pub most_entries : ℕ
most_entries = 1048576

-- A journal with a count for each actor: the entries with the newest first, and how many more it takes without memory.
pub record CountedView : Type 0 where
  pub entries : List Entry
  pub spare : ℕ
  pub counts : List Count

-- the tally is that of the entries, which aren't too many
pub record IsCounted (entries : List Entry) (tally : Tally) : Type 0 where
  pub tally_is : tally ≡ tally_of (length tally.counts) (length tally.ended) entries
  pub few : length entries ≤ most_entries
