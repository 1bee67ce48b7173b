-- Plans whose actors have played all that is listed for them (this project's own).
use Rattle.std.specs.Prelude.{◌≡◌, ◌<◌, ℕ, List, Some, slice_get}
use Rattle.call_journal.specs.declared.plan.Count.{Count}
use Rattle.call_journal.specs.declared.plan.Listed.{Listed}
pub use Rattle.book_progress.specs.PlayedPlans.{all_ended}

-- so many of the first actors have ended all events of their lists
abbrev pub HaveEndedTo : ℕ → List (List Listed) → List Count → Type 0
HaveEndedTo actors lists counts = (actor : ℕ) (list : List Listed) → actor < actors → slice_get lists actor ≡ Some list → slice_get counts actor ≡ Some (all_ended list)
