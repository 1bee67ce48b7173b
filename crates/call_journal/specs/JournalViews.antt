-- A journal, as contracts see it.
use Rattle.std.specs.Prelude.{List, ℕ}
use Rattle.call_journal.specs.declared.entry.Entry.{Entry}

-- the entries with the newest first, and how many more it takes without memory
pub record JournalView : Type 0 where
  pub entries : List Entry
  pub spare : ℕ
