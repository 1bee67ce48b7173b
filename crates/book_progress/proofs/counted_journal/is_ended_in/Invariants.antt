use Rattle.std.specs.Prelude.{◌==◌, ◌&&◌, reverse}
use Rattle.book_progress.specs.EndedLines.{ends_line}
use Rattle.book_progress.proofs.EndLemmas.{NoneFound}
use Rattle.book_progress.proofs.counted_journal.is_ended_in.Given as goal

abbrev pub invariant-loop-place : goal.invariant-loop-place
invariant-loop-place l = NoneFound (λ e. e.line == l.line && ends_line e.what) (reverse l.journal.entries) l.place
