use Rattle.std.proofs.Common.{sym, ◌∙◌, arith}
use Rattle.std.specs.Prelude.{◌==◌, ◌&&◌}
use Rattle.book_progress.specs.EndedLines.{ends_line}
use Rattle.book_progress.proofs.EndLemmas.{found_reversed, none_reversed}
use Rattle.book_progress.proofs.counted_journal.is_ended_in.Goals as goal

pub returns-then-is_end : goal.returns-then-is_end
returns-then-is_end c = sym (found_reversed (λ e. e.line == c.args.line && ends_line e.what) c.args.journal.now.entries c.loop-place.place _ c.at.ensures (sym c.is_end.ensures ∙ c.if-is_end.true))

pub returns : goal.returns
returns c = sym (none_reversed (λ e. e.line == c.args.line && ends_line e.what) c.args.journal.now.entries c.loop-place.place (omega (arith, c.len-place-end.ensures, c.loop-place-test.false)) c.loop-place.invariant)
