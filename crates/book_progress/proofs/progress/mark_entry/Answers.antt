use Rattle.book_progress.proofs.TallyLemmas.{ends_stay, marked}
use Rattle.std.proofs.Common.{sym, ◌∙◌}
use Rattle.book_progress.proofs.progress.mark_entry.Goals as goal

pub returns-then-ends_line : goal.returns-then-ends_line
returns-then-ends_line c = λ n past is. marked n c.args.entry.now past c.args.ended.now.items _ (sym c.ends_line.ensures ∙ c.if-ends_line.true) c.mark_ended.ensures.within c.mark_ended.ensures.past is

pub returns-else-ends_line : goal.returns-else-ends_line
returns-else-ends_line c = λ n past is. ends_stay n c.args.entry.now past c.args.ended.now.items (sym c.ends_line.ensures ∙ c.if-ends_line.false) is
