use Rattle.book_progress.proofs.TallyLemmas.{counted}
use Rattle.book_progress.proofs.progress.count_entry.Goals as goal

pub returns : goal.returns
returns c = λ n past is. counted n c.args.entry.now past c.args.counts.now.items c.put_count.new.counts.items c.count_in-count.result c.count_after-next.result c.count_in-count.ensures c.count_after-next.ensures c.put_count.ensures is
