use Rattle.book_trees.specs.xds_history.Pages.{page_of, pages}
use Rattle.book_picks.proofs.RenewedLemmas.{page_of_snapshot, renewed}
use Rattle.book_picks.proofs.kept_turns.Turns.renew.Goals as goal

pub returns : goal.returns
returns c s past e are published serves marked =
    renewed (pages s past) (page_of s e e.what past (pages s past)) c.args.snapshot.now c.args.trees.now c.args.marks.now c.args.self.now c.renew_rows.new.self are
    (page_of_snapshot s past e c.args.snapshot.now published) serves (marked c.if-is_renamed.false) c.in_ok-renew_rows.ensures
