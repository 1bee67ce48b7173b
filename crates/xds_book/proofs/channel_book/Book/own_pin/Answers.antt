use Rattle.std.specs.Prelude.{option_copied}
use Rattle.book_calls.specs.xds_history.Setting.{setting_of}
use Rattle.book_calls.specs.xds_history.Pages.{pages}
use Rattle.std.proofs.Common.{refl}
use Rattle.xds_book.proofs.CallStepLemmas.{own_pin_is}
use Rattle.xds_book.proofs.channel_book.Book.own_pin.Goals as goal

pub returns-clause-number : goal.returns-clause-number
returns-clause-number g c =
    let going = rw (← c.self.view_is) at c.requires in
    rw (← c.self.view_is) (c.pinned-pin.ensures.number g.J.Job.archive (pages (setting_of g.J.Job.boot g.J.Job.target) c.self.inside.journal.entries) (c.self.invariant.ready going).calls_are)

pub returns-clause-some : goal.returns-clause-some
returns-clause-some g c =
    let s = setting_of g.J.Job.boot g.J.Job.target in
    let going = rw (← c.self.view_is) at c.requires in
    let kept = (c.self.invariant.ready going).calls_are in
    own_pin_is g.J.Job.archive s _ c.args.self.now c.self.inside.calls c.args.call (option_copied c.pinned-pin.result) c.self.view_is refl c.self.invariant.book.right kept c.self.invariant.book.lawful
    (c.pinned-pin.ensures.number g.J.Job.archive (pages s c.self.inside.journal.entries) kept) c.pinned-pin.ensures.reads c.pinned-pin.ensures.ticket c.pinned-pin.ensures.own
