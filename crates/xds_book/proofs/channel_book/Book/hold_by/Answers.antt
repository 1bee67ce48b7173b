use Rattle.std.proofs.Common.{◌≡◌, ◌∙◌, ap}
use Rattle.call_journal.specs.declared.event.CallerEvent.{CallerEvent}
use Rattle.book_calls.specs.xds_history.Setting.{setting_of}
use Rattle.book_calls.specs.xds_history.Pages.{pages}
use Rattle.book_calls.specs.xds_history.Right.{caller_reply}
use Rattle.book_calls.specs.CallsKept.{IsRouted}
use Rattle.xds_book.specs.BookViews.{PinnedView}
use Rattle.xds_book.proofs.CallStepLemmas.{call_next, left_ready, kept_after_call, opened}
use Rattle.xds_book.proofs.channel_book.Book.hold_by.Goals as goal

pub invariant_of-self-2 : goal.invariant_of-self-2
invariant_of-self-2 g c =
    let s = setting_of g.J.Job.boot g.J.Job.target in
    let past = c.self.inside.journal.entries in
    let o = opened c.args.self.now c.make_room.new.self _ c.self.view_is c.make_room.ensures.none c.make_room.ensures.spent c.in_ok-make_room.ensures.goes_on c.in_ok-make_room.ensures.few in
    let ready = c.self.invariant.ready o.going in
    let kept = ready.calls_are in
    let call = c.in_ok-call.call in
    let same : c.in_ok-call.call ≡ c.args.token.now.call = c.in_ok-call.ensures ∙ ap (λ (t : PinnedView). t.call) c.token.view_is in
    let next = rw (← same) at c.requires.next in
    let routed : IsRouted (pages s past) c.in_ok-call.call c.in_ok-answer.answer = rw (← same, ← c.self.view_is) at c.in_ok-answer.ensures.routed in
    let told = rw (c.get-2.ensures, c.get.ensures, c.self.invariant.book.archive_is) at c.in_ok-reply.ensures.reply in
    let is : c.in_ok-reply.reply ≡ caller_reply (pages s past) (CallerEvent.Hold c.in_ok-call.call) = told s past c.self.invariant.book.right routed kept in
    let after = rw (c.get-2.ensures, c.get.ensures, c.self.invariant.book.archive_is) at c.in_ok-reply.ensures.kept in
    kept_after_call g.J.Job.plan g.J.Job.archive s c.self.inside.archive c.self.inside.journal c.add_entry.new.journal c.self.inside.calls c.hold.new.self c.self.inside.turns c.self.inside.turns c.self.inside.driver c.self.inside.refused c.self.inside.is_spent
    c.args.lane.now.actor c.args.line (CallerEvent.Hold call) c.in_ok-reply.reply c.self.invariant
    (call_next g.J.Job.plan s c.args.self.now _ c.args.lane.now c.args.line (CallerEvent.Hold call) c.in_ok-reply.reply o c.self.invariant.book.counted c.requires.counted c.requires.caller next is)
    c.add_entry.ensures.counts c.add_entry.ensures.entries c.hold.ensures.tickets
    (λ going. left_ready g.J.Job.archive s past c.args.lane.now.actor c.args.line (CallerEvent.Hold call) c.in_ok-reply.reply c.self.inside.calls c.hold.new.self c.self.inside.turns c.self.inside.driver tt ready (after s past c.args.lane.now.actor c.args.line c.in_ok-reply.reply c.self.invariant.book.right routed is kept))
