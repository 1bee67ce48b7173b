use Rattle.std.proofs.Common.{refl, ◌∙◌}
use Rattle.call_journal.specs.declared.event.CallerEvent.{CallerEvent}
use Rattle.book_calls.specs.xds_history.Setting.{setting_of}
use Rattle.book_calls.specs.xds_history.Pages.{pages}
use Rattle.xds_book.proofs.CallStepLemmas.{call_next, left_ready, kept_after_call, makes_call, opened}
use Rattle.xds_book.proofs.channel_book.Book.commit.Goals as goal

pub invariant_of-self : goal.invariant_of-self
invariant_of-self g c =
    let s = setting_of g.J.Job.boot g.J.Job.target in
    let past = c.self.inside.journal.entries in
    let o = opened c.args.self.now c.make_room.new.self _ c.self.view_is c.make_room.ensures.none c.make_room.ensures.spent c.in_ok-make_room.ensures.goes_on c.in_ok-make_room.ensures.few in
    let ready = c.self.invariant.ready o.going in
    let kept = ready.calls_are in
    let is = c.commit_reply-reply.ensures ∙ c.commit.ensures.reply g.J.Job.archive (pages s past) kept in
    kept_after_call g.J.Job.plan g.J.Job.archive s c.self.inside.archive c.self.inside.journal c.add_entry.new.journal c.self.inside.calls c.commit.new.self c.self.inside.turns c.self.inside.turns c.self.inside.driver c.self.inside.refused c.self.inside.is_spent
    c.args.lane.now.actor c.args.line (CallerEvent.Commit c.args.call) c.commit_reply-reply.result c.self.invariant
    (call_next g.J.Job.plan s c.args.self.now _ c.args.lane.now c.args.line (CallerEvent.Commit c.args.call) c.commit_reply-reply.result o c.self.invariant.book.counted c.requires.counted c.requires.caller c.requires.next is)
    c.add_entry.ensures.counts c.add_entry.ensures.entries c.commit.ensures.tickets
    (λ going. left_ready g.J.Job.archive s past c.args.lane.now.actor c.args.line (CallerEvent.Commit c.args.call) c.commit_reply-reply.result c.self.inside.calls c.commit.new.self c.self.inside.turns c.self.inside.driver tt ready (c.commit.ensures.kept g.J.Job.archive s past c.args.lane.now.actor c.args.line c.commit_reply-reply.result kept))

pub returns-clause-entry : goal.returns-clause-entry
returns-clause-entry g c =
    let s = setting_of g.J.Job.boot g.J.Job.target in
    let past = c.self.inside.journal.entries in
    let o = opened c.args.self.now c.make_room.new.self _ c.self.view_is c.make_room.ensures.none c.make_room.ensures.spent c.in_ok-make_room.ensures.goes_on c.in_ok-make_room.ensures.few in
    let ready = c.self.invariant.ready o.going in
    let kept = ready.calls_are in
    let is = c.commit_reply-reply.ensures ∙ c.commit.ensures.reply g.J.Job.archive (pages s past) kept in
    makes_call s c.args.line (CallerEvent.Commit c.args.call) c.commit_reply-reply.result c.args.self.now _ _ c.args.lane.now c.add_entry.new.lane o
    (record { entries = c.add_entry.ensures.entries; counts = c.add_entry.ensures.counts; spare = c.add_entry.ensures.spare; same = refl; lane = c.add_entry.ensures.lane; counted = c.add_entry.ensures.counted }) is

pub returns-clause-reply : goal.returns-clause-reply
returns-clause-reply g c =
    let s = setting_of g.J.Job.boot g.J.Job.target in
    let past = c.self.inside.journal.entries in
    let o = opened c.args.self.now c.make_room.new.self _ c.self.view_is c.make_room.ensures.none c.make_room.ensures.spent c.in_ok-make_room.ensures.goes_on c.in_ok-make_room.ensures.few in
    let ready = c.self.invariant.ready o.going in
    let kept = ready.calls_are in
    rw (← o.entries) (c.commit_reply-reply.ensures ∙ c.commit.ensures.reply g.J.Job.archive (pages s past) kept)
