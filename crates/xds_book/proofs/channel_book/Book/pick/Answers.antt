use Rattle.std.proofs.Common.{refl}
use Rattle.std.specs.Prelude.{option_copied}
use Rattle.call_journal.specs.declared.event.CallerEvent.{CallerEvent}
use Rattle.call_journal.specs.declared.entry.What.{What}
use Rattle.book_calls.specs.xds_history.Setting.{setting_of}
use Rattle.book_calls.specs.xds_history.Pages.{pages}
use Rattle.xds_book.specs.BookEntries.{entry_of}
use Rattle.xds_book.proofs.CallStepLemmas.{call_next, kept_after_call, makes_call, opened, picked_ready}
use Rattle.xds_book.proofs.KeptPicks.{few_less, pick_at}
use Rattle.xds_book.proofs.channel_book.Book.pick.Goals as goal

pub invariant_of-self : goal.invariant_of-self
invariant_of-self g c =
    let s = setting_of g.J.Job.boot g.J.Job.target in
    let past = c.self.inside.journal.entries in
    let o = opened c.args.self.now c.make_room.new.self _ c.self.view_is c.make_room.ensures.none c.make_room.ensures.spent c.in_ok-make_room.ensures.goes_on c.in_ok-make_room.ensures.few in
    let ready = c.self.invariant.ready o.going in
    let at = pick_at g.J.Job.archive g.J.Job.boot g.J.Job.target past c.args.call (option_copied c.held-cluster.result) (option_copied c.latest_of-snapshot.result) c.self.inside.calls c.self.invariant.book.listener c.self.invariant.book.right
    ready.calls_are (c.held-cluster.ensures g.J.Job.archive (pages s past) ready.calls_are) c.latest_of-snapshot.ensures.value in
    let is = c.pick-reply.ensures.reply (pages s past) c.args.call ready.turns_are at in
    let event = CallerEvent.Pick c.args.call c.args.word in
    let after = c.pick-reply.ensures.kept s past (entry_of c.args.lane.now.actor c.args.line (What.Caller event c.pick-reply.result)) c.args.call ready.turns_are at (few_less past c.self.invariant.book.few) refl in
    kept_after_call g.J.Job.plan g.J.Job.archive s c.self.inside.archive c.self.inside.journal c.add_entry.new.journal c.self.inside.calls c.self.inside.calls c.self.inside.turns c.pick-reply.new.self c.self.inside.driver c.self.inside.refused c.self.inside.is_spent
    c.args.lane.now.actor c.args.line event c.pick-reply.result c.self.invariant
    (call_next g.J.Job.plan s c.args.self.now _ c.args.lane.now c.args.line event c.pick-reply.result o c.self.invariant.book.counted c.requires.counted c.requires.caller c.requires.next is)
    c.add_entry.ensures.counts c.add_entry.ensures.entries refl
    (λ going. picked_ready g.J.Job.archive s past c.args.lane.now.actor c.args.line c.args.call c.args.word c.pick-reply.result c.self.inside.calls c.self.inside.turns c.pick-reply.new.self c.self.inside.driver ready after)

pub returns-clause-entry : goal.returns-clause-entry
returns-clause-entry g c =
    let s = setting_of g.J.Job.boot g.J.Job.target in
    let past = c.self.inside.journal.entries in
    let o = opened c.args.self.now c.make_room.new.self _ c.self.view_is c.make_room.ensures.none c.make_room.ensures.spent c.in_ok-make_room.ensures.goes_on c.in_ok-make_room.ensures.few in
    let ready = c.self.invariant.ready o.going in
    let at = pick_at g.J.Job.archive g.J.Job.boot g.J.Job.target past c.args.call (option_copied c.held-cluster.result) (option_copied c.latest_of-snapshot.result) c.self.inside.calls c.self.invariant.book.listener c.self.invariant.book.right
    ready.calls_are (c.held-cluster.ensures g.J.Job.archive (pages s past) ready.calls_are) c.latest_of-snapshot.ensures.value in
    let is = c.pick-reply.ensures.reply (pages s past) c.args.call ready.turns_are at in
    makes_call s c.args.line (CallerEvent.Pick c.args.call c.args.word) c.pick-reply.result c.args.self.now _ _ c.args.lane.now c.add_entry.new.lane o
    (record { entries = c.add_entry.ensures.entries; counts = c.add_entry.ensures.counts; spare = c.add_entry.ensures.spare; same = refl; lane = c.add_entry.ensures.lane; counted = c.add_entry.ensures.counted }) is

pub returns-clause-reply : goal.returns-clause-reply
returns-clause-reply g c =
    let s = setting_of g.J.Job.boot g.J.Job.target in
    let past = c.self.inside.journal.entries in
    let o = opened c.args.self.now c.make_room.new.self _ c.self.view_is c.make_room.ensures.none c.make_room.ensures.spent c.in_ok-make_room.ensures.goes_on c.in_ok-make_room.ensures.few in
    let ready = c.self.invariant.ready o.going in
    let at = pick_at g.J.Job.archive g.J.Job.boot g.J.Job.target past c.args.call (option_copied c.held-cluster.result) (option_copied c.latest_of-snapshot.result) c.self.inside.calls c.self.invariant.book.listener c.self.invariant.book.right
    ready.calls_are (c.held-cluster.ensures g.J.Job.archive (pages s past) ready.calls_are) c.latest_of-snapshot.ensures.value in
    let is = c.pick-reply.ensures.reply (pages s past) c.args.call ready.turns_are at in
    rw (← o.entries) is
