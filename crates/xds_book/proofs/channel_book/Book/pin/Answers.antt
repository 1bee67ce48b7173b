use Rattle.std.proofs.Common.{◌≡◌, List, refl, ◌∙◌, ap, subst}
use Rattle.std.specs.Prelude.{IfSome}
use Rattle.boxcar.specs.Table.{Where}
use Rattle.cluster_tree.specs.declared.snapshot.Snapshot.{Snapshot}
use Rattle.call_journal.specs.declared.entry.Entry.{Entry}
use Rattle.book_calls.specs.xds_history.Page.{latest}
use Rattle.book_calls.specs.CallsKept.{IsTicketAt}
use Rattle.call_journal.specs.declared.event.CallerEvent.{CallerEvent}
use Rattle.book_calls.specs.xds_history.Setting.{setting_of}
use Rattle.book_calls.specs.xds_history.Pages.{pages}
use Rattle.book_calls.specs.xds_history.Right.{caller_reply}
use Rattle.xds_book.proofs.CallStepLemmas.{call_next, fault_ready, left_ready, kept_after_call, kept_after_fault, makes_call, new_lawful, new_stored, opened, token_is, view_of}
use Rattle.xds_book.proofs.channel_book.Book.pin.Goals as goal

pub invariant_of-self : goal.invariant_of-self
invariant_of-self g c =
    let s = setting_of g.J.Job.boot g.J.Job.target in
    let past = c.self.inside.journal.entries in
    let o = opened c.args.self.now c.make_room.new.self _ c.self.view_is c.make_room.ensures.none c.make_room.ensures.spent c.in_ok-make_room.ensures.goes_on c.in_ok-make_room.ensures.few in
    let ready = c.self.invariant.ready o.going in
    let kept = ready.calls_are in
    let free = rw (← o.entries) at c.requires.free in
    let err = rw (c.get-2.ensures, c.get.ensures, c.self.invariant.book.archive_is) at c.in_err-pin.ensures.err in
    kept_after_fault g.J.Job.plan g.J.Job.archive s c.self.inside.archive c.self.inside.journal c.self.inside.calls c.pin.new.self c.self.inside.turns c.self.inside.turns c.self.inside.driver c.self.inside.refused c.self.inside.is_spent c.self.invariant c.pin.ensures.tickets
    (λ going. fault_ready g.J.Job.archive s past c.self.inside.calls c.pin.new.self c.self.inside.turns c.self.inside.driver ready (err (pages s past) free kept))

pub token_of-requires-clause-stored : goal.token_of-requires-clause-stored
token_of-requires-clause-stored g c = new_stored g.J.Job.archive c.self.inside.calls.tickets c.in_ok-pin.pin c.self.invariant.book.stored c.in_ok-pin.ensures.own

pub token_of-requires-clause-lawful : goal.token_of-requires-clause-lawful
token_of-requires-clause-lawful g c = new_lawful c.self.inside.calls.tickets c.in_ok-pin.pin c.self.invariant.book.lawful c.in_ok-pin.ensures.own

pub invariant_of-self-2 : goal.invariant_of-self-2
invariant_of-self-2 g c =
    let s = setting_of g.J.Job.boot g.J.Job.target in
    let past = c.self.inside.journal.entries in
    let o = opened c.args.self.now c.make_room.new.self _ c.self.view_is c.make_room.ensures.none c.make_room.ensures.spent c.in_ok-make_room.ensures.goes_on c.in_ok-make_room.ensures.few in
    let ready = c.self.invariant.ready o.going in
    let kept = ready.calls_are in
    let free = rw (← o.entries) at c.requires.free in
    let idle = rw (← o.entries) at c.requires.idle in
    let told = rw (c.get.ensures, c.self.invariant.book.archive_is) at c.in_ok-pin.ensures.reply in
    let is : c.pin_reply-reply.result ≡ caller_reply (pages s past) (CallerEvent.Pin c.args.call) = c.pin_reply-reply.ensures ∙ told (pages s past) kept in
    let after = rw (c.get-2.ensures, c.get.ensures, c.self.invariant.book.archive_is) at c.in_ok-pin.ensures.kept in
    kept_after_call g.J.Job.plan g.J.Job.archive s c.self.inside.archive c.self.inside.journal c.add_entry.new.journal c.self.inside.calls c.pin.new.self c.self.inside.turns c.self.inside.turns c.self.inside.driver c.self.inside.refused c.self.inside.is_spent
    c.args.lane.now.actor c.args.line (CallerEvent.Pin c.args.call) c.pin_reply-reply.result c.self.invariant
    (call_next g.J.Job.plan s c.args.self.now _ c.args.lane.now c.args.line (CallerEvent.Pin c.args.call) c.pin_reply-reply.result o c.self.invariant.book.counted c.requires.counted c.requires.caller c.requires.next is)
    c.add_entry.ensures.counts c.add_entry.ensures.entries c.pin.ensures.tickets
    (λ going. left_ready g.J.Job.archive s past c.args.lane.now.actor c.args.line (CallerEvent.Pin c.args.call) c.pin_reply-reply.result c.self.inside.calls c.pin.new.self c.self.inside.turns c.self.inside.driver tt ready (after s past c.args.lane.now.actor c.args.line c.pin_reply-reply.result c.self.invariant.book.right free idle is kept))

pub returns-clause-entry : goal.returns-clause-entry
returns-clause-entry g c =
    let s = setting_of g.J.Job.boot g.J.Job.target in
    let past = c.self.inside.journal.entries in
    let o = opened c.args.self.now c.make_room.new.self _ c.self.view_is c.make_room.ensures.none c.make_room.ensures.spent c.in_ok-make_room.ensures.goes_on c.in_ok-make_room.ensures.few in
    let ready = c.self.invariant.ready o.going in
    let kept = ready.calls_are in
    let free = rw (← o.entries) at c.requires.free in
    let idle = rw (← o.entries) at c.requires.idle in
    let told = rw (c.get.ensures, c.self.invariant.book.archive_is) at c.in_ok-pin.ensures.reply in
    let is : c.pin_reply-reply.result ≡ caller_reply (pages s past) (CallerEvent.Pin c.args.call) = c.pin_reply-reply.ensures ∙ told (pages s past) kept in
    makes_call s c.args.line (CallerEvent.Pin c.args.call) c.pin_reply-reply.result c.args.self.now _ _ c.args.lane.now c.add_entry.new.lane o
    (record { entries = c.add_entry.ensures.entries; counts = c.add_entry.ensures.counts; spare = c.add_entry.ensures.spare; same = refl; lane = c.add_entry.ensures.lane; counted = c.add_entry.ensures.counted }) is

pub returns-clause-token : goal.returns-clause-token
returns-clause-token g c =
    let s = setting_of g.J.Job.boot g.J.Job.target in
    let past = c.self.inside.journal.entries in
    let view = view_of c.self.inside.journal c.self.inside.calls.tickets c.self.inside.is_spent in
    let new = view_of c.add_entry.new.journal c.pin.new.self.tickets c.self.inside.is_spent in
    let o = opened c.args.self.now c.make_room.new.self view c.self.view_is c.make_room.ensures.none c.make_room.ensures.spent c.in_ok-make_room.ensures.goes_on c.in_ok-make_room.ensures.few in
    let ready = c.self.invariant.ready o.going in
    let kept = ready.calls_are in
    let free = rw (← o.entries) at c.requires.free in
    let idle = rw (← o.entries) at c.requires.idle in
    let told = rw (c.get.ensures, c.self.invariant.book.archive_is) at c.in_ok-pin.ensures.reply in
    let is : c.pin_reply-reply.result ≡ caller_reply (pages s past) (CallerEvent.Pin c.args.call) = c.pin_reply-reply.ensures ∙ told (pages s past) kept in
    let reads = rw (c.get.ensures, c.self.invariant.book.archive_is) at c.in_ok-pin.ensures.reads in
    let makes = makes_call s c.args.line (CallerEvent.Pin c.args.call) c.pin_reply-reply.result c.args.self.now view new c.args.lane.now c.add_entry.new.lane o
    (record { entries = c.add_entry.ensures.entries; counts = c.add_entry.ensures.counts; spare = c.add_entry.ensures.spare; same = refl; lane = c.add_entry.ensures.lane; counted = c.add_entry.ensures.counted }) is in
    token_is s c.args.self.now new c.args.lane.now.actor c.args.line c.args.call c.in_ok-pin.pin c.token_of.result makes.entries (c.pin.ensures.tickets ∙ o.tickets)
    (told (pages s past) kept ∙ ap (λ (h : List Entry). caller_reply (pages s h) (CallerEvent.Pin c.args.call)) o.entries)
    (reads (pages s past) kept ∙ ap (λ (h : List Entry). latest (pages s h)) o.entries)
    (subst (λ (ts : List (Where Snapshot)). IfSome c.in_ok-pin.pin (λ p. IsTicketAt ts p.number p.ticket)) o.tickets c.in_ok-pin.ensures.own)
    (rw (c.in_ok-kept.ensures) at c.token_of.ensures)
