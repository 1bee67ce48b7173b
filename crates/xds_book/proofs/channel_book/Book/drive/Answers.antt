use Rattle.std.proofs.Common.{◌≡◌, ◌<◌, Option, false, refl, sym, ap, ◌∙◌, subst, take}
use Rattle.std.specs.Prelude.{IfSome}
use Rattle.book_calls.specs.xds_history.Setting.{setting_of}
use Rattle.book_calls.specs.xds_history.Pages.{pages}
use Rattle.book_driver.specs.book_streams.StreamsLaws.{authority_in}
use Rattle.book_driver.proofs.StillLemmas.{streams_are_all}
use Rattle.book_driver.specs.ShownTrees.{number_in}
use Rattle.book_driver.specs.declared.configured_trees.Published.{Published}
use Rattle.xds_book.specs.Publishing.{IsComplete}
use Rattle.xds_book.proofs.CallStepLemmas.{view_of}
use Rattle.xds_book.proofs.LaneLemmas.{lane_with}
use Rattle.xds_book.proofs.TextListLemmas.{taken_front}
use Rattle.xds_book.proofs.DriveLemmas.{complete, latest_few, still_steps}
use Rattle.xds_book.proofs.DrivenBook.{drives_by, due_at, entry_is, kept_after_drive, kept_spent, on_err, on_ok}
use Rattle.xds_book.proofs.channel_book.Book.drive.Goals as goal

pub step-requires-clause-known : goal.step-requires-clause-known
step-requires-clause-known g c =
    let s = setting_of g.J.Job.boot g.J.Job.target in
    let past = c.self.inside.journal.entries in
    let going = rw (← c.self.view_is) at c.requires.goes_on in
    let ready = c.self.invariant.ready going in
    subst (λ n. IfSome (authority_in c.args.event) (λ a. a.0 < n)) (sym (streams_are_all s past c.self.inside.driver ready.driver_is)) c.requires.known

pub step-requires-clause-few : goal.step-requires-clause-few
step-requires-clause-few g c =
    let s = setting_of g.J.Job.boot g.J.Job.target in
    let past = c.self.inside.journal.entries in
    let going = rw (← c.self.view_is) at c.requires.goes_on in
    let ready = c.self.invariant.ready going in
    latest_few s past c.latest_number-latest.result c.self.invariant.book.right c.self.invariant.book.few (c.latest_number-latest.ensures g.J.Job.archive (pages s past) ready.calls_are)

pub returns-in_err-stepped-clause-still : goal.returns-in_err-stepped-clause-still
returns-in_err-stepped-clause-still g c =
    let s = setting_of g.J.Job.boot g.J.Job.target in
    let past = c.self.inside.journal.entries in
    let going = rw (← c.self.view_is) at c.requires.goes_on in
    let ready = c.self.invariant.ready going in
    let called = c.call_refs-calls.ensures g.J.Job.archive s past c.self.invariant.book.right ready.calls_are in
    let latest = c.latest_number-latest.ensures g.J.Job.archive (pages s past) ready.calls_are in
    let due = due_at g.J.Job.archive g.J.Job.boot g.J.Job.target past c.call_refs-calls.result c.latest_number-latest.result c.self.inside.calls c.self.inside.turns c.self.inside.driver c.self.invariant.book.listener c.self.invariant.book.right ready called latest in
    λ report still. still_steps s past c.args.event c.args.steps.now c.step.new.steps (λ repeat. c.step.ensures.still s past due repeat) report (rw (← c.self.view_is) at still)

pub returns-in_err-reply-clause-still : goal.returns-in_err-reply-clause-still
returns-in_err-reply-clause-still g c =
    let s = setting_of g.J.Job.boot g.J.Job.target in
    let past = c.self.inside.journal.entries in
    let going = rw (← c.self.view_is) at c.requires.goes_on in
    let ready = c.self.invariant.ready going in
    let called = c.call_refs-calls.ensures g.J.Job.archive s past c.self.invariant.book.right ready.calls_are in
    let latest = c.latest_number-latest.ensures g.J.Job.archive (pages s past) ready.calls_are in
    let due = due_at g.J.Job.archive g.J.Job.boot g.J.Job.target past c.call_refs-calls.result c.latest_number-latest.result c.self.inside.calls c.self.inside.turns c.self.inside.driver c.self.invariant.book.listener c.self.invariant.book.right ready called latest in
    λ report still. still_steps s past c.args.event c.args.steps.now c.step.new.steps (λ repeat. c.step.ensures.still s past due repeat) report (rw (← c.self.view_is) at still)

pub store-requires-after_bounds : goal.store-requires-after_bounds
store-requires-after_bounds g c κs within =
    let s = setting_of g.J.Job.boot g.J.Job.target in
    let past = c.self.inside.journal.entries in
    let going = rw (← c.self.view_is) at c.requires.goes_on in
    let ready = c.self.invariant.ready going in
    let called = c.call_refs-calls.ensures g.J.Job.archive s past c.self.invariant.book.right ready.calls_are in
    let latest = c.latest_number-latest.ensures g.J.Job.archive (pages s past) ready.calls_are in
    let due = due_at g.J.Job.archive g.J.Job.boot g.J.Job.target past c.call_refs-calls.result c.latest_number-latest.result c.self.inside.calls c.self.inside.turns c.self.inside.driver c.self.invariant.book.listener c.self.invariant.book.right ready called latest in
    let at = c.in_ok-stepped.ensures.step s past due in
    subst (λ (p : Option Published). IfSome p IsComplete) (sym c.in_ok-reply.ensures.published) (complete s c.args.event past c.step.new.self.trees.config c.in_ok-stepped.stepped.published at.published)

pub returns-in_err-ticket-clause-still : goal.returns-in_err-ticket-clause-still
returns-in_err-ticket-clause-still g c =
    let s = setting_of g.J.Job.boot g.J.Job.target in
    let past = c.self.inside.journal.entries in
    let going = rw (← c.self.view_is) at c.requires.goes_on in
    let ready = c.self.invariant.ready going in
    let called = c.call_refs-calls.ensures g.J.Job.archive s past c.self.invariant.book.right ready.calls_are in
    let latest = c.latest_number-latest.ensures g.J.Job.archive (pages s past) ready.calls_are in
    let due = due_at g.J.Job.archive g.J.Job.boot g.J.Job.target past c.call_refs-calls.result c.latest_number-latest.result c.self.inside.calls c.self.inside.turns c.self.inside.driver c.self.invariant.book.listener c.self.invariant.book.right ready called latest in
    λ report still. still_steps s past c.args.event c.args.steps.now c.step.new.steps (λ repeat. c.step.ensures.still s past due repeat) report (rw (← c.self.view_is) at still)

pub returns-in_err-add_to_both-clause-still : goal.returns-in_err-add_to_both-clause-still
returns-in_err-add_to_both-clause-still g c =
    let s = setting_of g.J.Job.boot g.J.Job.target in
    let past = c.self.inside.journal.entries in
    let going = rw (← c.self.view_is) at c.requires.goes_on in
    let ready = c.self.invariant.ready going in
    let called = c.call_refs-calls.ensures g.J.Job.archive s past c.self.invariant.book.right ready.calls_are in
    let latest = c.latest_number-latest.ensures g.J.Job.archive (pages s past) ready.calls_are in
    let due = due_at g.J.Job.archive g.J.Job.boot g.J.Job.target past c.call_refs-calls.result c.latest_number-latest.result c.self.inside.calls c.self.inside.turns c.self.inside.driver c.self.invariant.book.listener c.self.invariant.book.right ready called latest in
    λ report still. still_steps s past c.args.event c.args.steps.now c.step.new.steps (λ repeat. c.step.ensures.still s past due repeat) report (rw (← c.self.view_is) at still)

pub invariant_of-self-then-is_err : goal.invariant_of-self-then-is_err
invariant_of-self-then-is_err g c =
    let s = setting_of g.J.Job.boot g.J.Job.target in
    kept_spent g.J.Job.plan g.J.Job.archive s c.self.inside.archive c.self.inside.journal c.self.inside.calls c.publish.new.calls c.store.new.turns c.step.new.self c.self.inside.refused c.truncate.new.self c.self.invariant.book
    (on_err c.publish.result (c.publish.new.calls ≡ c.self.inside.calls) (sym c.is_err.ensures.value ∙ c.if-is_err.true) c.publish.ensures.err)
    (c.truncate.ensures ∙ ap (λ n. take n c.add_to_both.new.one) c.len.ensures ∙ taken_front c.self.inside.refused _ c.add_to_both.new.one c.in_ok-add_to_both.ensures.one)

pub returns-then-is_err-clause-still : goal.returns-then-is_err-clause-still
returns-then-is_err-clause-still g c =
    let s = setting_of g.J.Job.boot g.J.Job.target in
    let past = c.self.inside.journal.entries in
    let going = rw (← c.self.view_is) at c.requires.goes_on in
    let ready = c.self.invariant.ready going in
    let called = c.call_refs-calls.ensures g.J.Job.archive s past c.self.invariant.book.right ready.calls_are in
    let latest = c.latest_number-latest.ensures g.J.Job.archive (pages s past) ready.calls_are in
    let due = due_at g.J.Job.archive g.J.Job.boot g.J.Job.target past c.call_refs-calls.result c.latest_number-latest.result c.self.inside.calls c.self.inside.turns c.self.inside.driver c.self.invariant.book.listener c.self.invariant.book.right ready called latest in
    λ report still. still_steps s past c.args.event c.args.steps.now c.step.new.steps (λ repeat. c.step.ensures.still s past due repeat) report (rw (← c.self.view_is) at still)

pub invariant_of-self-2 : goal.invariant_of-self-2
invariant_of-self-2 g c =
    let s = setting_of g.J.Job.boot g.J.Job.target in
    let past = c.self.inside.journal.entries in
    let going = rw (← c.self.view_is) at c.requires.goes_on in
    let ready = c.self.invariant.ready going in
    let called = c.call_refs-calls.ensures g.J.Job.archive s past c.self.invariant.book.right ready.calls_are in
    let latest = c.latest_number-latest.ensures g.J.Job.archive (pages s past) ready.calls_are in
    let due = due_at g.J.Job.archive g.J.Job.boot g.J.Job.target past c.call_refs-calls.result c.latest_number-latest.result c.self.inside.calls c.self.inside.turns c.self.inside.driver c.self.invariant.book.listener c.self.invariant.book.right ready called latest in
    let at = c.in_ok-stepped.ensures.step s past due in
    let actor : c.lane.inside.actor ≡ 0 = rw (← c.lane.view_is) at c.requires.driver in
    let get = rw (← c.self.view_is, ← c.lane.view_is) at c.requires.counted in
    let listed = rw (← c.self.view_is, ← c.lane.view_is) at c.requires.next in
    let few = rw (← c.self.view_is) at c.requires.few in
    let went = sym c.is_err.ensures.value ∙ c.if-is_err.false in
    let stored = rw (c.get.ensures, c.self.invariant.book.archive_is) at c.in_ok-ticket.ensures.stored in
    let publishes = rw (c.get-3.ensures, c.self.invariant.book.archive_is) at (on_ok c.publish.result _ went c.publish.ensures.kept) in
    let entries = entry_is past c.add_entry.new.journal.entries c.lane.inside.actor c.args.line c.args.event c.in_ok-stepped.stepped (number_in c.in_ok-stepped.stepped.published) actor refl (rw (c.in_ok-reply.ensures.reply) at c.add_entry.ensures.entries) in
    kept_after_drive g.J.Job.plan g.J.Job.archive g.J.Job.boot g.J.Job.target c.self.inside.archive c.self.inside.journal c.add_entry.new.journal c.self.inside.calls c.publish.new.calls c.self.inside.turns c.store.new.turns
    c.self.inside.driver c.step.new.self c.self.inside.refused c.add_to_both.new.one c.in_ok-ticket.ticket c.lane.inside.count c.args.line c.args.event c.args.prepared c.in_ok-stepped.stepped c.self.invariant.book ready
    (rw (actor) at get) (rw (actor) at listed) few
    (record {
      at = at;
      renews = rw (c.in_ok-reply.ensures.published) at c.in_ok-ticket.ensures.turns;
      value = rw (c.in_ok-reply.ensures.published) at c.in_ok-ticket.ensures.value;
      stored = stored;
      publishes = publishes;
      tickets = on_ok c.publish.result _ went c.publish.ensures.tickets;
      texts_are = rw (c.as_slice.ensures, c.get-2.ensures, c.in_ok-reply.ensures.reply) at c.in_ok-add_to_both.ensures.one;
      entries = entries;
      counts = c.add_entry.ensures.counts;
    })

pub returns-clause-entry : goal.returns-clause-entry
returns-clause-entry g c =
    let s = setting_of g.J.Job.boot g.J.Job.target in
    let past = c.self.inside.journal.entries in
    let going = rw (← c.self.view_is) at c.requires.goes_on in
    let ready = c.self.invariant.ready going in
    let called = c.call_refs-calls.ensures g.J.Job.archive s past c.self.invariant.book.right ready.calls_are in
    let latest = c.latest_number-latest.ensures g.J.Job.archive (pages s past) ready.calls_are in
    let due = due_at g.J.Job.archive g.J.Job.boot g.J.Job.target past c.call_refs-calls.result c.latest_number-latest.result c.self.inside.calls c.self.inside.turns c.self.inside.driver c.self.invariant.book.listener c.self.invariant.book.right ready called latest in
    let at = c.in_ok-stepped.ensures.step s past due in
    let view = view_of c.self.inside.journal c.self.inside.calls.tickets c.self.inside.is_spent in
    let new = view_of c.add_entry.new.journal c.publish.new.calls.tickets false in
    let lane = lane_with c.lane.inside.actor c.lane.inside.refused c.lane.inside.count in
    rw (← c.self.view_is, ← c.lane.view_is)
    (drives_by s past c.args.line c.args.event c.args.prepared c.in_ok-stepped.stepped c.step.new.self view new lane c.add_entry.new.lane (number_in c.in_ok-stepped.stepped.published) c.add_to_both.new.other at refl
    (rw (c.in_ok-reply.ensures.reply) at c.add_entry.ensures.entries) c.add_entry.ensures.counts c.add_entry.ensures.spare refl going c.add_entry.ensures.lane (rw (c.as_slice.ensures, c.get-2.ensures, c.in_ok-reply.ensures.reply) at c.in_ok-add_to_both.ensures.other) c.add_entry.ensures.counted)

pub returns-clause-still : goal.returns-clause-still
returns-clause-still g c =
    let s = setting_of g.J.Job.boot g.J.Job.target in
    let past = c.self.inside.journal.entries in
    let going = rw (← c.self.view_is) at c.requires.goes_on in
    let ready = c.self.invariant.ready going in
    let called = c.call_refs-calls.ensures g.J.Job.archive s past c.self.invariant.book.right ready.calls_are in
    let latest = c.latest_number-latest.ensures g.J.Job.archive (pages s past) ready.calls_are in
    let due = due_at g.J.Job.archive g.J.Job.boot g.J.Job.target past c.call_refs-calls.result c.latest_number-latest.result c.self.inside.calls c.self.inside.turns c.self.inside.driver c.self.invariant.book.listener c.self.invariant.book.right ready called latest in
    λ report still. still_steps s past c.args.event c.args.steps.now c.step.new.steps (λ repeat. c.step.ensures.still s past due repeat) report (rw (← c.self.view_is) at still)

pub returns-clause-tickets : goal.returns-clause-tickets
returns-clause-tickets g c =
    let went = sym c.is_err.ensures.value ∙ c.if-is_err.false in
    rw (← c.self.view_is)
    (taken_front c.self.inside.calls.tickets _ c.publish.new.calls.tickets (on_ok c.publish.result _ went c.publish.ensures.tickets))
