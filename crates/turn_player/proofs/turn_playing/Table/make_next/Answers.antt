use Rattle.std.proofs.Common.{rules, length, ◌∙◌}
use Rattle.book_progress.specs.ProgressKept.{most_entries}
use Rattle.turn_player.specs.DueEvents.{event_of, texts_in}
use Rattle.turn_player.proofs.PlayLemmas.{due_free, due_next, next_made, prepared_can, prepared_of, short_on}
use Rattle.turn_player.proofs.turn_playing.Table.make_next.Goals as goal

pub due_of-requires : goal.due_of-requires
due_of-requires g c =
    search
    (rules, short_on g.J.Job.plan (length g.J.Job.boot.authorities) most_entries c.args.turn.actor c.args.turn.line c.args.book.now c.args.self.now c.args.listed.now c.requires.fits c.requires.next)

pub make-requires-clause-next : goal.make-requires-clause-next
make-requires-clause-next g c κs within =
    due_next g.J.Job.plan c.args.turn.actor c.args.turn.line c.args.book.now c.args.self.now c.args.listed.now c.in_ok-due.due.at.line c.in_ok-due.due.at.after (event_of c.in_ok-due.due.act) c.requires.next
    c.in_ok-due.ensures.line c.in_ok-due.ensures.after c.in_ok-due.ensures.event

pub make-requires-clause-free : goal.make-requires-clause-free
make-requires-clause-free g c κs within = due_free g.J.Job.plan c.args.turn.actor c.args.turn.line c.args.book.now c.args.self.now c.args.listed.now c.requires.next

pub returns-clause-made : goal.returns-clause-made
returns-clause-made g c =
    next_made c.make.result c.args.turn.actor c.args.turn.line c.in_ok-due.due.at.line (event_of c.in_ok-due.due.act) c.args.listed.now.event (texts_in c.in_ok-due.due.act) c.args.turn.more.now c.args.book.now _ c.args.self.now _ _ _
    (c.in_ok-due.ensures.line ∙ c.requires.next.next.line_is) c.in_ok-due.ensures.event c.in_ok-due.ensures.texts c.make.ensures.made

pub returns-clause-halts : goal.returns-clause-halts
returns-clause-halts g c = λ seat at can by.
    c.make.ensures.halts seat at (prepared_can seat.lane c.in_ok-due.due.at.after c.args.listed.now.after c.args.book.now c.in_ok-due.ensures.after can)
    (prepared_of seat.lane.actor (event_of c.in_ok-due.due.act) c.args.listed.now.event c.in_ok-due.ensures.event by)
