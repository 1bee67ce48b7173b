use Rattle.book_progress.proofs.JournalLemmas.{ended_few, pins_few}
use Rattle.book_progress.proofs.counted_journal.CountedJournal.add.Goals as goal

pub add-requires-clause-ended : goal.add-requires-clause-ended
add-requires-clause-ended c = λ count get.
    let less = rw (← c.self.view_is) at c.requires.few in
    ended_few c.self.inside.journal.entries c.self.inside.progress c.args.entry.actor count c.self.invariant get less

pub add-requires-clause-pins : goal.add-requires-clause-pins
add-requires-clause-pins c = λ count get.
    let less = rw (← c.self.view_is) at c.requires.few in
    pins_few c.self.inside.journal.entries c.self.inside.progress c.args.entry.actor count c.self.invariant get less
