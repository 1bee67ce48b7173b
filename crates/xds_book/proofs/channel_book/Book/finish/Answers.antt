use Rattle.book_calls.specs.xds_history.Setting.{setting_of}
use Rattle.call_clusters.proofs.CourseProofs.{clusters_kept, holds_have_pins}
use Rattle.xds_book.proofs.FinishLemmas.{lanes_come, tickets_few}
use Rattle.xds_book.proofs.KeptReferences.{keeps_held, keeps_no_others, keeps_pinned, latest_has_them}
use Rattle.xds_book.proofs.channel_book.Book.finish.Goals as goal

pub returns-clause-fewer : goal.returns-clause-fewer
returns-clause-fewer g c = rw (← c.self.view_is) (tickets_few (setting_of g.J.Job.boot g.J.Job.target) c.self.inside.journal.entries c.self.inside.calls.tickets c.self.invariant.book.snapshots)

pub returns-clause-lanes : goal.returns-clause-lanes
returns-clause-lanes g c =
    let each = rw (← c.self.view_is) at c.requires in
    rw (← c.self.view_is) (lanes_come _ _ _ _ c.self.invariant.book.counted c.self.invariant.book.played each)

pub returns-clause-latest : goal.returns-clause-latest
returns-clause-latest g c = rw (← c.self.view_is) (latest_has_them _ _ c.self.invariant.book.right)

pub returns-clause-pinned : goal.returns-clause-pinned
returns-clause-pinned g c = rw (← c.self.view_is) (keeps_pinned _ _ c.self.invariant.book.right)

pub returns-clause-held : goal.returns-clause-held
returns-clause-held g c = rw (← c.self.view_is) (keeps_held _ _ c.self.invariant.book.right)

pub returns-clause-others : goal.returns-clause-others
returns-clause-others g c = rw (← c.self.view_is) (keeps_no_others _ _ c.self.invariant.book.right)

pub returns-clause-clusters : goal.returns-clause-clusters
returns-clause-clusters g c = rw (← c.self.view_is) (clusters_kept _ _ c.self.invariant.book.right)

pub returns-clause-pins : goal.returns-clause-pins
returns-clause-pins g c = rw (← c.self.view_is) (holds_have_pins _ _ c.self.invariant.book.right)
