use Rattle.std.proofs.Common.{arith, rules}
use Rattle.cluster_tree.proofs.TimerLemmas.{left_by, timed_by}
use Rattle.cluster_tree.proofs.cluster_timers.ClusterIndex.due_places.Goals as goal

pub returns-clause-left : goal.returns-clause-left
returns-clause-left c =
    left_by c.args.times.last c.args.times.this c.args.self.now.users c.args.changed.now c.args.self.now.ends c.args.clusters.now c.take_due.new.places (omega (arith, c.if-times.false)) (search rules) c.requires.timed
    (λ address place has reads. c.in_ok-take_due.ensures.more place (c.in_ok-add_places.ensures.kept place (c.in_ok-add_readers.ensures address place has reads))) c.in_ok-take_due.ensures.added

pub returns-clause-put : goal.returns-clause-put
returns-clause-put c = λ place on. c.in_ok-take_due.ensures.more place (c.in_ok-add_places.ensures.added place ((c.places.ensures.marked place).0 on))

pub returns-clause-timed : goal.returns-clause-timed
returns-clause-timed c = timed_by c.args.times.this c.args.self.now.ends c.take_due.new.self c.args.clusters.now c.take_due.new.places (search rules) c.requires.timed c.in_ok-take_due.ensures.added c.in_ok-take_due.ensures.kept
