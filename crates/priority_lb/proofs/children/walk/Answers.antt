use Rattle.priority_lb.proofs.WalkLemmas.{walk_turn, walk_end}
use Rattle.priority_lb.proofs.children.walk.Goals as goal

pub loop-i-preserved : goal.loop-i-preserved
loop-i-preserved c =
    walk_turn c.args.now c.args.children.now c.args.states.now c.loop-i.i c.loop-i.children c.loop-i.reached c.loop-i.behind c.loop-i.stop _ _ c.after-next.result c.stops-stops.result _ _ _
    c.loop-i-test.true c.requires c.loop-i.invariant c.after-next.ensures c.stops-stops.ensures c.passes-reached.ensures c.is_behind-behind.ensures (rw (← c.stops_at.ensures) c.first_stop-stop.ensures)

pub returns-clause-step : goal.returns-clause-step
returns-clause-step c = (walk_end c.args.now c.args.children.now c.args.states.now c.loop-i.i c.loop-i.children c.loop-i.reached c.loop-i.behind c.loop-i.stop c.loop-i-test.false c.requires c.loop-i.invariant).0

pub returns-clause-stop : goal.returns-clause-stop
returns-clause-stop c = (walk_end c.args.now c.args.children.now c.args.states.now c.loop-i.i c.loop-i.children c.loop-i.reached c.loop-i.behind c.loop-i.stop c.loop-i-test.false c.requires c.loop-i.invariant).1
