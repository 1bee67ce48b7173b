use Rattle.std.proofs.Common.{◌++◌, ◌∙◌, List, map, ap, subst}
use Rattle.xc_base.specs.declared.names.Key.{Key}
use Rattle.watch_timers.specs.StartOrder.{first_due}
use Rattle.watch_timers.specs.Timers.{TakesDue}
use Rattle.watch_timers.proofs.DueLemmas.{takes_due}
use Rattle.watch_timers.proofs.timers.Timers.due.Goals as goal

pub returns-clause-ok : goal.returns-clause-ok
returns-clause-ok c =
    subst (λ ts. TakesDue ts c.args.now c.from_vec.result c.take_due.new.starts.entries) c.self.view_is
    (takes_due c.self.inside.order.keys c.take_due.new.order.keys c.self.inside.starts.entries c.take_due.new.starts.entries c.args.now c.from_vec.result c.count_due-count.ensures.ordered c.self.invariant
    c.take_due.ensures.same (c.from_vec.ensures ∙ c.take_due.ensures.keys ∙ ap (λ (keys : List Key). keys ++ map (λ started. started.key) (first_due c.args.now c.self.inside.order.keys)) c.in_ok-keys.ensures.items)
    c.take_due.ensures.left)
