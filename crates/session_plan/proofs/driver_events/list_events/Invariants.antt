use Rattle.std.proofs.Common.{◌≡◌, ◌++◌, map}
use Rattle.session_script.specs.Plan.{listed_for}
use Rattle.session_plan.specs.PlanOfSession.{plan_item}
use Rattle.session_plan.proofs.driver_events.list_events.Given as goal

abbrev pub invariant-loop-event : goal.invariant-loop-event
invariant-loop-event l = l.list ≡ l.fn.list ++ map plan_item (map (listed_for l.line) l.yielded)
