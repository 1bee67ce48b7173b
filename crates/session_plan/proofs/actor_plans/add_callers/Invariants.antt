use Rattle.std.proofs.Common.{◌≡◌, ◌++◌, map}
use Rattle.std.specs.List.{range_with_len}
use Rattle.session_plan.specs.PlanOfSession.{caller_plan}
use Rattle.session_plan.proofs.actor_plans.add_callers.Given as goal

abbrev pub invariant-loop-before : goal.invariant-loop-before
invariant-loop-before l = l.actors ≡ l.fn.actors ++ map (caller_plan l.lines) (range_with_len 1 l.before)
