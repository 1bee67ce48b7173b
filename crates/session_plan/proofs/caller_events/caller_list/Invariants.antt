use Rattle.std.proofs.Common.{◌≡◌, ◌++◌, drop}
use Rattle.session_plan.specs.PlanOfSession.{caller_plan}
use Rattle.session_plan.proofs.caller_events.caller_list.Given as goal

abbrev pub invariant-loop-line : goal.invariant-loop-line
invariant-loop-line l = l.list ++ caller_plan (drop l.line-index l.lines) l.caller ≡ caller_plan l.lines l.caller
