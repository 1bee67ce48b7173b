use Rattle.std.proofs.Common.{List, ◌++◌, ap}
use Rattle.call_journal.specs.declared.plan.Listed.{Listed}
use Rattle.session_script.specs.Plan.{none_up}
use Rattle.session_plan.specs.PlanOfSession.{driver_plan}
use Rattle.session_plan.specs.ReadablePayloads.{is_response}
use Rattle.session_plan.proofs.DriverLemmas.{list_done, step_waits}
use Rattle.session_plan.proofs.WaitingLemmas.{none_waits}
use Rattle.session_plan.proofs.driver_events.driver_list.Goals as goal

pub loop-line-init : goal.loop-line-init
loop-line-init c =
    (none_up, (none_waits c.new-waiting.result c.new-waiting.ensures.empty, ap (λ (l : List Listed). l ++ driver_plan is_response c.args.lines.now) c.new-list.ensures))

pub loop-line-preserved : goal.loop-line-preserved
loop-line-preserved c =
    step_waits c.args.lines.now c.loop-line.line-index c.line-item.result c.loop-line.invariant.0 c.loop-line.waiting c.list_line.new.waiting c.loop-line.list c.list_line.new.list _
    c.loop-line-test.true c.line-item.is c.loop-line.invariant.1.0 c.in_ok-list_line.ensures.list c.in_ok-list_line.ensures.waiting c.loop-line.invariant.1.1

pub returns : goal.returns
returns c =
    list_done c.args.lines.now c.loop-line.line-index c.loop-line.invariant.0 c.loop-line.list c.push.new.self c.last_sweep.result _
    c.loop-line-test.false c.in_ok-push.ensures.ok c.last_sweep.ensures c.loop-line.invariant.1.1
