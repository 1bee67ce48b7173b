use Rattle.session_script.specs.Plan.{came_after}
use Rattle.session_plan.specs.ReadablePayloads.{is_response}
use Rattle.session_plan.proofs.WaitingLemmas.{found_waits, moved_waits}
use Rattle.session_plan.proofs.waiting_frames.add_data.Goals as goal

pub returns-clause-events : goal.returns-clause-events
returns-clause-events c = λ s waits.
    c.in_ok-data_line.ensures.events (s c.args.authority.0) (found_waits s c.args.authority c.args.waiting.now c.take_frames-frames.result c.take_frames-frames.ensures.found waits)

pub returns-clause-waiting : goal.returns-clause-waiting
returns-clause-waiting c = λ s waits.
    moved_waits s c.args.authority c.args.waiting.now c.take_frames-frames.new.waiting c.set_frames.new.waiting
    (came_after is_response (s c.args.authority.0) c.args.bytes.now) c.data_line.new.waiting waits c.take_frames-frames.ensures.gone
    (c.in_ok-data_line.ensures.waiting (s c.args.authority.0) (found_waits s c.args.authority c.args.waiting.now c.take_frames-frames.result c.take_frames-frames.ensures.found waits))
    c.in_ok-set_frames.ensures
