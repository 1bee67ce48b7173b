use Rattle.session_plan.proofs.ComingLemmas.{taken_events, taken_how, taken_rest}
use Rattle.session_plan.proofs.ShortLemmas.{added_short}
use Rattle.session_plan.specs.ReadablePayloads.{is_response}
use Rattle.session_plan.proofs.coming_frames.take.Goals as goal

pub respond-requires : goal.respond-requires
respond-requires c = added_short c.feed-answer.result c.args.frames.now c.args.bytes.now _ _ c.new-payloads.ensures c.feed-answer.ensures.payloads

pub returns-clause-how : goal.returns-clause-how
returns-clause-how c = λ before is none.
    taken_how is_response before c.args.bytes.now c.args.frames.now c.feed-answer.result _ _ _ _ c.feed-answer.ensures.answer c.in_ok-how.ensures.memory c.new-payloads.ensures c.feed-answer.ensures.payloads
    c.in_ok-all.ensures.all c.in_ok-how.ensures.how is none

pub returns-clause-events : goal.returns-clause-events
returns-clause-events c = λ before is none.
    taken_events _ is_response before c.args.bytes.now c.args.frames.now c.feed-answer.result _ _ _ _ c.feed-answer.ensures.answer c.in_ok-how.ensures.memory c.new-payloads.ensures c.feed-answer.ensures.payloads
    c.in_ok-all.ensures.events is none

pub returns-clause-waiting : goal.returns-clause-waiting
returns-clause-waiting c = λ before is none.
    taken_rest before c.args.bytes.now c.args.frames.now _ c.feed-answer.result c.feed-answer.ensures.answer c.in_ok-how.ensures.memory c.feed-answer.ensures.waiting is none
