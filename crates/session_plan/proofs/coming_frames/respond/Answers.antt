use Rattle.std.proofs.Common.{length, rules}
use Rattle.std.proofs.lemmas.Iterator.Adapters.{YieldsList-from_vec}
use Rattle.std.proofs.lemmas.Iterator.Consumers.{YieldsList-turn}
use Rattle.session_plan.proofs.ComingLemmas.{one_played, one_read}
use Rattle.session_plan.proofs.ShortLemmas.{short_item}
use Rattle.session_plan.proofs.coming_frames.respond.Goals as goal

pub respond_one-requires : goal.respond_one-requires
respond_one-requires c =
    let turn = YieldsList-turn (YieldsList-from_vec {s = c.into_iter-payload-iterator.result} c.args.payloads (search rules) (search rules))
    c.loop-payload.yielded c.loop-payload.payload-iterator c.loop-payload.yielded_by c.next.result c.next.new.self c.in-Some.payload c.in-Some.is c.next.ensures.steps in
    short_item c.args.payloads (length c.loop-payload.yielded) c.in-Some.payload c.requires turn.0 turn.1

pub loop-payload-preserved : goal.loop-payload-preserved
loop-payload-preserved c = record {
  all = one_read _ c.loop-payload.yielded c.in-Some.payload c.loop-payload.all _ c.loop-payload.invariant.all c.in_ok-all.ensures.all;
  events = one_played _ _ c.loop-payload.yielded c.in-Some.payload c.loop-payload.all _ _ _ c.loop-payload.invariant.all c.loop-payload.invariant.events c.in_ok-all.ensures.events;
}
