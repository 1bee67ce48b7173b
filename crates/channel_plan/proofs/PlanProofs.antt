-- A channel plays the plan of a session.
use Rattle.channel_plan.specs.ChannelPlanLaws.{PlanIsForAChannel}
use Rattle.channel_plan.proofs.CallerStarts.{starts_once}
use Rattle.channel_plan.proofs.PlanEvents.{plan_drivable}
use Rattle.channel_plan.proofs.PlanRoom.{plan_room}

pub plan_is_for_a_channel : PlanIsForAChannel
plan_is_for_a_channel session formed = record {
  entries = plan_room session;
  starts = starts_once session formed;
  events = λ actor count listed is. plan_drivable session formed actor is.list is.actor_is count.ended listed is.next_is;
}
