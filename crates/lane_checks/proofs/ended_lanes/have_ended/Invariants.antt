use Rattle.lane_checks.specs.EndedPlans.{HaveEndedTo}
use Rattle.lane_checks.proofs.ended_lanes.have_ended.Given as goal

abbrev pub invariant-loop-place : goal.invariant-loop-place
invariant-loop-place g l = HaveEndedTo l.place l.plan.actors l.book.counts
