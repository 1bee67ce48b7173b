use Rattle.std.proofs.Common.{refl}
use Rattle.weighted_lb.specs.Pick.{AreParts}
use Rattle.weighted_lb.proofs.PickLemmas.{are_sums, length-sums}
use Rattle.weighted_lb.proofs.pick.body_choice.Goals as goal

pub at_weight-requires : goal.at_weight-requires
at_weight-requires c = let made : AreParts c.in-Ready.parts c.in-Ready.sums = rw c.in-Ready.is at c.requires in record { sums = are_sums c.in-Ready.parts c.in-Ready.sums made }

pub returns-in-Ready-clause-choice : goal.returns-in-Ready-clause-choice
returns-in-Ready-clause-choice c = let made : AreParts c.in-Ready.parts c.in-Ready.sums = rw c.in-Ready.is at c.requires in rw c.in-Ready.is (rw (c.at_weight.ensures.place _ made.cumulate, c.draw.ensures) refl)

pub returns-in-Ready-clause-within : goal.returns-in-Ready-clause-within
returns-in-Ready-clause-within c = let made : AreParts c.in-Ready.parts c.in-Ready.sums = rw c.in-Ready.is at c.requires in rw c.in-Ready.is (rw (← length-sums c.in-Ready.parts c.in-Ready.sums made) c.at_weight.ensures.within)
