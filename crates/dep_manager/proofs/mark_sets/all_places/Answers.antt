use Rattle.std.proofs.Common.{arith}
use Rattle.dep_manager.proofs.MarkSetLemmas.{all_more}
use Rattle.dep_manager.proofs.mark_sets.all_places.Goals as goal

pub loop-place-init : goal.loop-place-init
loop-place-init c at lt = absurd (omega (arith, lt))

pub loop-place-preserved : goal.loop-place-preserved
loop-place-preserved c = all_more c.loop-place.places.keys c.insert.new.self.keys c.loop-place.place c.in_ok-insert.ensures.keys c.loop-place.invariant

pub returns : goal.returns
returns c at lt = let all = c.loop-place-test.false in c.loop-place.invariant at (omega (arith, lt, all))
