use Rattle.std.proofs.Common.{ℕ, arith}
use Rattle.std.proofs.lemmas.List.Elements.{All-contains}
use Rattle.tree_timers.specs.EndsKept.{HasPlace}
use Rattle.tree_timers.proofs.EndLemmas.{more_places}
use Rattle.cluster_tree.proofs.TimerLemmas.{all_more, all_of}
use Rattle.cluster_tree.proofs.cluster_timers.add_places.Goals as goal

pub loop-place-init : goal.loop-place-init
loop-place-init c = record { added = λ k d lt. absurd (omega (arith, lt)); kept = λ place there. there }

pub loop-place-preserved : goal.loop-place-preserved
loop-place-preserved c = record {
  added = all_more (λ place. HasPlace c.loop-place.due place) (λ place. HasPlace c.insert.new.self place) c.args.places.now c.loop-place.place-index _ c.loop-place-test.true c.loop-place.invariant.added
      (more_places c.loop-place.due c.loop-place.due c.insert.new.self _ c.in_ok-insert.ensures.updates.0 (λ place there. there)) c.in_ok-insert.ensures.updates.1;
  kept = more_places c.args.due.now c.loop-place.due c.insert.new.self _ c.in_ok-insert.ensures.updates.0 c.loop-place.invariant.kept;
}

pub returns-clause-added : goal.returns-clause-added
returns-clause-added c place has = All-contains (λ (p : ℕ). HasPlace c.loop-place.due p) c.args.places.now place (all_of (λ (p : ℕ). HasPlace c.loop-place.due p) c.args.places.now c.loop-place.place-index c.loop-place-test.false c.loop-place.invariant.added) has
