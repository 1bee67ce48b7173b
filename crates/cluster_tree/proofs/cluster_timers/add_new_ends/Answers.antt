use Rattle.std.proofs.Common.{arith}
use Rattle.std.proofs.lemmas.List.{get_or_default}
use Rattle.cluster_tree.specs.ClusterTimers.{IsTimed}
use Rattle.cluster_tree.proofs.ClusterLemmas.{hold_marked, hold_more}
use Rattle.cluster_tree.proofs.TimerLemmas.{kept_timed}
use Rattle.cluster_tree.proofs.cluster_timers.add_new_ends.Goals as goal

pub loop-place-preserved : goal.loop-place-preserved
loop-place-preserved c = record {
  kept = λ end there. c.in_ok-add_end.ensures.kept end (c.loop-place.invariant.kept end there);
  timed = hold_more (λ place x. IsTimed c.loop-place.ends place x) (λ place x. IsTimed c.add_end.new.ends place x) c.places-places.result.now c.loop-place.place-index _ c.args.clusters.now c.index-clusters-place.result
      c.loop-place-test.true (get_or_default c.places-places.result.now c.loop-place.place-index 0 _ c.loop-place-test.true)
      (omega (arith, c.requires.count, c.places-places.ensures.within c.loop-place.place-index 0 c.loop-place-test.true)) c.index-clusters-place.is (λ place x. kept_timed c.loop-place.ends c.add_end.new.ends place x c.in_ok-add_end.ensures.kept) c.loop-place.invariant.timed c.in_ok-add_end.ensures.added;
}

pub returns : goal.returns
returns c =
    hold_marked (λ place x. IsTimed c.args.ends.now place x) (λ place x. IsTimed c.loop-place.ends place x)
    c.args.anew.now c.places-places.result.now c.loop-place.place-index c.args.clusters.now c.places-places.ensures.marked c.loop-place-test.false c.requires.others
    (λ place x. kept_timed c.args.ends.now c.loop-place.ends place x c.loop-place.invariant.kept) c.loop-place.invariant.timed
