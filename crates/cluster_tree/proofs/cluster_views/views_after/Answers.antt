use Rattle.std.proofs.Common.{ap, ◌∙◌, arith}
use Rattle.std.proofs.lemmas.Bool.Decides.{nat_tests}
use Rattle.cluster_tree.specs.StandingTrees.{views_of}
use Rattle.cluster_tree.proofs.ViewLemmas.{block_more, block_most, block_some, part_stays, whole_so_far}
use Rattle.cluster_tree.proofs.cluster_views.views_after.Goals as goal

pub block_of-requires : goal.block_of-requires
block_of-requires c = λ none.
    rw (c.part_of-part.ensures)
    (part_stays c.args.marks.now c.places-places.result.now c.args.views.now c.args.clusters.now c.loop-number.number c.loop-number.passed c.count_before-passed.result
    (record { rising = c.places-places.ensures.rising; marked = c.places-places.ensures.marked }) c.requires.stay c.loop-number.invariant.before c.count_before-passed.ensures (grind (arith, nat_tests)))

pub push_block-requires-clause-whole : goal.push_block-requires-clause-whole
push_block-requires-clause-whole c = whole_so_far c.args.clusters.now c.loop-number.number c.loop-number.after (c.block_count-number-end.ensures.each c.loop-number.number c.loop-number-test.true) c.loop-number.invariant.after

pub push_block-requires-clause-some : goal.push_block-requires-clause-some
push_block-requires-clause-some c =
    block_some c.args.clusters.now c.loop-number.number c.in_ok-block.block (c.block_count-number-end.ensures.each c.loop-number.number c.loop-number-test.true) (c.in_ok-block.ensures ∙ ap views_of c.part_of-part.ensures)

pub push_block-requires-clause-most : goal.push_block-requires-clause-most
push_block-requires-clause-most c = block_most c.args.clusters.now c.loop-number.number c.in_ok-block.block (c.in_ok-block.ensures ∙ ap views_of c.part_of-part.ensures)

pub loop-number-preserved : goal.loop-number-preserved
loop-number-preserved c = record {
  within = c.count_before-passed.ensures.within;
  before = c.count_before-passed.ensures.before;
  after = block_more c.args.clusters.now c.loop-number.number c.loop-number.after c.push_block.new.self c.in_ok-block.block c.loop-number.invariant.after (c.in_ok-block.ensures ∙ ap views_of c.part_of-part.ensures) c.in_ok-push_block.ensures;
}
