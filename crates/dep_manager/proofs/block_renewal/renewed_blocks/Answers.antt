use Rattle.std.proofs.Common.{◌<◌, ◌≤◌, ◌+◌, ◌*◌, ◌∙◌, length, min, drop, take, ap, sym, subst, refl, arith}
use Rattle.std.specs.List.{list_any}
use Rattle.std.proofs.lemmas.Bool.Decides.{nat_tests}
use Rattle.std.proofs.lemmas.List.{length-take}
use Rattle.dep_manager.specs.EndpointNews.{is_told}
use Rattle.dep_manager.specs.RenewedConfigs.{renewed_entry}
use Rattle.dep_manager.specs.ToldPlaces.{AreToldFrom}
use Rattle.dep_manager.proofs.PairLemmas.{paired_all}
use Rattle.dep_manager.proofs.ToldLemmas.{blocks_more, entries_read, next_most, next_some, none_told, so_far_whole, told_next, told_part}
use Rattle.dep_manager.proofs.block_renewal.renewed_blocks.Goals as goal

pub block_at-requires-clause-few : goal.block_at-requires-clause-few
block_at-requires-clause-few c =
    let lt : 32 * c.loop-number.number < c.min.result = c.block_count-number-end.ensures.each c.loop-number.number c.loop-number-test.true in
    let part : length c.part_of-part.result.now ≤ 32 = let long = length-take 32 (drop (32 * c.loop-number.number) c.args.sources.now) in omega (arith, long, ap length c.part_of-part.ensures) in
    let inside : 32 * c.loop-number.number < min (length c.args.clusters.now) (length c.args.sources.now) = omega (arith, lt, c.min.ensures, c.len.ensures) in
    omega (arith, inside, part, c.requires.few)

pub block_at-requires-clause-told : goal.block_at-requires-clause-told
block_at-requires-clause-told c =
    subst (λ told. AreToldFrom told c.loop-number.left.now (32 * c.loop-number.number) c.part_of-part.result.now) (sym c.loop-number.invariant.same)
    (told_part c.args.news.now c.loop-number.left.now (32 * c.loop-number.number) 32 (drop (32 * c.loop-number.number) c.args.sources.now) c.part_of-part.result.now c.part_of-part.ensures c.loop-number.invariant.told)

pub block_at-requires-clause-untouched : goal.block_at-requires-clause-untouched
block_at-requires-clause-untouched c = λ none.
    let part : length c.part_of-part.result.now ≤ 32 = let long = length-take 32 (drop (32 * c.loop-number.number) c.args.sources.now) in omega (arith, long, ap length c.part_of-part.ensures) in
    ap (λ told. list_any (list_any (is_told told)) c.part_of-part.result.now) c.loop-number.invariant.same
    ∙ none_told c.args.news.now c.loop-number.left.now (32 * c.loop-number.number) 32 c.count_before-ahead.result (32 * (c.loop-number.number + 1)) c.part_of-part.result.now (omega arith) part
    (told_part c.args.news.now c.loop-number.left.now (32 * c.loop-number.number) 32 (drop (32 * c.loop-number.number) c.args.sources.now) c.part_of-part.result.now c.part_of-part.ensures c.loop-number.invariant.told)
    c.count_before-ahead.ensures (grind (arith, nat_tests))

pub push_block-requires-clause-whole : goal.push_block-requires-clause-whole
push_block-requires-clause-whole c = so_far_whole c.args.news.now c.args.clusters.now c.args.sources.now c.loop-number.number c.loop-number.blocks c.in_ok-block.block (let lt : 32 * c.loop-number.number < c.min.result = c.block_count-number-end.ensures.each c.loop-number.number c.loop-number-test.true in omega (arith, lt, c.min.ensures, c.len.ensures)) c.loop-number.invariant.blocks

pub push_block-requires-clause-some : goal.push_block-requires-clause-some
push_block-requires-clause-some c = next_some c.args.news.now c.args.clusters.now c.args.sources.now c.loop-number.number c.loop-number.blocks c.in_ok-block.block (let lt : 32 * c.loop-number.number < c.min.result = c.block_count-number-end.ensures.each c.loop-number.number c.loop-number-test.true in omega (arith, lt, c.min.ensures, c.len.ensures)) (entries_read c.loop-number.news c.args.news.now (take 32 (drop (32 * c.loop-number.number) c.args.clusters.now)) (take 32 (drop (32 * c.loop-number.number) c.args.clusters.now)) c.in_ok-block.block c.part_of-part.result.now (take 32 (drop (32 * c.loop-number.number) c.args.sources.now)) c.in_ok-block.ensures.block c.loop-number.invariant.same refl c.part_of-part.ensures)

pub push_block-requires-clause-most : goal.push_block-requires-clause-most
push_block-requires-clause-most c = next_most c.args.news.now c.args.clusters.now c.args.sources.now c.loop-number.number c.loop-number.blocks c.in_ok-block.block (entries_read c.loop-number.news c.args.news.now (take 32 (drop (32 * c.loop-number.number) c.args.clusters.now)) (take 32 (drop (32 * c.loop-number.number) c.args.clusters.now)) c.in_ok-block.block c.part_of-part.result.now (take 32 (drop (32 * c.loop-number.number) c.args.sources.now)) c.in_ok-block.ensures.block c.loop-number.invariant.same refl c.part_of-part.ensures)

pub loop-number-preserved : goal.loop-number-preserved
loop-number-preserved c = record {
  blocks = blocks_more c.args.news.now c.args.clusters.now c.args.sources.now c.loop-number.number c.loop-number.blocks c.in_ok-block.block c.push_block.new.self c.loop-number.invariant.blocks (entries_read c.loop-number.news c.args.news.now (take 32 (drop (32 * c.loop-number.number) c.args.clusters.now)) (take 32 (drop (32 * c.loop-number.number) c.args.clusters.now)) c.in_ok-block.block c.part_of-part.result.now (take 32 (drop (32 * c.loop-number.number) c.args.sources.now)) c.in_ok-block.ensures.block c.loop-number.invariant.same refl c.part_of-part.ensures) c.in_ok-push_block.ensures;
  same = c.in_ok-block.ensures.same ∙ c.loop-number.invariant.same;
  told = told_next c.args.news.now c.loop-number.left.now c.behind-left.result.now (32 * c.loop-number.number) (32 * c.loop-number.number) 32 (32 * (c.loop-number.number + 1)) (32 * (c.loop-number.number + 1)) (32 * (c.loop-number.number + 1)) c.count_before-ahead.result c.args.sources.now
      c.behind-left.ensures (omega arith) refl (omega arith) c.loop-number.invariant.told c.count_before-ahead.ensures;
}

pub returns-clause-blocks : goal.returns-clause-blocks
returns-clause-blocks c =
    let all : c.min.result ≤ 32 * c.block_count-number-end.result = c.block_count-number-end.ensures.all in
    c.loop-number.invariant.blocks ∙ paired_all (renewed_entry c.args.news.now) c.args.clusters.now c.args.sources.now (32 * c.loop-number.number) (omega (arith, all, c.loop-number-test.false, c.min.ensures, c.len.ensures))
