use Rattle.std.proofs.Common.{arith}
use Rattle.book_fates.specs.NamedParts.{has_name}
use Rattle.book_fates.proofs.NameLemmas.{all_more, named_more, names_end}
use Rattle.book_fates.proofs.part_names.PartNames.of.Goals as goal

pub loop-part-preserved : goal.loop-part-preserved
loop-part-preserved c = record {
  all = all_more c.args.parts.now c.loop-part.part-index c.part-item.result c.loop-part.names.all_named c.add_part.new.names.all_named c.loop-part-test.true c.part-item.is c.in_ok-add_part.ensures.all c.loop-part.invariant.all;
  each = λ name. named_more name c.args.parts.now c.loop-part.part-index c.part-item.result (has_name c.loop-part.names.names name) (has_name c.add_part.new.names.names name) c.loop-part-test.true c.part-item.is (c.in_ok-add_part.ensures.names name) (c.loop-part.invariant.each name);
}

pub returns : goal.returns
returns c = names_end c.args.parts.now c.loop-part.part-index c.loop-part.names (omega (arith, c.loop-part-test.false)) c.loop-part.invariant.all c.loop-part.invariant.each
