use Rattle.std.proofs.Common.{arith}
use Rattle.book_fates.specs.FateSteps.{gone_step}
use Rattle.book_fates.specs.Delivered.{delivered_in, told_as}
use Rattle.book_fates.proofs.ListedLemmas.{listed_on}
use Rattle.book_fates.proofs.WalkLemmas.{next_key, gone_again}
use Rattle.book_fates.proofs.fates.let_each_go.Goals as goal

pub loop-key-preserved : goal.loop-key-preserved
loop-key-preserved g c = record {
  step = next_key (gone_step (told_as (delivered_in c.args.response.now))) c.args.cache.now c.loop-key.cache c.let_one_go.new.cache c.args.keys.now c.loop-key.key-index c.key-item.result (gone_again (told_as (delivered_in c.args.response.now))) c.loop-key-test.true c.key-item.is
      c.in_ok-let_one_go.ensures.step c.loop-key.invariant.step;
  listed = listed_on c.args.cache.now c.loop-key.cache c.let_one_go.new.cache c.args.changed.now c.loop-key.changed c.let_one_go.new.changed c.loop-key.invariant.listed c.in_ok-let_one_go.ensures.listed;
  theirs = λ all. c.in_ok-let_one_go.ensures.theirs (c.loop-key.invariant.theirs all);
  cost = omega (arith, c.loop-key.invariant.cost, c.in_ok-let_one_go.ensures.cost);
}
