use Rattle.std.proofs.Common.{List, subst}
use Rattle.xds_config.specs.declared.config.Leaf.{Leaf}
use Rattle.xds_config.specs.declared.endpoint_values.Locality.{Locality}
use Rattle.tree_steps.specs.Reports.{localities_of}
use Rattle.tree_steps.specs.Users.{ReadsLocalities}
use Rattle.tree_steps.proofs.UserLemmas.{grows_on, leaves_more, all_taken}
use Rattle.tree_steps.proofs.users.Users.add_leaves.Goals as goal

pub loop-leaf-preserved : goal.loop-leaf-preserved
loop-leaf-preserved c = record {
  grows = grows_on c.args.self.now c.loop-leaf.self c.add_localities.new.self c.loop-leaf.invariant.grows c.in_ok-add_localities.ensures.grows;
  added = leaves_more c.loop-leaf.self c.add_localities.new.self c.args.place c.args.leaves.now c.loop-leaf.leaf-index c.leaf-item.result c.loop-leaf-test.true c.leaf-item.is
      c.loop-leaf.invariant.added c.in_ok-add_localities.ensures.grows (subst (λ (xs : List Locality). ReadsLocalities c.add_localities.new.self c.args.place xs) c.localities_of.ensures c.in_ok-add_localities.ensures.added);
}

pub returns-clause-added : goal.returns-clause-added
returns-clause-added c = all_taken (λ (l : Leaf). ReadsLocalities c.loop-leaf.self c.args.place (localities_of l)) c.args.leaves.now c.loop-leaf.leaf-index c.loop-leaf-test.false c.loop-leaf.invariant.added
