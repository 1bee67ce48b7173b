use Rattle.std.proofs.Common.{List, ℕ, subst}
use Rattle.xds_config.specs.declared.endpoint_values.Locality.{Locality}
use Rattle.tree_steps.specs.Users.{ReadsAddresses}
use Rattle.tree_steps.proofs.UserLemmas.{grows_on, localities_more, all_taken}
use Rattle.tree_steps.proofs.users.Users.add_localities.Goals as goal

pub loop-locality-preserved : goal.loop-locality-preserved
loop-locality-preserved c = record {
  grows = grows_on c.args.self.now c.loop-locality.self c.add_addresses.new.self c.loop-locality.invariant.grows c.in_ok-add_addresses.ensures.grows;
  added = localities_more c.loop-locality.self c.add_addresses.new.self c.args.place c.args.localities.now c.loop-locality.locality-index c.locality-item.result c.loop-locality-test.true c.locality-item.is
      c.loop-locality.invariant.added c.in_ok-add_addresses.ensures.grows (subst (λ (xs : List (List ℕ)). ReadsAddresses c.add_addresses.new.self c.args.place xs) c.as_slice.ensures c.in_ok-add_addresses.ensures.added);
}

pub returns-clause-added : goal.returns-clause-added
returns-clause-added c = all_taken (λ (l : Locality). ReadsAddresses c.loop-locality.self c.args.place l.addresses) c.args.localities.now c.loop-locality.locality-index c.loop-locality-test.false c.loop-locality.invariant.added
