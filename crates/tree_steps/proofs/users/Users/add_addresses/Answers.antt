use Rattle.std.proofs.Common.{List, ℕ}
use Rattle.std.specs.Prelude.{Contains}
use Rattle.tree_steps.specs.Users.{users_at}
use Rattle.tree_steps.proofs.UserLemmas.{grows_on, addresses_more, all_taken}
use Rattle.tree_steps.proofs.users.Users.add_addresses.Goals as goal

pub loop-address-preserved : goal.loop-address-preserved
loop-address-preserved c = record {
  grows = grows_on c.args.self.now c.loop-address.self c.add.new.self c.loop-address.invariant.grows c.in_ok-add.ensures.grows;
  added = addresses_more c.loop-address.self c.add.new.self c.args.place c.args.addresses.now c.loop-address.address-index c.address-item.result c.loop-address-test.true c.address-item.is
      c.loop-address.invariant.added c.in_ok-add.ensures.grows c.in_ok-add.ensures.added;
}

pub returns-clause-added : goal.returns-clause-added
returns-clause-added c = all_taken (λ (a : List ℕ). Contains (users_at c.loop-address.self a) c.args.place) c.args.addresses.now c.loop-address.address-index c.loop-address-test.false c.loop-address.invariant.added
