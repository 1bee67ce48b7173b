use Rattle.std.proofs.Common.{take}
use Rattle.tree_steps.specs.Users.{Grows, ReadsAddresses}
use Rattle.tree_steps.proofs.users.Users.add_addresses.Given as goal

abbrev pub invariant-loop-address : goal.invariant-loop-address
invariant-loop-address l = record {
  grows : Grows l.initial.self l.self;
  added : ReadsAddresses l.self l.place (take l.address-index l.addresses);
}
