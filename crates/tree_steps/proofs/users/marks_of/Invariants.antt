use Rattle.std.proofs.Common.{◌≡◌, length, take}
use Rattle.tree_steps.specs.Users.{MarksUsers}
use Rattle.tree_steps.proofs.users.marks_of.Given as goal

abbrev pub invariant-loop-address : goal.invariant-loop-address
invariant-loop-address l = record {
  count : length l.marks.items ≡ l.count;
  marked : MarksUsers l.users (take l.address-index l.changed) l.marks.items;
}
