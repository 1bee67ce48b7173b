use Rattle.std.proofs.Common.{take}
use Rattle.tree_steps.specs.Users.{Grows, ReadsLocalities}
use Rattle.tree_steps.proofs.users.Users.add_localities.Given as goal

abbrev pub invariant-loop-locality : goal.invariant-loop-locality
invariant-loop-locality l = record {
  grows : Grows l.initial.self l.self;
  added : ReadsLocalities l.self l.place (take l.locality-index l.localities);
}
