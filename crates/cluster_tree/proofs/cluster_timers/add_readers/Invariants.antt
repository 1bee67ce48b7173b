use Rattle.std.proofs.Common.{ℕ, take}
use Rattle.std.specs.Prelude.{All, Contains}
use Rattle.tree_steps.specs.Users.{users_at}
use Rattle.tree_timers.specs.EndsKept.{HasPlace}
use Rattle.cluster_tree.proofs.cluster_timers.add_readers.Given as goal

abbrev pub invariant-loop-address : goal.invariant-loop-address
invariant-loop-address l = All (λ address. (place : ℕ) → Contains (users_at l.users address) place → HasPlace l.due place) (take l.address-index l.changed)
