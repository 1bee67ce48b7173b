use Rattle.std.proofs.Common.{◌≡◌, ◌+◌, length}
use Rattle.std.specs.Prelude.{◌≢◌, AllPairs}
use Rattle.aggregate_expand.specs.LeafWalk.{room_at}
use Rattle.aggregate_expand.proofs.WalkLemmas.{IsUnderWay}
use Rattle.aggregate_expand.proofs.expand.+walk.Given as goal

abbrev pub decreases-walk : goal.decreases-walk
decreases-walk g l = room_at l.chain_length

abbrev pub invariant-loop-child : goal.invariant-loop-child
invariant-loop-child g l = record {
  way : IsUnderWay (g.K.Lookup.table l.lookup) l.name l.chain_length (room_at l.chain_length) (room_at (l.chain_length + 1)) l.child-items l.child-index l.fn.visits l.fn.found l.visits l.found;
  differ : AllPairs (λ visit other. visit ≢ other) l.visits;
  cost : l.steps + length l.fn.visits ≡ l.fn.steps + length l.visits;
}
