use Rattle.cluster_tree.proofs.EntryLemmas.{ArePutSoFar}
use Rattle.cluster_tree.proofs.cluster_entries.put_entries.Given as goal

abbrev pub invariant-loop-place : goal.invariant-loop-place
invariant-loop-place l = ArePutSoFar l.entries l.places l.place-index l.initial.stand l.stand
