use Rattle.std.proofs.Common.{◌<◌, List, length, get_or, refl, subst, arith}
use Rattle.std.specs.Prelude.{slice_get}
use Rattle.std.proofs.lemmas.Option.{slice_get_within}
use Rattle.cluster_tree.specs.declared.cluster_trees.Cluster.{Cluster}
use Rattle.cluster_tree.specs.PutEntries.{StandsFor}
use Rattle.cluster_tree.proofs.EntryLemmas.{ok_holds, taken_by, taken_none}
use Rattle.cluster_tree.proofs.cluster_entries.EntriesPut.take.Goals as goal

pub put-requires-clause-within : goal.put-requires-clause-within
put-requires-clause-within c =
    let within : c.args.place < length c.args.entries.now = slice_get_within c.args.entries.now c.args.place c.in-Some.entry.now c.in-Some.ensures.other in
    omega (arith, within, c.requires.entries)

pub returns-in-Some : goal.returns-in-Some
returns-in-Some c = ok_holds _ _ c.put.result (taken_by c.args.place (slice_get c.args.entries.now c.args.place) c.in-Some.entry.now c.args.self.now c.put.new.self c.in-Some.ensures.other) c.put.ensures

pub returns-in-None : goal.returns-in-None
returns-in-None c =
    taken_none c.args.place (slice_get c.args.entries.now c.args.place) c.args.self.now
    (λ d. subst (λ (cs : List Cluster). StandsFor (slice_get c.args.entries.now c.args.place) (get_or cs c.args.place d)) c.deref.ensures.value (c.in-None.ensures.same refl d))
