use Rattle.cluster_tree.proofs.StepLemmas.{step_made}
use Rattle.cluster_tree.proofs.cluster_steps.InPlace.step.Goals as goal

pub returns : goal.returns
returns c =
    step_made c.args.now c.args.reports.now.entries c.args.place c.args.self.now _ c.index.result.now c.in_ok-next.next.cluster c.in_ok-next.next.changed c.requires.within c.requires.count c.index.ensures
    c.in_ok-next.ensures.cluster c.in_ok-next.ensures.changed c.put_cluster.ensures c.in_ok-set_mark.ensures c.in_ok-mark.ensures.marked c.in_ok-add_end.ensures.added c.in_ok-add_end.ensures.kept
