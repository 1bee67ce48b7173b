use Rattle.std.proofs.Common.{◌-◌, arith, rules, ap, Some, None}
use Rattle.cluster_refs.proofs.NameLemmas.{lowered, all_counted}
use Rattle.cluster_refs.proofs.counts.Counts.lower.Goals as goal

pub returns-in-Some : goal.returns-in-Some
returns-in-Some c =
    let written = (c.get_mut.follows.holds (c.of-count.result - 1)).3 (search rules) in
    lowered c.self.inside.counts.entries _ _ c.args.name.now (Some (c.of-count.result - 1)) c.self.view_is (ap (λ n. n - 1) c.of-count.ensures)
    written.0

pub invariant_of-self : goal.invariant_of-self
invariant_of-self c =
    let written = (c.get_mut.follows.holds (c.of-count.result - 1)).3 (search rules) in
    all_counted c.self.inside.counts.entries _ c.args.name.now (Some (c.of-count.result - 1)) c.self.invariant (omega arith) written.0

pub returns-else-count-gt1 : goal.returns-else-count-gt1
returns-else-count-gt1 c =
    lowered c.self.inside.counts.entries _ _ c.args.name.now None c.self.view_is (omega arith) c.remove.ensures.updates.0

pub invariant_of-self-else-count-gt1 : goal.invariant_of-self-else-count-gt1
invariant_of-self-else-count-gt1 c = all_counted c.self.inside.counts.entries _ c.args.name.now None c.self.invariant tt c.remove.ensures.updates.0
