use Rattle.std.proofs.Common.{◌≡◌, ◌+◌, arith, rules, ap, Some}
use Rattle.cluster_refs.specs.ReferredNames.{count_of}
use Rattle.cluster_refs.proofs.NameLemmas.{Changes, change_from, raised, all_counted}
use Rattle.cluster_refs.proofs.counts.Counts.raise.Goals as goal

change : (c : goal.In_ok-insert) → Changes c.args.self.now c.insert.new.self.entries c.args.name.now (Some (count_of c.args.self.now c.args.name.now + 1))
change c =
    let name : c.in_ok-clone.field-0 ≡ c.args.name.now = search rules in
    let more : c.of-more.result + 1 ≡ count_of c.args.self.now c.args.name.now + 1 = ap (λ n. n + 1) c.of-more.ensures in
    change_from c.self.inside.counts.entries _ _ c.in_ok-clone.field-0 _ (Some (c.of-more.result + 1)) _ c.self.view_is name (ap (λ n. Some n) more) c.in_ok-insert.ensures.updates.0

pub invariant_of-self-2 : goal.invariant_of-self-2
invariant_of-self-2 c = all_counted c.args.self.now c.insert.new.self.entries _ _ (rw (← c.self.view_is) c.self.invariant) (omega arith) (change c)

pub returns-clause-ok : goal.returns-clause-ok
returns-clause-ok c = raised c.args.self.now c.insert.new.self.entries c.args.name.now (change c)
