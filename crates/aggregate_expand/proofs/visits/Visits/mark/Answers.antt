use Rattle.std.proofs.Common.{◌≡◌, rules}
use Rattle.aggregate_expand.proofs.VisitLemmas.{marks_from, all_differ}
use Rattle.aggregate_expand.proofs.visits.Visits.mark.Goals as goal

pub returns-in-Ok-true-clause-marks : goal.returns-in-Ok-true-clause-marks
returns-in-Ok-true-clause-marks c =
    let name : c.in_ok-name.name ≡ c.args.name.now = search rules in
    rw (← c.self.view_is) (marks_from c.self.inside.visits.keys c.insert.new.self.keys c.in_ok-name.name c.args.name.now c.args.chain_length c.in-Ok-true.field-0 name c.in-Ok-true.field-0-test c.in-Ok-true.ensures.added c.in-Ok-true.ensures.updates.0 c.in-Ok-true.ensures.len)

pub returns-in-Ok-true-clause-differ : goal.returns-in-Ok-true-clause-differ
returns-in-Ok-true-clause-differ c = all_differ c.insert.new.self.keys c.in-Ok-true.ensures.ordered

pub returns-in-Ok-false-clause-differ : goal.returns-in-Ok-false-clause-differ
returns-in-Ok-false-clause-differ c = all_differ c.insert.new.self.keys c.in-Ok-false.ensures.ordered
