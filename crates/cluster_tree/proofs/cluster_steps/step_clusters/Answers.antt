use Rattle.std.proofs.Common.{◌≡◌, true, false, arith}
use Rattle.cluster_tree.proofs.StepLemmas.{due_end, none_anew, none_behind, none_due, stand_end, steps_begin, steps_end, steps_on, steps_past, timed_end}
use Rattle.cluster_tree.proofs.cluster_steps.step_clusters.Goals as goal

pub loop-place-init : goal.loop-place-init
loop-place-init c = steps_begin c.args.now c.args.reports.now.entries c.args.due c.args.stepped.now c.requires.changed c.requires.anew c.requires.timed c.requires.lawful

pub step-requires-clause-last : goal.step-requires-clause-last
step-requires-clause-last c = none_behind c.args.now c.args.reports.now.entries c.args.due c.loop-place.due c.args.stepped.now c.loop-place.stepped c.in-Some.place c.loop-place.invariant c.in-Some.ensures.member

pub step-requires-clause-last_anew : goal.step-requires-clause-last_anew
step-requires-clause-last_anew c = none_anew c.args.now c.args.reports.now.entries c.args.due c.loop-place.due c.args.stepped.now c.loop-place.stepped c.in-Some.place c.loop-place.invariant c.in-Some.ensures.member

pub loop-place-preserved-in-Continue-1 : goal.loop-place-preserved-in-Continue-1
loop-place-preserved-in-Continue-1 c =
    steps_on c.args.now c.args.reports.now.entries c.args.due c.loop-place.due c.pop_first.new.self c.args.stepped.now c.loop-place.stepped c.step.new.self c.in-Some.place (omega (arith, c.if-place-len.true, c.len.ensures))
    c.in-Some.ensures.member c.in-Some.ensures.updates.0 c.in-Some.ensures.least c.loop-place.invariant c.in_ok-step.ensures

pub loop-place-preserved : goal.loop-place-preserved
loop-place-preserved c =
    steps_past c.args.now c.args.reports.now.entries c.args.due c.loop-place.due c.pop_first.new.self c.args.stepped.now c.loop-place.stepped c.in-Some.place c.in-Some.ensures.updates.0 (omega (arith, c.if-place-len.false, c.len.ensures))
    c.loop-place.invariant

pub returns-clause-clusters : goal.returns-clause-clusters
returns-clause-clusters c =
    steps_end c.args.now c.args.reports.now.entries c.args.due c.loop-place.due c.args.stepped.now c.loop-place.stepped
    (none_due c.loop-place.due (λ more. let clash : false ≡ true = c.in_default.ensures.variant.1 more in absurd (cc clash))) c.loop-place.invariant

pub returns-clause-timed : goal.returns-clause-timed
returns-clause-timed c =
    timed_end c.loop-place.due c.loop-place.stepped.ends c.loop-place.stepped.clusters.items (none_due c.loop-place.due (λ more. let clash : false ≡ true = c.in_default.ensures.variant.1 more in absurd (cc clash))) c.loop-place.invariant.timed

pub returns-clause-anew : goal.returns-clause-anew
returns-clause-anew c = stand_end c.args.now c.args.reports.now.entries c.args.due c.loop-place.due c.args.stepped.now c.loop-place.stepped c.loop-place.invariant

pub returns-clause-due : goal.returns-clause-due
returns-clause-due c =
    due_end c.args.now c.args.reports.now.entries c.args.due c.loop-place.due c.args.stepped.now c.loop-place.stepped
    (none_due c.loop-place.due (λ more. let clash : false ≡ true = c.in_default.ensures.variant.1 more in absurd (cc clash))) c.loop-place.invariant
