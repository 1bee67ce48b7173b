use Rattle.std.proofs.Common.{◌∙◌}
use Rattle.session_plan.proofs.PayloadLemmas.{field_fits, resources_end, resources_step}
use Rattle.session_plan.proofs.readable_payloads.are_resources.Goals as goal

pub is_resource_too-requires : goal.is_resource_too-requires
is_resource_too-requires c = field_fits c.args.list.now c.loop-field.field-index _ _ c.loop-field-test.true c.requires

pub loop-field-preserved : goal.loop-field-preserved
loop-field-preserved c =
    resources_step c.args.list.now c.loop-field.field-index _ c.loop-field.all _ c.loop-field-test.true c.in_ok-all.ensures ∙ c.loop-field.invariant

pub returns : goal.returns
returns c = resources_end c.args.list.now c.loop-field.field-index c.loop-field.all c.loop-field-test.false c.loop-field.invariant
