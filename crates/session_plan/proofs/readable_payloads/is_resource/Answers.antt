use Rattle.std.proofs.Common.{◌∙◌}
use Rattle.proto_wire.specs.View.{view}
use Rattle.session_plan.proofs.PayloadLemmas.{resource_absent, resource_fits, resource_there}
use Rattle.session_plan.proofs.readable_payloads.is_resource.Goals as goal

pub is_any-requires : goal.is_any-requires
is_any-requires c = resource_fits (view c.args.field.now) c.in-Some.bytes.now _ c.in-Some.ensures c.requires

pub returns-in_ok-reads-in-Some : goal.returns-in_ok-reads-in-Some
returns-in_ok-reads-in-Some c = c.in_ok-reads-in-Some.ensures ∙ resource_there (view c.args.field.now) c.in-Some.bytes.now c.in-Some.ensures

pub returns-in-None : goal.returns-in-None
returns-in-None c = resource_absent (view c.args.field.now) c.in-None.ensures
