use Rattle.std.proofs.Common.{◌≡◌, drop}
use Rattle.std.specs.Prelude.{◌&&◌}
use Rattle.proto_wire.specs.View.{views}
use Rattle.session_plan.specs.ReadablePayloads.{are_resources}
use Rattle.session_plan.proofs.readable_payloads.are_resources.Given as goal

abbrev pub invariant-loop-field : goal.invariant-loop-field
invariant-loop-field l = (l.all && are_resources (views (drop l.field-index l.list))) ≡ are_resources (views l.list)
