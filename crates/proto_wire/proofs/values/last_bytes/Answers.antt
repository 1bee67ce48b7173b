use Rattle.std.proofs.Common.{[]}
use Rattle.proto_wire.specs.FieldValues.{repeated, last_bytes}
use Rattle.proto_wire.specs.View.{views}
use Rattle.proto_wire.proofs.Runs.{last_or-default}
use Rattle.proto_wire.proofs.values.last_bytes.Goals as goal

pub loop-field-init : goal.loop-field-init
unfolding last_bytes
loop-field-init c = last_or-default [] (repeated c.args.number (views c.args.list.now))
