use Rattle.std.proofs.Common.{[]}
use Rattle.std.proofs.lemmas.Str.{IsUtf8-nil}
use Rattle.proto_wire.specs.FieldValues.{texts, last_text}
use Rattle.proto_wire.specs.View.{views}
use Rattle.proto_wire.proofs.Runs.{last_or-default_read}
use Rattle.proto_wire.proofs.values.last_text.Goals as goal

pub loop-field-init : goal.loop-field-init
unfolding last_text
loop-field-init c = record { utf8 = IsUtf8-nil; read = last_or-default_read [] (texts c.args.number (views c.args.list.now)) }
