use Rattle.std.specs.Prelude.{◌≡◌, string_bytes}
use Rattle.session_generator.specs.Generated.{generated}
use Rattle.session_generator.proofs.session_writing.session_text.Given as goal

abbrev pub invariant-loop-before : goal.invariant-loop-before
invariant-loop-before l = string_bytes l.text ≡ generated l.before
