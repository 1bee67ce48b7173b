use Rattle.std.proofs.Common.{◌++◌, ◌+◌, ◌∙◌, ap, sym}
use Rattle.session_generator.specs.Rounds.{round_lines}
use Rattle.session_generator.proofs.GeneratedLemmas.{begins, one_more}
use Rattle.session_generator.proofs.session_writing.session_text.Goals as goal

pub loop-before-init : goal.loop-before-init
loop-before-init c = c.in_ok-push_str.ensures.bytes ∙ ap (λ t. t ++ c.first_lines.result.now) c.new-text.ensures.bytes ∙ c.first_lines.ensures ∙ sym begins

pub loop-before-preserved : goal.loop-before-preserved
loop-before-preserved c = c.in_ok-push_round.ensures ∙ ap (λ t. t ++ round_lines (c.loop-before.before + 1)) c.loop-before.invariant ∙ sym (one_more c.loop-before.before)
