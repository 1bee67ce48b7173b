use Rattle.std.proofs.Common.{ap, ◌∙◌, ◌++◌, string_bytes}
use Rattle.tree_text.specs.Escapes.{escaped}
use Rattle.tree_text.proofs.EscapeSets.{escaped_by_set}
use Rattle.tree_text.proofs.escapes.push_escaped.Goals as goal

pub returns : goal.returns
returns c =
    c.in_ok-append_to.ensures.ok
    ∙ ap (λ text. string_bytes c.args.out.now ++ text) (c.utf8_percent_encode.ensures.text ∙ escaped_by_set c.as_str-text.result.now ∙ ap escaped c.as_str-text.ensures)
