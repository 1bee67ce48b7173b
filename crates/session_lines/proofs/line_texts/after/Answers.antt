use Rattle.session_lines.proofs.TextLemmas.{stripped}
use Rattle.session_lines.proofs.line_texts.after.Goals as goal

pub returns : goal.returns
returns c = stripped c.args.front.now c.args.text.now c.strip_prefix.result c.strip_prefix.ensures.cases
