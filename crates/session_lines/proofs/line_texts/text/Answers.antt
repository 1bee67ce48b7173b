use Rattle.session_lines.proofs.TextLemmas.{is_text, isnt_text}
use Rattle.session_lines.proofs.line_texts.text.Goals as goal

pub returns-in-Ok-clause-found : goal.returns-in-Ok-clause-found
returns-in-Ok-clause-found c = is_text c.args.bytes.now c.in-Ok.ensures.cases.1

pub returns-in-Err-clause-found : goal.returns-in-Err-clause-found
returns-in-Err-clause-found c = isnt_text c.args.bytes.now c.in-Err.ensures.cases.0
