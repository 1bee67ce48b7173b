use Rattle.std.proofs.Common.{◌∙◌, sym}
use Rattle.xc_base.proofs.LowerLemmas.{lower_characters}
use Rattle.xc_base.proofs.text.Text.lowercase.Goals as goal

pub returns : goal.returns
returns c = rw (sym (c.in_ok-text.ensures ∙ lower_characters c.args.text.now c.utf8.text)) c.from_string.ensures
