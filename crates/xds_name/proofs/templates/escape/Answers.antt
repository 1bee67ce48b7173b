use Rattle.std.proofs.Common.{◌∙◌}
use Rattle.xds_name.proofs.EscapeLemmas.{added, escaped_by_set}
use Rattle.xds_name.proofs.templates.escape.Goals as goal

pub returns : goal.returns
returns c = added _ _ _ _ c.in_ok-append_to.ensures.ok c.new-text.ensures.bytes (c.utf8_percent_encode.ensures.text ∙ escaped_by_set c.args.name.now)
