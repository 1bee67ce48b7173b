use Rattle.std.proofs.Common.{◌∙◌}
use Rattle.config_assembly.proofs.OrderLemmas.{put_alike}
use Rattle.config_assembly.proofs.ordered.put_key.Goals as goal

pub returns : goal.returns
returns c = c.in_ok-insert.ensures.keys ∙ put_alike c.args.keys.now.keys c.args.key
