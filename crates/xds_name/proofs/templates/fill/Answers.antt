use Rattle.std.proofs.Common.{refl}
use Rattle.xds_name.proofs.FillLemmas.{filled_ok}
use Rattle.xds_name.proofs.templates.fill.Goals as goal

pub returns : goal.returns
returns c = filled_ok c.replace.result _ c.args.name.now c.args.template.now refl c.replace.ensures.ok
