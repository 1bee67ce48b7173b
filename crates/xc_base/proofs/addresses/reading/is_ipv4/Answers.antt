use Rattle.std.proofs.Common.{◌∙◌}
use Rattle.xc_base.proofs.Ipv4Lemmas.{ipv4_parsed}
use Rattle.xc_base.proofs.addresses.reading.is_ipv4.Goals as goal

pub returns : goal.returns
returns c = c.is_ok.ensures.value ∙ ipv4_parsed _ _ c.parse.ensures.value
