use Rattle.std.proofs.Common.{◌∙◌, sym, ap}
use Rattle.xc_base.proofs.Ipv6Parsed.{has_dot, ipv6_parsed, ipv6_dotted}
use Rattle.xc_base.proofs.addresses.reading.is_ipv6.Goals as goal

pub returns-then-contains : goal.returns-then-contains
returns-then-contains c = sym (ipv6_dotted _ (sym (c.contains.ensures.value ∙ ap has_dot c.as_bytes.ensures.value) ∙ c.if-contains.true))

pub returns : goal.returns
returns c = c.is_ok.ensures.value ∙ ipv6_parsed _ _ c.parse.ensures.value (sym (c.contains.ensures.value ∙ ap has_dot c.as_bytes.ensures.value) ∙ c.if-contains.false)
