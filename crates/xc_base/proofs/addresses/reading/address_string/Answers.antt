use Rattle.std.proofs.Common.{◌∙◌, sym, ap, eqb}
use Rattle.std.specs.List.{list_any}
use Rattle.xc_base.proofs.AddressLemmas.{text_bracketed}
use Rattle.xc_base.proofs.addresses.reading.address_string.Goals as goal

pub returns-in_ok-text : goal.returns-in_ok-text
returns-in_ok-text c = c.in_ok-text.ensures.ok ∙ sym (text_bracketed c.args.host.now c.args.port (sym (c.contains.ensures.value ∙ ap (list_any (λ b. eqb b 58)) c.as_bytes.ensures.value) ∙ c.if-contains.true))
