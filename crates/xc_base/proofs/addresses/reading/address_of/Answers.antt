use Rattle.std.proofs.Common.{◌∙◌, sym, ap}
use Rattle.std.specs.Str.{str_to_ascii_lowercase}
use Rattle.xc_base.proofs.LowerAddress.{made_reads}
use Rattle.xc_base.specs.Addresses.{is_in_port_range}
use Rattle.xc_base.proofs.addresses.reading.address_of.Goals as goal

pub invariant_of-result : goal.invariant_of-result
invariant_of-result c =
    let text = c.in_ok-text-2.ensures ∙ ap str_to_ascii_lowercase (c.deref.ensures ∙ c.in_ok-text.ensures) in
    let in_range = sym (c.is_in_port_range.ensures ∙ ap is_in_port_range c.from.ensures) ∙ c.if-not-is_in_port_range.false in
    rw text (made_reads c.args.host.now c.args.port (sym c.is_numeric_host.ensures.value ∙ c.if-not-is_numeric_host.false) in_range)
