use Rattle.std.proofs.Common.{◌∙◌, sym}
use Rattle.xc_base.proofs.LowerAddress.{address_reads}
use Rattle.xc_base.proofs.addresses.reading.address.Goals as goal

pub invariant_of-result : goal.invariant_of-result
invariant_of-result c = rw c.in_ok-text.ensures (address_reads c.args.text.now (sym c.is_address.ensures.value ∙ c.if-not-is_address.false))
