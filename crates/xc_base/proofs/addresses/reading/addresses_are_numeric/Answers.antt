use Rattle.xc_base.proofs.LowerAddress.{addresses_are_numeric}
use Rattle.xc_base.proofs.addresses.reading.addresses_are_numeric.Goals as goal

pub returns : goal.returns
returns c = addresses_are_numeric
