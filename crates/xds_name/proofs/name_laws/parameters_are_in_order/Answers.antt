use Rattle.xds_name.proofs.OrderLemmas.{are_in_order}
use Rattle.xds_name.proofs.name_laws.parameters_are_in_order.Goals as goal

pub returns : goal.returns
returns c = are_in_order
