use Rattle.std.proofs.Common.{lit<, None}
use Rattle.std.proofs.lemmas.Str.Pattern.{split_once_first}
use Rattle.xc_base.proofs.AddressLemmas.{no_ipv4_port}
use Rattle.xc_base.proofs.addresses.reading.is_ipv4_with_port.Goals as goal

pub returns-in-None : goal.returns-in-None
returns-in-None c = no_ipv4_port c.args.text.now (split_once_first 58 c.args.text.now None c.in-None.ensures.cases (lit< tt))
