use Rattle.std.proofs.Common.{lit<, None}
use Rattle.std.proofs.lemmas.Str.Pattern.{strip_prefix_char}
use Rattle.xc_base.proofs.AddressLemmas.{no_colon_port}
use Rattle.xc_base.proofs.addresses.reading.is_colon_port.Goals as goal

pub returns-in-None : goal.returns-in-None
returns-in-None c = no_colon_port c.args.text.now (strip_prefix_char 58 c.args.text.now None c.in-None.ensures.cases (lit< tt))
