use Rattle.std.proofs.Common.{◌∙◌, lit<, Some, None}
use Rattle.std.proofs.lemmas.Str.Pattern.{strip_prefix_char}
use Rattle.xc_base.proofs.AddressLemmas.{is_address-bracketed, is_address-plain, address_tested}
use Rattle.xc_base.proofs.addresses.reading.is_address.Goals as goal

pub returns-in-Some-clause-value : goal.returns-in-Some-clause-value
returns-in-Some-clause-value c =
    c.is_ipv6_with_port.ensures
    ∙ is_address-bracketed c.args.text.now c.in-Some.rest.now (strip_prefix_char 91 c.args.text.now (Some c.in-Some.rest) c.in-Some.ensures.cases (lit< tt))

pub returns-in-Some-clause-numeric : goal.returns-in-Some-clause-numeric
returns-in-Some-clause-numeric c = address_tested _ _ (returns-in-Some-clause-value c)

pub returns-in-None-clause-value : goal.returns-in-None-clause-value
returns-in-None-clause-value c =
    c.is_ipv4_with_port.ensures
    ∙ is_address-plain c.args.text.now (strip_prefix_char 91 c.args.text.now None c.in-None.ensures.cases (lit< tt))

pub returns-in-None-clause-numeric : goal.returns-in-None-clause-numeric
returns-in-None-clause-numeric c = address_tested _ _ (returns-in-None-clause-value c)
