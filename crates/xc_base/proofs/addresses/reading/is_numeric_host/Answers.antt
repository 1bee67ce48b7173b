use Rattle.std.proofs.Common.{◌∙◌, sym, ap, ◌||◌}
use Rattle.xc_base.specs.Addresses.{is_ipv6}
use Rattle.xc_base.proofs.AddressLemmas.{host_tested}
use Rattle.xc_base.proofs.addresses.reading.is_numeric_host.Goals as goal

pub returns-then-is_ipv4-clause-numeric : goal.returns-then-is_ipv4-clause-numeric
returns-then-is_ipv4-clause-numeric c =
    host_tested _ _ (c.if-is_ipv4.true ∙ ap (λ a. a || is_ipv6 c.args.host.now) (sym c.if-is_ipv4.true ∙ c.is_ipv4.ensures))

pub returns-else-is_ipv4-clause-numeric : goal.returns-else-is_ipv4-clause-numeric
returns-else-is_ipv4-clause-numeric c =
    host_tested _ _ (c.is_ipv6.ensures ∙ ap (λ a. a || is_ipv6 c.args.host.now) (sym c.if-is_ipv4.false ∙ c.is_ipv4.ensures))
