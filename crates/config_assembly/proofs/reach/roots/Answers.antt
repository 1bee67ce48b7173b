use Rattle.std.proofs.Common.{◌≡◌, subst}
use Rattle.std.specs.Prelude.{IfOk}
use Rattle.config_assembly.specs.Orders.{name_cmp}
use Rattle.config_assembly.specs.Front.{names_of}
use Rattle.config_assembly.proofs.OrderLemmas.{put_two}
use Rattle.config_assembly.proofs.reach.roots.Goals as goal

pub returns-clause-names : goal.returns-clause-names
returns-clause-names c =
    subst (λ k. IfOk c.in_order.result (λ names. names ≡ k))
    (put_two name_cmp c.new-names.result.keys c.put_front.new.names.keys c.put_names.new.names.keys (names_of c.args.front.now) c.args.references.now c.new-names.ensures.empty c.in_ok-put_front.ensures c.in_ok-put_names.ensures)
    c.in_order.ensures.names
