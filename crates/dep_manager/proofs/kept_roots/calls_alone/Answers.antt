use Rattle.std.proofs.Common.{ap, ◌∙◌}
use Rattle.config_assembly.specs.Front.{names_of}
use Rattle.config_assembly.specs.Orders.{name_cmp, put_in}
use Rattle.dep_manager.proofs.RootLemmas.{outside_alone}
use Rattle.dep_manager.proofs.kept_roots.calls_alone.Goals as goal

pub returns : goal.returns
returns c =
    outside_alone (names_of c.args.front.now) c.put_front.new.names.keys c.args.references.now c.in_ok-alone.alone
    (c.in_ok-put_front.ensures ∙ ap (λ names. put_in name_cmp names (names_of c.args.front.now)) c.new-named.ensures.empty) c.in_ok-alone.ensures
