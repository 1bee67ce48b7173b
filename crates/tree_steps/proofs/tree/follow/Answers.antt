use Rattle.std.proofs.Common.{◌<◌, length, arith}
use Rattle.std.proofs.lemmas.Grind.{common_steps}
use Rattle.std.specs.Prelude.{IfOk}
use Rattle.xds_config.specs.declared.config.Leaf.{Leaf}
use Rattle.xds_config.specs.Endpoints.{IsLawfulEndpoints}
use Rattle.tree_steps.proofs.ChildLemmas.{some_lent, all_children, picked_at}
use Rattle.tree_steps.proofs.tree.follow.Goals as goal

pub balancing_states-requires : goal.balancing_states-requires
balancing_states-requires c = rw (c.deref.ensures.value, c.in_ok-named.ensures, c.as_slice.ensures, c.get.ensures) (all_children (λ (l : Leaf). IfOk l.state IsLawfulEndpoints) c.args.leaves.now.leaves c.requires.endpoints)

pub begin-requires : goal.begin-requires
begin-requires c = rw (c.deref-2.ensures.value) (some_lent _ c.args.leaves.now.leaves (rw (c.as_slice.ensures, c.get.ensures) at c.in_ok-named.ensures) c.requires.some)

pub returns-clause-picker : goal.returns-clause-picker
returns-clause-picker c =
    let within : c.update-chosen.result < length c.in_ok-told.told.pickers.items = grind (arith, common_steps) in
    picked_at c.args.reports.now.entries c.args.leaves.now.leaves c.in_ok-named.named.items c.in_ok-told.told.pickers.items c.update-chosen.result c.swap_remove-picker.result
    (rw (c.as_slice.ensures, c.get.ensures) at c.in_ok-named.ensures) (rw (c.deref.ensures.value) at c.in_ok-told.ensures.pickers) within c.swap_remove-picker.ensures.value
