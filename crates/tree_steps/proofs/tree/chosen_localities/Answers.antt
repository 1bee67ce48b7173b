use Rattle.std.proofs.Common.{◌<◌, length, map}
use Rattle.tree_steps.proofs.ChildLemmas.{localities_are}
use Rattle.tree_steps.proofs.tree.chosen_localities.Goals as goal

pub returns : goal.returns
returns c =
    let lt : c.chosen.result < length c.in_ok-children.children.items = rw (c.chosen.ensures, c.in_ok-children.ensures.count) c.in_ok-children.ensures.chosen in
    rw (← c.chosen.ensures) (localities_are c.args.tree.now.leaves.leaves c.in_ok-children.children.items c.chosen.result c.index.result.now (map (λ l. l.now) c.in_ok-localities.localities.items) c.in_ok-children.ensures.children lt c.index.ensures c.in_ok-localities.ensures)
