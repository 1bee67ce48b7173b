-- Children as the code lends them.
use Rattle.std.specs.Prelude.{List, map}
use Rattle.tree_steps.specs.declared.leaf_children.Child.{Child as LentChild}
use Rattle.tree_steps.specs.Reports.{Child}

abbrev pub lent : LentChild → Child
lent child = (child.leaf.now, child.priority)

abbrev pub all_lent : List LentChild → List Child
all_lent children = map lent children
