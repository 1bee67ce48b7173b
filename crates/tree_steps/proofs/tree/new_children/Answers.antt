use Rattle.std.proofs.Common.{map, sym, ◌∙◌}
use Rattle.tree_steps.specs.Reports.{name_of}
use Rattle.tree_steps.specs.Lent.{all_lent}
use Rattle.tree_steps.proofs.ChildLemmas.{length-named, fresh_begun}
use Rattle.tree_steps.proofs.tree.new_children.Goals as goal

pub returns : goal.returns
returns c = c.in_ok-fresh.ensures ∙ fresh_begun (map name_of (all_lent c.args.children.now)) c.args.count (c.requires.count ∙ sym (length-named c.args.children.now))
