use Rattle.std.proofs.Common.{◌≡◌, ◌++◌, drop, string_bytes}
use Rattle.tree_text.specs.TreeText.{children_from}
use Rattle.tree_text.proofs.tree_words.push_children.Given as goal

abbrev pub invariant-loop-place : goal.invariant-loop-place
invariant-loop-place l = string_bytes l.out ++ children_from l.chosen l.place (drop l.place l.children) ≡ string_bytes l.fn.out ++ children_from l.chosen 0 l.children
