use Rattle.std.proofs.Common.{◌≡◌, ◌++◌, take}
use Rattle.xds_book.proofs.refused_texts.push_texts.Given as goal

abbrev pub invariant-loop-text : goal.invariant-loop-text
invariant-loop-text l = l.list ≡ l.fn.list ++ take l.text-index l.texts
