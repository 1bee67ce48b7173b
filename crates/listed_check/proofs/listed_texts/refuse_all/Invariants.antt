use Rattle.std.proofs.Common.{take}
use Rattle.listed_check.specs.ListedTexts.{HasThese, KnowsThese}
use Rattle.listed_check.proofs.listed_texts.refuse_all.Given as goal

abbrev pub invariant-loop-text : goal.invariant-loop-text
invariant-loop-text l = record {
  knows : KnowsThese l.asked l.seen;
  seen : HasThese l.seen (take l.text-index l.texts);
}
