use Rattle.std.proofs.Common.{◌≤◌, ◌+◌, take}
use Rattle.book_fates.specs.FateSteps.{AreListed, AreOf, Stepped, gone_among}
use Rattle.book_fates.specs.Delivered.{delivered_in, told_as}
use Rattle.book_fates.proofs.fates.let_each_go.Given as goal

abbrev pub invariant-loop-key : goal.invariant-loop-key
invariant-loop-key g l = record {
  step : Stepped l.fn.cache l.cache (gone_among (told_as (delivered_in l.response)) (take l.key-index l.keys));
  listed : AreListed l.fn.cache l.cache l.fn.changed l.changed;
  theirs : AreOf l.response.authority l.response.kind l.fn.changed → AreOf l.response.authority l.response.kind l.changed;
  cost : l.steps ≤ l.fn.steps + l.key-index;
}
