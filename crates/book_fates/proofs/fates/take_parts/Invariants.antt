use Rattle.std.proofs.Common.{◌≡◌, ◌≤◌, ◌+◌, length, option_map}
use Rattle.xc_base.specs.declared.names.Key.{Key}
use Rattle.xds_cache.specs.KeptFates.{known_of}
use Rattle.book_fates.specs.FateSteps.{AreLawfulParts, AreListed, AreOf, parts_step}
use Rattle.book_fates.proofs.fates.take_parts.Given as goal

abbrev pub invariant-loop-part : goal.invariant-loop-part
invariant-loop-part l = record {
  lawful : AreLawfulParts l.kind l.left.items;
  step : (key : Key) → option_map (parts_step l.authority l.kind l.left.items key) (known_of l.cache key) ≡ option_map (parts_step l.authority l.kind l.fn.parts key) (known_of l.fn.cache key);
  listed : AreListed l.fn.cache l.cache l.fn.changed l.changed;
  theirs : AreOf l.authority l.kind l.fn.changed → AreOf l.authority l.kind l.changed;
  few : length l.changed + length l.left.items ≤ length l.fn.changed + length l.fn.parts;
}

abbrev pub decreases-loop-part : goal.decreases-loop-part
decreases-loop-part l = length l.left.items
