use Rattle.std.proofs.Common.{◌≤◌, ◌-◌, length, IfSome}
use Rattle.listed_events.specs.ListedEvents.{IsPreparedWithPrefix, TellsOn}
use Rattle.listed_events.proofs.prepared_events.prepare_with_prefix.Given as goal

abbrev pub invariant-loop-met : goal.invariant-loop-met
invariant-loop-met g l = record {
  order : l.met ≤ l.unmet;
  within : l.unmet ≤ length l.texts;
  found : IfSome l.found (IsPreparedWithPrefix l.payload l.texts);
  tells : TellsOn (g.P.Patterns.refused l.fn.patterns) (g.P.Patterns.refused l.patterns);
}

abbrev pub decreases-loop-met : goal.decreases-loop-met
decreases-loop-met g l = l.unmet - l.met
