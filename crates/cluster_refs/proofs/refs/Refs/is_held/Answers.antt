use Rattle.std.proofs.Common.{arith}
use Rattle.std.proofs.lemmas.Bool.Decides.{nat_tests}
use Rattle.cluster_refs.proofs.RetainedLemmas.{held_counted}
use Rattle.cluster_refs.proofs.refs.Refs.is_held.Goals as goal

pub returns : goal.returns
returns c =
    let counted = held_counted (record { pins = c.self.inside.pins.entries; holds = c.self.inside.holds.entries }) c.args.self.now c.self.inside.counts c.args.name.now c.self.view_is c.self.invariant in (
      λ is. counted.0 (grind (arith, nat_tests, is, c.of.ensures)),
      λ held. let less = counted.1 held in grind (arith, nat_tests, less, c.of.ensures),
    )
