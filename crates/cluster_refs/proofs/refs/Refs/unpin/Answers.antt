use Rattle.std.proofs.Common.{◌∙◌, ap, refl, None}
use Rattle.cluster_refs.specs.CallReferences.{pin_of}
use Rattle.cluster_refs.proofs.CallLemmas.{kept_unpin, sets_pin, had_none}
use Rattle.cluster_refs.proofs.refs.Refs.unpin.Goals as goal

pub invariant_of-self : goal.invariant_of-self
invariant_of-self c =
    kept_unpin c.self.inside.pins.entries _ c.self.inside.holds.entries c.self.inside.counts c.args.call c.self.invariant c.in-Some.ensures.ordered c.in-Some.ensures.updates.0

pub returns-in-Some-clause-gone : goal.returns-in-Some-clause-gone
returns-in-Some-clause-gone c =
    sets_pin (record { pins = c.self.inside.pins.entries; holds = c.self.inside.holds.entries }) c.args.self.now c.remove.new.self.entries c.args.call None None c.self.view_is refl c.in-Some.ensures.updates.0

pub returns-in-None-clause-had : goal.returns-in-None-clause-had
returns-in-None-clause-had c = had_none (pin_of c.args.self.now c.args.call) (c.in-None.ensures.value ∙ ap (λ refs. pin_of refs c.args.call) c.self.view_is)
