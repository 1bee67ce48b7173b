use Rattle.std.proofs.Common.{◌∙◌, ap, sym, refl, None}
use Rattle.cluster_refs.specs.CallReferences.{hold_of}
use Rattle.cluster_refs.proofs.CallLemmas.{kept_release, sets_hold}
use Rattle.cluster_refs.proofs.refs.Refs.release.Goals as goal

pub invariant_of-self : goal.invariant_of-self
invariant_of-self c =
    kept_release c.self.inside.pins.entries c.self.inside.holds.entries _ _ _ c.args.call c.in-Some.name c.self.invariant (sym c.in-Some.ensures.value) c.in-Some.ensures.entries c.in-Some.ensures.ordered c.lower.ensures

pub returns-in-Some-clause-held : goal.returns-in-Some-clause-held
returns-in-Some-clause-held c = c.in-Some.ensures.value ∙ ap (λ refs. hold_of refs c.args.call) c.self.view_is

pub returns-in-Some-clause-gone : goal.returns-in-Some-clause-gone
returns-in-Some-clause-gone c =
    sets_hold (record { pins = c.self.inside.pins.entries; holds = c.self.inside.holds.entries }) c.args.self.now c.remove.new.self.entries c.args.call None None c.self.view_is refl c.in-Some.ensures.updates.0

pub returns-in-None-clause-held : goal.returns-in-None-clause-held
returns-in-None-clause-held c = c.in-None.ensures.value ∙ ap (λ refs. hold_of refs c.args.call) c.self.view_is
