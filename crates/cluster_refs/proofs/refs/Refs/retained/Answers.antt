use Rattle.std.proofs.Common.{◌≡◌, ◌∙◌, [], map, refl, ap, rules, Result, Ok, Err}
use Rattle.std.specs.Prelude.{IfOk}
use Rattle.std.specs.Map.{values_of}
use Rattle.cluster_refs.specs.PinnedNames.{put_in, put_pins}
use Rattle.std.proofs.lemmas.List.{nil_from_length}
use Rattle.cluster_refs.proofs.RetainedLemmas.{held_retained, retained}
use Rattle.cluster_refs.proofs.refs.Refs.retained.Goals as goal

-- what holds of a value by two facts
by_both : {T E : Type 0} (result : Result T E) (P Q R : T → Type 0) → ((x : T) → P x → Q x → R x) → IfOk result P → IfOk result Q → IfOk result R
by_both (Ok x) P Q R gives p q = gives x p q
by_both (Err fault) P Q R gives p q = tt

pub returns-then-is_empty : goal.returns-then-is_empty
returns-then-is_empty c =
    held_retained (record { pins = c.self.inside.pins.entries; holds = c.self.inside.holds.entries }) c.args.self.now c.self.inside.counts c.in_ok-held.held c.self.view_is c.self.invariant
    (nil_from_length c.self.inside.pins.entries (c.if-is_empty.ensures.0 refl)) c.in_ok-held.ensures.members c.in_ok-held.ensures.rising

pub returns : goal.returns
returns c =
    let listed : map (λ pin. pin.now) c.as_slice-2.result.now ≡ values_of c.self.inside.pins.entries = search rules in
    let held : c.put_names.new.names.keys ≡ put_in [] c.in_ok-held.held = search rules in
    let keys : c.put_pins.new.names.keys ≡ put_pins (put_in [] c.in_ok-held.held) [] (values_of c.self.inside.pins.entries) =
    c.in_ok-put_pins.ensures ∙ ap (λ ps. put_pins c.put_names.new.names.keys [] ps) listed ∙ ap (λ ns. put_pins ns [] (values_of c.self.inside.pins.entries)) held in
    by_both c.in_order.result _ _ _
    (λ names are rising.
    retained (record { pins = c.self.inside.pins.entries; holds = c.self.inside.holds.entries }) c.args.self.now c.self.inside.counts c.in_ok-held.held c.put_pins.new.names.keys names
    c.self.view_is c.self.invariant c.in_ok-held.ensures.members keys are rising)
    c.in_order.ensures.names c.in_order.ensures.rising
