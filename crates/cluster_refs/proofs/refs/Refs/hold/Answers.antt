use Rattle.std.proofs.Common.{◌≡◌, ◌∙◌, ◌<◌, ◌^◌, ap, arith, length, rules, None}
use Rattle.std.specs.Map.{lookup}
use Rattle.std.specs.BTreeMap.{insert_entry}
use Rattle.cluster_refs.specs.CallReferences.{is_call, call_cmp}
use Rattle.cluster_refs.proofs.CallLemmas.{few_held, kept_hold}
use Rattle.cluster_refs.proofs.refs.Refs.hold.Goals as goal

pub raise-requires : goal.raise-requires
raise-requires c =
    let few : length c.self.inside.holds.entries < 2 ^ 63 = omega (arith, c.len-most.ensures.len, c.len-most.ensures.small) in
    record { room = few_held c.self.inside.pins.entries c.self.inside.holds.entries c.self.inside.counts c.args.name.now c.self.invariant few }

pub invariant_of-self-in-Ok : goal.invariant_of-self-in-Ok
invariant_of-self-in-Ok c =
    let none : lookup (is_call c.args.call) c.self.inside.holds.entries ≡ None = rw (← c.self.view_is) at c.requires in
    let copy : c.in_ok-copy.copy ≡ c.args.name.now = search rules in
    let entries : c.insert.new.map.entries ≡ insert_entry call_cmp c.self.inside.holds.entries c.args.call c.args.name.now = c.in-Ok.ensures.entries ∙ ap (λ held. insert_entry call_cmp c.self.inside.holds.entries c.args.call held) copy in
    kept_hold c.self.inside.pins.entries c.self.inside.holds.entries _ _ _ c.args.call c.args.name.now c.self.invariant none entries c.in-Ok.ensures.ordered c.in_ok-raise.ensures.ok
