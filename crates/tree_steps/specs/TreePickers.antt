-- What picks are made from: the picker of a child (gRFC A56, A74).
use Rattle.std.specs.Prelude.{ℕ, ◌+◌, Bool, if◌then◌else◌, List, [], ◌∷◌, length, nat_lt, filter, slice_get, Result, Ok, Err}
use Rattle.std.specs.List.{list_any}
use Rattle.std.specs.Option.{option_map_or}
use Rattle.xc_base.specs.declared.names.State.{State}
use Rattle.xc_base.specs.declared.names.State.TheVariants.{Connecting, Ready, Failing}
use Rattle.xc_base.specs.declared.reason.Reason.{Reason}
use Rattle.xc_base.specs.declared.reason.Reason.TheVariants as reason
use Rattle.xds_config.specs.declared.config.Leaf.{Leaf}
use Rattle.xds_config.specs.declared.endpoint_values.EndpointValue.{EndpointValue}
use Rattle.xds_config.specs.declared.endpoint_values.Locality.{Locality}
use Rattle.weighted_lb.specs.States.{is_ready}
use Rattle.weighted_lb.specs.declared.picker.Part.{Part as OnePart}
use Rattle.weighted_lb.specs.declared.picker.Picker.{Picker}
use Rattle.weighted_lb.specs.declared.picker.PickBody.{PickBody}
use Rattle.weighted_lb.specs.declared.picker.PickBody.TheVariants as body
use Rattle.weighted_lb.specs.Pick.{weights_of}
use Rattle.weight_pick.specs.Weights.{cumulated}
use Rattle.tree_steps.specs.Reports.{Reports, Child, state_in, locality_in, at_priority, priority_in, children_of}

-- a READY locality at a place of its priority, with its READY addresses
abbrev pub part_at : Reports → ℕ → Locality → OnePart
part_at reports place locality = record {
  locality = place;
  weight = locality.weight;
  ready = filter (λ a. is_ready (state_in reports a)) locality.addresses;
}

-- the READY ones of the localities, the first of which has this place
abbrev pub parts_from : Reports → ℕ → List Locality → List OnePart
parts_from reports place [] = []
parts_from reports place (l ∷ ls) =
    if is_ready (locality_in reports l) then part_at reports place l ∷ parts_from reports (place + 1) ls
    else parts_from reports (place + 1) ls

abbrev pub parts_of : Reports → ℕ → List Locality → List OnePart
parts_of reports priority localities = parts_from reports 0 (at_priority priority localities)

abbrev pub has_address : Locality → Bool
has_address locality = nat_lt 0 (length locality.addresses)

-- why a priority fails: it has no address, or none of them can be reached
abbrev pub failure_of : ℕ → List Locality → Reason
failure_of priority localities = if list_any has_address (at_priority priority localities) then reason.Failing else reason.NoEndpoints

-- the READY localities where the priority is READY; calls wait where it is CONNECTING, and fail where it fails
abbrev pub endpoint_body : State → Reports → ℕ → List Locality → PickBody
endpoint_body Ready reports priority localities = body.Ready (parts_of reports priority localities) (cumulated (weights_of (parts_of reports priority localities)))
endpoint_body Connecting reports priority localities = body.Queue
endpoint_body Failing reports priority localities = body.Fail (failure_of priority localities)

-- a leaf in error fails with its reason
abbrev pub picker_in : Reports → ℕ → Result EndpointValue Reason → Picker
picker_in reports priority (Ok endpoints) = record {
  drops = endpoints.drops;
  body = endpoint_body (priority_in reports priority endpoints.localities) reports priority endpoints.localities;
}
picker_in reports priority (Err reason) = record { drops = []; body = body.Fail reason }

abbrev pub child_picker : Reports → Child → Picker
child_picker reports child = picker_in reports child.1 child.0.state

-- the picker of the child at a place; where there is none, calls wait
abbrev pub picker_at : Reports → List Leaf → ℕ → Picker
picker_at reports leaves place = option_map_or (child_picker reports) (slice_get (children_of leaves) place) (record { drops = []; body = body.Queue })
