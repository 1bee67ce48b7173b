-- Pins and holds, and what they are of the history.
use Rattle.std.specs.Prelude.{◌≡◌, ◌==◌, ℕ, List, [], Option, None, if◌then◌else◌, option_map}
use Rattle.std.specs.Option.{option_map_or}
use Rattle.xc_base.specs.declared.names.CallId.{CallId}
use Rattle.cluster_refs.specs.declared.pins.Pin.{Pin}
use Rattle.cluster_refs.specs.CallReferences.{References, pin_of, hold_of, SetsPin, SetsHold}
use Rattle.xds_history.specs.config_assembly.Orders.{Name}
use Rattle.xds_history.specs.declared.page.Page.{Page}
use Rattle.xds_history.specs.References.{snapshot_at, pinned, held, names_in}

-- the clusters that the host of a snapshot names
abbrev pub names_at : List Page → ℕ → List Name
names_at ps number = option_map_or names_in (snapshot_at number ps) []

-- these as the list of the snapshot's number
abbrev pub list_at : List Page → ℕ → Pin
list_at ps number = record { number = number; names = names_at ps number }

-- the list that a call has pinned
abbrev pub pin_in : List Page → CallId → Option Pin
pin_in ps id = option_map (list_at ps) (pinned ps id)

-- these are the pins and the holds
pub record AreRefs (pin : CallId → Option Pin) (hold : CallId → Option Name) (refs : References) : Type 0 where
  pub pins : (id : CallId) → pin_of refs id ≡ pin id
  pub holds : (id : CallId) → hold_of refs id ≡ hold id

-- they are those of the history
abbrev pub AreRefsAt : List Page → References → Type 0
AreRefsAt ps refs = AreRefs (pin_in ps) (held ps) refs

-- a function of calls with another value at one
abbrev pub at_call : {X : Type 0} → CallId → X → (CallId → X) → CallId → X
at_call id value f other = if id.0 == other.0 then value else f other

-- what a hold makes of pins and holds: the call has no pin any more and holds this name, where there is one
pub record SetsBoth (old new : References) (id : CallId) (hold : Option Name) : Type 0 where
  pub between : References
  pub holds : SetsHold old between id hold
  pub unpins : SetsPin between new id None
