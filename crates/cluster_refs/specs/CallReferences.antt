-- The clusters that calls refer to. The configuration keeps a cluster while a call may still use it, also
-- where no route names it any more (gRFC A31, the references that the config selector takes; gRFC A74).
use Rattle.std.specs.Prelude.{◌≡◌, ◌⊎◌, ◌↔◌, ℕ, List, Bool, Option, Some, Contains, sum_by, if◌then◌else◌}
use Rattle.std.specs.declared.cmp.Ordering.{Ordering}
use Rattle.std.specs.List.Sorted.{IsStrictlySortedBy}
use Rattle.std.specs.Map.{lookup, keys_of, values_of}
use Rattle.std.specs.Ordering.{nat_cmp, is_eq, on}
use Rattle.xc_base.specs.declared.names.CallId.{CallId}
use Rattle.cluster_refs.specs.declared.pins.Pin.{Pin}
use Rattle.cluster_refs.specs.ReferredNames.{Name, name_cmp, once, count_of}

-- the list of each open pin with its number, and the name that each call holds
pub record References : Type 0 where
  pub pins : List (CallId × Pin)
  pub holds : List (CallId × Name)

abbrev pub call_cmp : CallId → CallId → Ordering
call_cmp = on (λ call. call.0) nat_cmp

abbrev pub is_call : CallId → CallId → Bool
is_call call other = is_eq (call_cmp call other)

-- the list that the call has pinned, where its pin is open
abbrev pub pin_of : References → CallId → Option Pin
pin_of refs call = lookup (is_call call) refs.pins

-- the name that the call holds, where it holds one
abbrev pub hold_of : References → CallId → Option Name
hold_of refs call = lookup (is_call call) refs.holds

-- this is the call's pin now, and all else is as before
pub record SetsPin (old new : References) (call : CallId) (pin : Option Pin) : Type 0 where
  pub pins : (other : CallId) → pin_of new other ≡ (if is_call call other then pin else pin_of old other)
  pub holds : new.holds ≡ old.holds

-- this is what the call holds now, and all else is as before
pub record SetsHold (old new : References) (call : CallId) (hold : Option Name) : Type 0 where
  pub holds : (other : CallId) → hold_of new other ≡ (if is_call call other then hold else hold_of old other)
  pub pins : new.pins ≡ old.pins

-- where the list of this number is pinned, it has these names
abbrev pub IsListOf : References → ℕ → List Name → Type 0
IsListOf refs number names = (call : CallId) (pin : Pin) → pin_of refs call ≡ Some pin → pin.number ≡ number → pin.names ≡ names

-- an open pin has the name
abbrev pub IsPinned : References → Name → Type 0
IsPinned refs name = (call : CallId) × (pin : Pin) × (pin_of refs call ≡ Some pin) × Contains pin.names name

-- a call holds the name
abbrev pub IsHeld : References → Name → Type 0
IsHeld refs name = (call : CallId) × (hold_of refs call ≡ Some name)

-- the names with a pin or a hold and no others, in strictly rising order of their bytes
pub record AreRetained (refs : References) (names : List Name) : Type 0 where
  pub rising : IsStrictlySortedBy name_cmp names
  pub members : (name : Name) → Contains names name ↔ (IsPinned refs name ⊎ IsHeld refs name)

-- pinned lists of one number are equal
abbrev pub AreNumbered : List (CallId × Pin) → Type 0
AreNumbered pins = (call other : CallId) (pin next : Pin) → lookup (is_call call) pins ≡ Some pin → lookup (is_call other) pins ≡ Some next → pin.number ≡ next.number → pin.names ≡ next.names

-- both lists are in the order of the calls, pinned lists are told by their numbers, and the counts are those of the holds
pub record AreKept (pins : List (CallId × Pin)) (holds : List (CallId × Name)) (counts : List (Name × ℕ)) : Type 0 where
  pub pins_ordered : IsStrictlySortedBy call_cmp (keys_of pins)
  pub holds_ordered : IsStrictlySortedBy call_cmp (keys_of holds)
  pub numbered : AreNumbered pins
  pub counted : (name : Name) → count_of counts name ≡ sum_by (once name) (values_of holds)
