-- The names of pinned lists, each list once.
use Rattle.std.specs.Prelude.{ℕ, List, [], ◌∷◌, Bool, if◌then◌else◌}
use Rattle.std.specs.List.{list_any}
use Rattle.std.specs.BTreeSet.{insert_key}
use Rattle.std.specs.Ordering.{nat_cmp, is_eq}
use Rattle.cluster_refs.specs.declared.pins.Pin.{Pin}
use Rattle.cluster_refs.specs.ReferredNames.{Name, name_cmp}

-- names in order with these put in, each at its place, where it isn't there yet
abbrev pub put_in : List Name → List Name → List Name
put_in names [] = names
put_in names (name ∷ more) = put_in (insert_key name_cmp names name) more

abbrev pub is_seen : List ℕ → ℕ → Bool
is_seen numbers number = list_any (λ other. is_eq (nat_cmp number other)) numbers

-- the names of these pins put in, but for the lists whose numbers were seen
abbrev pub put_pins : List Name → List ℕ → List Pin → List Name
put_pins names numbers [] = names
put_pins names numbers (pin ∷ pins) =
    if is_seen numbers pin.number then put_pins names numbers pins else put_pins (put_in names pin.names) (insert_key nat_cmp numbers pin.number) pins
