-- The state of a locality from its endpoints, and of a priority from its localities (gRPC's weighted_target and
-- round_robin policies).
use Rattle.std.specs.Prelude.{Bool, true, false, if◌then◌else◌, List}
use Rattle.std.specs.List.{list_any}
use Rattle.xc_base.specs.declared.names.State.{State}
use Rattle.xc_base.specs.declared.names.State.TheVariants.{Connecting, Ready, Failing}

abbrev pub is_ready : State → Bool
is_ready Ready = true
is_ready Connecting = false
is_ready Failing = false

abbrev pub is_connecting : State → Bool
is_connecting Connecting = true
is_connecting Ready = false
is_connecting Failing = false

-- READY where one is, else CONNECTING where one is, else failing
abbrev pub joined : List State → State
joined states =
    if list_any is_ready states then Ready
    else if list_any is_connecting states then Connecting
    else Failing
