-- Which of two trees serves while a balancer is replaced (this project's own, after gRPC's graceful switch).
use Rattle.std.specs.Prelude.{Bool, true, false, if◌then◌else◌, Option, Some, None}
use Rattle.xc_base.specs.declared.names.State.{State}
use Rattle.xc_base.specs.declared.names.State.TheVariants.{Connecting, Ready, Failing}

-- what serves, and what waits to serve
pub record Pair (T : Type 0) : Type 0 where
  pub serving : T
  pub waiting : Option T

-- the new one waits while the old one is READY and it is CONNECTING itself
abbrev pub has_to_wait : State → State → Bool
has_to_wait Ready Connecting = true
has_to_wait Ready Ready = false
has_to_wait Ready Failing = false
has_to_wait Connecting new = false
has_to_wait Failing new = false

-- what serves and what waits once the one that waits takes over where it can
abbrev pub settled : {T : Type 0} → (T → State) → T → Option T → Pair T
settled state serving None = record { serving = serving; waiting = None }
settled state serving (Some new) =
    if has_to_wait (state serving) (state new) then record { serving = serving; waiting = Some new }
    else record { serving = new; waiting = None }

-- what no longer serves then
abbrev pub replaced : {T : Type 0} → (T → State) → T → Option T → Option T
replaced state serving None = None
replaced state serving (Some new) = if has_to_wait (state serving) (state new) then None else Some serving

-- another value serves
abbrev pub with_serving : {T : Type 0} → Pair T → T → Pair T
with_serving pair serving = record { serving = serving; waiting = pair.waiting }

-- another value waits
abbrev pub with_waiting : {T : Type 0} → Pair T → T → Pair T
with_waiting pair waiting = record { serving = pair.serving; waiting = Some waiting }
