-- The timers that run in the order of their starts.
use Rattle.std.specs.Prelude.{◌≡◌, ◌↔◌, List, [], ◌∷◌, Contains, Some, if◌then◌else◌}
use Rattle.xc_base.specs.declared.names.Key.{Key}
use Rattle.xc_base.specs.declared.names.Time.{Time}
use Rattle.watch_timers.specs.declared.timers.Started.{Started}
use Rattle.watch_timers.specs.Timers.{Running, started_at, has_run}

-- the order has a key with a time exactly where the key's timer runs since then
abbrev pub IsOrderOf : List Started → Running → Type 0
IsOrderOf order timers = (key : Key) (at : Time) → Contains order (record { at = at; key = key }) ↔ (started_at timers key ≡ Some at)

-- the timers before the first that hasn't run out
abbrev pub first_due : Time → List Started → List Started
first_due now [] = []
first_due now (started ∷ order) = if has_run now started.at then started ∷ first_due now order else []

-- the first timer that hasn't run out, and all behind it
abbrev pub after_due : Time → List Started → List Started
after_due now [] = []
after_due now (started ∷ order) = if has_run now started.at then after_due now order else started ∷ order
