-- The present time, and the reported states of endpoints (this project's own). A history has its newest entry first, so
-- that what came before an entry is a tail of it.
use Rattle.std.specs.Prelude.{max, List, [], ◌∷◌, if◌then◌else◌}
use Rattle.std.specs.Str.{bytes_eq}
use Rattle.xc_base.specs.declared.names.State.{State}
use Rattle.xc_base.specs.declared.names.Time.{Time}
use Rattle.call_journal.specs.declared.event.DriverEvent.{DriverEvent}
use Rattle.call_journal.specs.declared.entry.What.{What}
use Rattle.call_journal.specs.declared.entry.Entry.{Entry}
use Rattle.config_assembly.specs.Orders.{Name}

abbrev pub time_after : DriverEvent → Time → Time
time_after (DriverEvent.Moment time) before = record { 0 = max time.0 before.0 }
time_after _ before = before

abbrev pub time_by : What → Time → Time
time_by (What.Driver event reply) before = time_after event before
time_by (What.Caller event reply) before = before

-- now: the greatest time that was told, or 0
abbrev pub now : List Entry → Time
now [] = record { 0 = 0 }
now (e ∷ past) = time_by e.what (now past)

abbrev pub reported : DriverEvent → Name → State → State
reported (DriverEvent.Endpoint other state) address before = if bytes_eq other address then state else before
reported _ address before = before

abbrev pub reported_by : What → Name → State → State
reported_by (What.Driver event reply) address before = reported event address before
reported_by (What.Caller event reply) address before = before

-- the last reported state of an address, CONNECTING before any
abbrev pub state : List Entry → Name → State
state [] address = State.Connecting
state (e ∷ past) address = reported_by e.what address (state past address)
