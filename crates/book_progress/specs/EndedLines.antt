-- Which lines have ended in a history with the newest entry first (this project's own).
use Rattle.std.specs.Prelude.{ℕ, ◌==◌, List, Bool, true, false, ◌&&◌, Option, Some, None, IsTrue}
use Rattle.std.specs.List.{list_any}
use Rattle.call_journal.specs.declared.event.DriverEvent.{DriverEvent}
use Rattle.call_journal.specs.declared.event.CallerEvent.{CallerEvent}
use Rattle.call_journal.specs.declared.reply.CallerReply.{CallerReply}
use Rattle.call_journal.specs.declared.entry.What.{What}
use Rattle.call_journal.specs.declared.entry.Entry.{Entry}

-- a response is followed by others of its line, or by its bytes
abbrev pub event_ends : DriverEvent → Bool
event_ends (DriverEvent.Response a payload) = false
event_ends _ = true

-- a pin with a snapshot is followed by its hold
abbrev pub pin_ends : CallerReply → Bool
pin_ends (CallerReply.Pinned number) = false
pin_ends _ = true

abbrev pub call_ends : CallerEvent → CallerReply → Bool
call_ends (CallerEvent.Pin call) reply = pin_ends reply
call_ends event reply = true

-- whether an entry ends its line
abbrev pub ends_line : What → Bool
ends_line (What.Driver event reply) = event_ends event
ends_line (What.Caller event reply) = call_ends event reply

abbrev pub has_ended : ℕ → List Entry → Bool
has_ended line history = list_any (λ e. e.line == line && ends_line e.what) history

-- the line that gates an event, if one does, has ended
abbrev pub IsOpen : Option ℕ → List Entry → Type 0
IsOpen None history = Unit {0}
IsOpen (Some line) history = IsTrue (has_ended line history)
