-- How far each actor has come, counted over a history with the newest entry first (this project's own).
use Rattle.std.specs.Prelude.{ℕ, ◌+◌, ◌-◌, ◌==◌, List, [], ◌∷◌, filter, if◌then◌else◌}
use Rattle.call_journal.specs.declared.event.CallerEvent.{CallerEvent}
use Rattle.call_journal.specs.declared.reply.CallerReply.{CallerReply}
use Rattle.call_journal.specs.declared.entry.What.{What}
use Rattle.call_journal.specs.declared.entry.Entry.{Entry}
use Rattle.call_journal.specs.declared.plan.Count.{Count}

abbrev pub no_count : Count
no_count = record { ended = 0; pins = 0 }

-- an event more has ended
abbrev pub with_ended : Count → Count
with_ended c = record { ended = c.ended + 1; pins = c.pins }

-- a pin more is up
abbrev pub with_pin : Count → Count
with_pin c = record { ended = c.ended; pins = c.pins + 1 }

-- a hold takes a pin down, and ends the event that the pin began
abbrev pub without_pin : Count → Count
without_pin c = record { ended = c.ended + 1; pins = c.pins - 1 }

-- a pin with a snapshot stays up, and one without is all of its event
abbrev pub count_pinned : CallerReply → Count → Count
count_pinned (CallerReply.Pinned number) c = with_pin c
count_pinned reply c = with_ended c

abbrev pub count_called : CallerEvent → CallerReply → Count → Count
count_called (CallerEvent.Pin call) reply c = count_pinned reply c
count_called (CallerEvent.Hold call) reply c = without_pin c
count_called (CallerEvent.Pick id word) reply c = with_ended c
count_called (CallerEvent.Commit id) reply c = with_ended c

-- an actor's count after an entry of its own
abbrev pub count_after : What → Count → Count
count_after (What.Driver event reply) c = with_ended c
count_after (What.Caller event reply) c = count_called event reply c

-- an actor's events that have ended, and its pins that are up
abbrev pub count_of : ℕ → List Entry → Count
count_of actor [] = no_count
count_of actor (e ∷ past) = if e.actor == actor then count_after e.what (count_of actor past) else count_of actor past

-- the entries of an actor
abbrev pub actor_entries : ℕ → List Entry → List Entry
actor_entries actor history = filter (λ e. e.actor == actor) history
