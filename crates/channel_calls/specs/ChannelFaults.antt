-- The causes of a channel's faults (this project's own).
use Rattle.std.specs.Prelude.{◌≡◌, ◌≢◌}
use Rattle.call_journal.specs.declared.plan.Count.{Count}
use Rattle.channel_calls.specs.declared.channel_faults.ChanFault.{ChanFault}
use Rattle.channel_calls.specs.declared.channel_faults.First.{First}

-- a channel ends by two counts that differ, or by want of memory
abbrev pub IsFirst : First → Type 0
IsFirst (First.Stranger book lane) = book ≢ lane
IsFirst First.Memory = Unit {0}

-- A call with a lane of this count fails where the Book's count differs from it, or where the channel has ended for one of
-- these causes. Want of memory is free.
abbrev pub IsCauseAt : Count → ChanFault → Type 0
IsCauseAt count (ChanFault.Stranger book lane) = (book ≢ lane) × (lane ≡ count)
IsCauseAt count (ChanFault.Ended first) = IsFirst first
IsCauseAt count ChanFault.Memory = Unit {0}
