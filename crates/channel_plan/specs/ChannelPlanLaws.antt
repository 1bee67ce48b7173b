-- Laws of the plan of a session that is played on a channel (this project's own).
use Rattle.std.specs.Prelude.{◌+◌, List, length}
use Rattle.call_journal.specs.declared.entry.Entry.{Entry}
use Rattle.session_lines.specs.Before.{entries}
use Rattle.session_lines.specs.declared.session.Session.{Session}
use Rattle.session_plan.specs.PlanOfSession.{plan_of}
use Rattle.session_plan.specs.ReadablePayloads.{is_response}
use Rattle.channel_calls.specs.xds_history.Right.{Right}
use Rattle.channel_calls.specs.xds_history.Setting.{Setting}
use Rattle.session_player.specs.legal_history.Legal.{AreOpen}
use Rattle.book_progress.specs.PlayedPlans.{IsPlanPlayed}
use Rattle.channel_calls.specs.ChannelPlans.{IsChannelPlan}
use Rattle.session_shape.specs.SessionShape.{IsWellFormed}

-- a channel of its bootstrap, with room for its entries, plays the plan of a session
abbrev pub PlanIsForAChannel : Type 0
PlanIsForAChannel = (session : Session) → IsWellFormed session → IsChannelPlan (plan_of is_response session) (length session.boot.authorities) (entries session.lines + 1)

-- where replies are right, each entry of a history that plays the plan of a session stands after the line that gates its own
abbrev pub GatesAreOpen : Type 0
GatesAreOpen = (s : Setting) (session : Session) (history : List Entry) → IsWellFormed session → Right s history → IsPlanPlayed (plan_of is_response session) history → AreOpen session.lines history
