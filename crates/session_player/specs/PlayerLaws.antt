-- The law of sessions that are played in the order of the file (this project's own).
use Rattle.std.specs.Prelude.{ℕ, ◌<◌, List, length, Some, All}
use Rattle.call_journal.specs.declared.entry.Entry.{Entry}
use Rattle.session_lines.specs.declared.session.Session.{Session}
use Rattle.session_plan.specs.PlanOfSession.{plan_of}
use Rattle.session_plan.specs.ReadablePayloads.{is_response}
use Rattle.legal_plan.specs.xds_history.Right.{Right}
use Rattle.legal_plan.specs.xds_history.Setting.{setting_of}
use Rattle.legal_plan.specs.legal_history.Legal.{EndsInSweep, Legal}
use Rattle.book_progress.specs.PlayedPlans.{IsPlayed}
use Rattle.session_player.specs.LineProgress.{IsAtEnd}

-- a right history that plays the plan of a session is legal where all lines and the last sweep have been played
abbrev pub EndIsLegal : Type 0
EndIsLegal = (session : Session) (history : List Entry) → Right (setting_of session.boot session.target) history → IsPlayed (Some (plan_of is_response session)) history
    → All (λ e. e.actor < length (plan_of is_response session)) history → IsAtEnd session history → EndsInSweep history → Legal session history
