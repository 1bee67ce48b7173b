-- Histories in which each actor has played its list of the plan are legal (this project's own).
use Rattle.std.specs.Prelude.{List}
use Rattle.call_journal.specs.declared.entry.Entry.{Entry}
use Rattle.call_journal.specs.declared.plan.Listed.{Listed}
use Rattle.session_lines.specs.declared.session.Session.{Session}
use Rattle.session_plan.specs.PlanLaws.{HaveEnded}
use Rattle.session_plan.specs.PlanOfSession.{plan_of}
use Rattle.session_plan.specs.PlayedEvents.{Plays}
use Rattle.session_plan.specs.ReadablePayloads.{is_response}
use Rattle.legal_history.specs.xds_history.Right.{Right}
use Rattle.legal_history.specs.xds_history.Setting.{setting_of}
use Rattle.legal_history.specs.Legal.{AreOpen, AreStarted, EndsInSweep, Legal}

abbrev pub PlaysAreStarted : Type 0
PlaysAreStarted = (list : List Listed) (entries : List Entry) → Plays list entries → AreStarted entries

-- a legal history, by the plan
abbrev pub EndedPlanIsLegal : Type 0
EndedPlanIsLegal = (session : Session) (history : List Entry) → Right (setting_of session.boot session.target) history → HaveEnded (plan_of is_response session) history
    → AreOpen session.lines history → EndsInSweep history → Legal session history
