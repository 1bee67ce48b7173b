use Rattle.std.proofs.Common.{◌≡◌, ℕ, List, All, Option, None, Ok}
use Rattle.std.specs.Prelude.{IfSome}
use Rattle.call_journal.specs.declared.entry.Entry.{Entry}
use Rattle.session_lines.specs.Session.{session_of}
use Rattle.report_replay.specs.legal_history.Legal.{Legal}
use Rattle.report_replay.specs.text_law.TextLaw.{text_of}
use Rattle.report_replay.specs.turn_law.TurnLaw.{IsTurn}
use Rattle.report_replay.proofs.turn_law.PlayedTurns.{legal_are_turns}
use Rattle.report_replay.specs.report_compare.LegalReports.{IsReportOf}
use Rattle.report_replay.specs.report_compare.declared.mistakes.Mistake.{Mistake}
use Rattle.report_replay.proofs.PlayLemmas.{if_ok}
use Rattle.judged_session.specs.JudgedTurns.{IsWrongAt, IsWrongFor}
use Rattle.judged_session.proofs.WrongLines.{wrong_for}
use Rattle.judged_session.proofs.session_judging.judge_session.Goals as goal

pub returns-clause-found : goal.returns-clause-found
returns-clause-found g c =
    if_ok
    (λ (m : Option Mistake). (history : List Entry) → Legal c.args.session.now history → All IsTurn history → text_of c.args.session.now history ≡ c.args.report.now
    → g.P.Patterns.refused c.judge_planned.new.patterns ≡ g.P.Patterns.refused c.args.patterns.now → m ≡ None)
    (λ (m : Option Mistake). (bytes : List ℕ) → session_of bytes ≡ Ok c.args.session.now → IsReportOf c.args.session.now c.args.report.now
    → g.P.Patterns.refused c.judge_planned.new.patterns ≡ g.P.Patterns.refused c.args.patterns.now → m ≡ None)
    c.judge_planned.result
    (λ m holds bytes spells is same. holds is.history is.legal (legal_are_turns bytes c.args.session.now is.history spells is.legal) is.text_is same)
    c.judge_planned.ensures.found

pub returns-clause-wrong : goal.returns-clause-wrong
returns-clause-wrong g c = λ same.
    if_ok (λ (m : Option Mistake). IfSome m (λ mistake. IsWrongAt c.args.session.now c.args.report.now mistake.line)) (λ (m : Option Mistake). IfSome m (λ mistake. IsWrongFor c.args.session.now c.args.report.now mistake.line))
    c.judge_planned.result (λ m holds. wrong_for c.args.session.now c.args.report.now m holds) (c.judge_planned.ensures.wrong same)
