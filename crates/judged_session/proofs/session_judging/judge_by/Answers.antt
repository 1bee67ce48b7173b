use Rattle.std.proofs.Common.{◌≡◌, ◌⊎◌, ◌<◌, ℕ, List, All, Option, None, subst}
use Rattle.call_journal.specs.declared.entry.Entry.{Entry}
use Rattle.report_replay.specs.legal_history.Legal.{Legal}
use Rattle.report_replay.specs.text_law.TextLaw.{text_of}
use Rattle.report_replay.specs.turn_law.TurnLaw.{IsTurn}
use Rattle.report_replay.specs.alike_law.AlikeTexts.{PartsAt}
use Rattle.report_replay.specs.report_compare.declared.mistakes.Mistake.{Mistake}
use Rattle.report_replay.specs.ReplayedTurns.{IsBeyond}
use Rattle.report_replay.proofs.PlayLemmas.{if_ok}
use Rattle.judged_session.specs.JudgedTurns.{IsAnyOutcome, IsBesideOutcome, IsWhole}
use Rattle.judged_session.proofs.SessionPlans.{turn_plan_of}
use Rattle.judged_session.proofs.WrongLines.{report_goes_on, report_is_whole, wrong_at, wrong_of}
use Rattle.judged_session.proofs.session_judging.judge_by.Goals as goal

pub play_report-requires-clause-plan : goal.play_report-requires-clause-plan
play_report-requires-clause-plan g c κs within =
    turn_plan_of g.J.Job.plan g.J.Job.boot g.J.Job.target c.args.trial.session.now c.args.trial.plan.actors c.requires.of

pub judge_whole-requires-clause-played : goal.judge_whole-requires-clause-played
judge_whole-requires-clause-played g c κs within =
    subst (λ o. IsAnyOutcome c.args.trial.plan.actors c.play_report.new.book o) c.in-Whole.is
    (c.in_ok-outcome.ensures.any c.args.trial.session.now c.args.trial.session.now.callers c.requires.of c.in_ok-book.ensures.book c.in_ok-book.ensures.lanes)

pub judge_stopped-requires-clause-no_sweep : goal.judge_stopped-requires-clause-no_sweep
judge_stopped-requires-clause-no_sweep g c =
    subst (λ o. IsAnyOutcome c.args.trial.plan.actors c.play_report.new.book o) c.in-Stopped.is
    (c.in_ok-outcome.ensures.any c.args.trial.session.now c.args.trial.session.now.callers c.requires.of c.in_ok-book.ensures.book c.in_ok-book.ensures.lanes)

pub returns-in-Whole-clause-found : goal.returns-in-Whole-clause-found
returns-in-Whole-clause-found g c =
    let came : (history : List Entry) (number : ℕ) (parts : PartsAt number c.args.trial.report.now (text_of c.args.trial.session.now history)) → Legal c.args.trial.session.now history → All IsTurn history → 0 < number
    → g.P.Patterns.refused c.play_report.new.patterns ≡ g.P.Patterns.refused c.args.patterns.now
    → IsWhole history c.play_report.new.book ⊎ IsBeyond c.args.trial.session.now history parts.parting c.play_report.new.book = λ history number parts legal turns some same.
    subst (λ o. IsBesideOutcome c.args.trial.session.now history parts.parting c.play_report.new.book o) c.in-Whole.is
    (c.in_ok-outcome.ensures.beside c.args.trial.session.now history c.args.trial.session.now.callers number parts (record { of = c.requires.of; legal = legal; turns = turns }) some c.in_ok-book.ensures.book c.in_ok-book.ensures.lanes same) in
    if_ok
    (λ (m : Option Mistake). (history : List Entry) → Legal c.args.trial.session.now history → text_of c.args.trial.session.now history ≡ c.args.trial.report.now → IsWhole history c.play_report.new.book → m ≡ None)
    (λ (m : Option Mistake). (history : List Entry) → Legal c.args.trial.session.now history → All IsTurn history → text_of c.args.trial.session.now history ≡ c.args.trial.report.now
    → g.P.Patterns.refused c.play_report.new.patterns ≡ g.P.Patterns.refused c.args.patterns.now → m ≡ None)
    c.judge_whole.result
    (λ m holds history legal turns text same.
    holds history legal text
    (report_is_whole c.args.trial.session.now history c.args.trial.report.now c.play_report.new.book legal turns text (λ number parts some. came history number parts legal turns some same)))
    c.judge_whole.ensures.found

pub returns-in-Whole-clause-wrong : goal.returns-in-Whole-clause-wrong
returns-in-Whole-clause-wrong g c = λ same.
    let came : (history : List Entry) (number : ℕ) (parts : PartsAt number c.args.trial.report.now (text_of c.args.trial.session.now history)) → Legal c.args.trial.session.now history → All IsTurn history → 0 < number
    → IsWhole history c.play_report.new.book ⊎ IsBeyond c.args.trial.session.now history parts.parting c.play_report.new.book = λ history number parts legal turns some.
    subst (λ o. IsBesideOutcome c.args.trial.session.now history parts.parting c.play_report.new.book o) c.in-Whole.is
    (c.in_ok-outcome.ensures.beside c.args.trial.session.now history c.args.trial.session.now.callers number parts (record { of = c.requires.of; legal = legal; turns = turns }) some c.in_ok-book.ensures.book c.in_ok-book.ensures.lanes same) in
    wrong_of c.args.trial.session.now c.args.trial.report.now c.judge_whole.result
    (λ history parting. IsWhole history c.play_report.new.book ⊎ IsBeyond c.args.trial.session.now history parting c.play_report.new.book) c.judge_whole.ensures.line c.judge_whole.ensures.wrong
    (if_ok
    (λ (m : Option Mistake). (history : List Entry) → Legal c.args.trial.session.now history → text_of c.args.trial.session.now history ≡ c.args.trial.report.now → IsWhole history c.play_report.new.book → m ≡ None)
    (λ (m : Option Mistake). (history : List Entry) → Legal c.args.trial.session.now history → All IsTurn history → text_of c.args.trial.session.now history ≡ c.args.trial.report.now → m ≡ None)
    c.judge_whole.result
    (λ m holds history legal turns text.
    holds history legal text (report_is_whole c.args.trial.session.now history c.args.trial.report.now c.play_report.new.book legal turns text (λ number parts some. came history number parts legal turns some)))
    c.judge_whole.ensures.found)
    came

pub returns-in_ok-told-in-Stopped-clause-found : goal.returns-in_ok-told-in-Stopped-clause-found
returns-in_ok-told-in-Stopped-clause-found g c = λ history legal turns text same.
    absurd
    (report_goes_on c.args.trial.session.now history c.args.trial.report.now c.play_report.new.book legal turns text
    (λ number parts some.
    subst (λ o. IsBesideOutcome c.args.trial.session.now history parts.parting c.play_report.new.book o) c.in-Stopped.is
    (c.in_ok-outcome.ensures.beside c.args.trial.session.now history c.args.trial.session.now.callers number parts (record { of = c.requires.of; legal = legal; turns = turns }) some c.in_ok-book.ensures.book c.in_ok-book.ensures.lanes same)))

pub returns-in_ok-told-in-Stopped-clause-wrong : goal.returns-in_ok-told-in-Stopped-clause-wrong
returns-in_ok-told-in-Stopped-clause-wrong g c = λ same.
    let came : (history : List Entry) (number : ℕ) (parts : PartsAt number c.args.trial.report.now (text_of c.args.trial.session.now history)) → Legal c.args.trial.session.now history → All IsTurn history → 0 < number
    → IsBeyond c.args.trial.session.now history parts.parting c.play_report.new.book = λ history number parts legal turns some.
    subst (λ o. IsBesideOutcome c.args.trial.session.now history parts.parting c.play_report.new.book o) c.in-Stopped.is
    (c.in_ok-outcome.ensures.beside c.args.trial.session.now history c.args.trial.session.now.callers number parts (record { of = c.requires.of; legal = legal; turns = turns }) some c.in_ok-book.ensures.book c.in_ok-book.ensures.lanes same) in
    wrong_at c.args.trial.session.now c.args.trial.report.now c.in_ok-told-in-Stopped.told.line (λ history parting. IsBeyond c.args.trial.session.now history parting c.play_report.new.book) c.in_ok-told-in-Stopped.ensures.wrong
    (λ history parts legal turns. came history c.in_ok-told-in-Stopped.told.line parts legal turns c.in_ok-told-in-Stopped.ensures.line)
    (λ history legal turns is. report_goes_on c.args.trial.session.now history c.args.trial.report.now c.play_report.new.book legal turns is (λ number parts some. came history number parts legal turns some))
