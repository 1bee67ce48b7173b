use Rattle.std.proofs.Common.{◌≡◌, ◌-◌, ◌<◌, ℕ, List, length, subst, refl}
use Rattle.session_lines.specs.Lines.{lines_of}
use Rattle.snapshot_store.specs.Tickets.{values_of}
use Rattle.report_replay.specs.front_law.FrontLaw.{IsFrontOf}
use Rattle.report_replay.specs.report_compare.FirstLines.{first_lines}
use Rattle.report_replay.specs.report_compare.LegalReports.{BeginsReport}
use Rattle.report_replay.specs.report_compare.declared.mistakes.Mistake.{Mistake}
use Rattle.report_replay.specs.report_writer.JournalReport.{entries_report}
use Rattle.report_replay.specs.ReplayedTurns.{IsBeyond}
use Rattle.report_replay.proofs.PlayLemmas.{if_ok}
use Rattle.judged_session.specs.JudgedTurns.{IsApart}
use Rattle.judged_session.proofs.PlayedOutLemmas.{begins_report, own_right, played_text}
use Rattle.judged_session.proofs.WrongLines.{stopped_apart}
use Rattle.judged_session.proofs.session_judging.judge_stopped.Goals as goal

pub returns-clause-above : goal.returns-clause-above
returns-clause-above g c =
    let text =
    played_text g.J.Job.plan g.J.Job.boot g.J.Job.target c.args.trial.session.now c.args.trial.plan.actors c.args.book.entries c.finish-journal.result.0.entries c.args.book.tickets c.finish-journal.result.1.tickets c.requires.of
    c.finish-journal.ensures.entries c.finish-journal.ensures.tickets c.finish-journal.ensures.snapshots in
    if_ok
    (λ (told : Mistake). IsFrontOf (first_lines (told.line - 1) c.args.trial.report.now)
    (entries_report c.args.trial.session.now.boot.authorities (values_of c.finish-journal.result.1.tickets) c.finish-journal.result.0.entries))
    (λ (told : Mistake). BeginsReport c.args.trial.session.now (first_lines (told.line - 1) c.args.trial.report.now))
    c.compare_until.result
    (λ told above.
    begins_report g.J.Job.plan g.J.Job.boot g.J.Job.target c.args.trial.session.now c.args.trial.plan.actors c.args.book.entries (first_lines (told.line - 1) c.args.trial.report.now) c.requires.of c.finish-journal.ensures.right
    c.finish-journal.ensures.played c.requires.no_sweep (subst (λ (written : List ℕ). IsFrontOf (first_lines (told.line - 1) c.args.trial.report.now) written) text above))
    c.compare_until.ensures.above

pub returns-clause-wrong : goal.returns-clause-wrong
returns-clause-wrong g c =
    let text =
    played_text g.J.Job.plan g.J.Job.boot g.J.Job.target c.args.trial.session.now c.args.trial.plan.actors c.args.book.entries c.finish-journal.result.0.entries c.args.book.tickets c.finish-journal.result.1.tickets c.requires.of
    c.finish-journal.ensures.entries c.finish-journal.ensures.tickets c.finish-journal.ensures.snapshots in
    if_ok
    (λ (told : Mistake). first_lines told.line c.args.trial.report.now ≡ first_lines told.line (entries_report c.args.trial.session.now.boot.authorities (values_of c.finish-journal.result.1.tickets) c.finish-journal.result.0.entries)
    → length (lines_of c.args.trial.report.now) < told.line)
    (λ (told : Mistake). IsApart c.args.trial.session.now c.args.trial.report.now told.line (λ history parting. IsBeyond c.args.trial.session.now history parting c.args.book))
    c.compare_until.result
    (λ told differs.
    stopped_apart c.args.trial.session.now c.args.trial.report.now told.line c.args.book c.args.book.entries
    (own_right g.J.Job.plan g.J.Job.boot g.J.Job.target c.args.trial.session.now c.args.trial.plan.actors c.args.book.entries c.requires.of c.finish-journal.ensures.right) refl
    (subst (λ (written : List ℕ). first_lines told.line c.args.trial.report.now ≡ first_lines told.line written → length (lines_of c.args.trial.report.now) < told.line) text differs))
    c.compare_until.ensures.differs
