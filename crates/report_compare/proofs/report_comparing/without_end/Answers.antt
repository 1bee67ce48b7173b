use Rattle.std.proofs.Common.{◌≡◌, ◌∙◌, length, refl, sym}
use Rattle.std.proofs.lemmas.List.{length-map}
use Rattle.report_text.specs.ReportLines.{end_line}
use Rattle.snapshot_store.specs.Tickets.{values_of}
use Rattle.front_law.specs.report_writer.JournalReport.{entries_report}
use Rattle.report_compare.proofs.EndLemmas.{ends_so, last_fits, without_last}
use Rattle.report_compare.proofs.report_comparing.without_end.Goals as goal

pub without_last-requires : goal.without_last-requires
without_last-requires c =
    let authorities = c.args.part.session.now.boot.authorities in
    let tickets = c.args.part.history.now.tickets in
    let entries = c.args.part.journal.now.entries in
    let end : c.as_bytes.result.now ≡ end_line (length entries) (length tickets) = c.as_bytes.ensures.value ∙ c.in_ok-end.ensures in
    let is = ends_so authorities (values_of tickets) entries c.args.text.now c.as_bytes.result.now (length entries) (length tickets) c.requires.text end refl (sym (length-map tickets _)) in
    last_fits (entries_report authorities (values_of tickets) entries) c.args.text.now c.as_bytes.result.now is

pub returns : goal.returns
returns c =
    let authorities = c.args.part.session.now.boot.authorities in
    let tickets = c.args.part.history.now.tickets in
    let entries = c.args.part.journal.now.entries in
    let end : c.as_bytes.result.now ≡ end_line (length entries) (length tickets) = c.as_bytes.ensures.value ∙ c.in_ok-end.ensures in
    let is = ends_so authorities (values_of tickets) entries c.args.text.now c.as_bytes.result.now (length entries) (length tickets) c.requires.text end refl (sym (length-map tickets _)) in
    c.without_last.ensures ∙ without_last (entries_report authorities (values_of tickets) entries) c.args.text.now c.as_bytes.result.now is
