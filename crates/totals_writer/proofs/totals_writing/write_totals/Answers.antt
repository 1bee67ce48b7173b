use Rattle.std.proofs.Common.{◌∙◌, sym}
use Rattle.std.proofs.lemmas.List.{length-map}
use Rattle.line_output.proofs.WrittenText.{on_err_of}
use Rattle.snapshot_store.specs.Tickets.{values_of}
use Rattle.totals_writer.proofs.TallyProofs.{tallied_text}
use Rattle.totals_writer.proofs.totals_writing.write_totals.Goals as goal

pub returns-in_err-write_lines-clause-prefix : goal.returns-in_err-write_lines-clause-prefix
returns-in_err-write_lines-clause-prefix g c =
    let text = tallied_text c.args.n c.len.result _ (values_of c.args.history.now.tickets) c.args.journal.now.entries c.in_ok-tally.tally _ c.in_ok-tally.ensures c.len.ensures
    (c.len-snapshots.ensures ∙ sym (length-map c.args.history.now.tickets _)) (c.as_str.ensures.value ∙ c.in_ok-text.ensures) in
    on_err_of c.from_residual-in_err-write_lines.result (rw text at c.in_err-write_lines.ensures.prefix)

pub returns-clause-ok : goal.returns-clause-ok
returns-clause-ok g c =
    let text = tallied_text c.args.n c.len.result _ (values_of c.args.history.now.tickets) c.args.journal.now.entries c.in_ok-tally.tally _ c.in_ok-tally.ensures c.len.ensures
    (c.len-snapshots.ensures ∙ sym (length-map c.args.history.now.tickets _)) (c.as_str.ensures.value ∙ c.in_ok-text.ensures) in
    rw text at c.in_ok-write_lines.ensures.ok
