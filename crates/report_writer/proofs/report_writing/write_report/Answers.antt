use Rattle.std.proofs.Common.{◌≡◌, ◌≤◌, ◌∙◌, ◌+◌, ◌++◌, [], ap, append-nil, arith, length, sym}
use Rattle.std.proofs.lemmas.List.{length-map}
use Rattle.report_text.specs.ReportLines.{end_line}
use Rattle.std.proofs.KnownBytes.{Appends-trans}
use Rattle.line_output.proofs.WrittenText.{on_err_of, prefix_of_next, prefix_so_far}
use Rattle.snapshot_store.specs.Tickets.{values_of}
use Rattle.xc_base.proofs.StreamLemmas.{prefix_then}
use Rattle.report_writer.specs.JournalReport.{entries_report, held_after, held_in}
use Rattle.report_writer.proofs.ReportLemmas.{begins, ends_at, first_count, first_entries, first_more, holds_on, last_of, lines_of_entry, one_more, same_pick, so_far, so_far_and_next}
use Rattle.report_writer.proofs.report_writing.write_report.Goals as goal

pub returns-in_err-write_lines-clause-prefix : goal.returns-in_err-write_lines-clause-prefix
returns-in_err-write_lines-clause-prefix g c =
    let authorities = c.args.boot.now.authorities in
    let published = values_of c.args.history.now.tickets in
    let entries = c.args.journal.now.entries in
    let rest = so_far authorities published entries 0 in
    let all = rest.1 ∙ ap (λ t. t ++ rest.0) (begins authorities published entries ∙ sym c.head_line.ensures) in
    on_err_of c.from_residual.result (rw all (prefix_then (g.K.Sink.held c.args.sink.now) (g.K.Sink.held c.write_lines.new.sink) c.head_line.result.now rest.0 c.in_err-write_lines.ensures.prefix))

pub loop-i-init : goal.loop-i-init
loop-i-init g c = record {
  bytes = rw (begins c.args.boot.now.authorities (values_of c.args.history.now.tickets) c.args.journal.now.entries ∙ sym c.head_line.ensures) c.in_ok-write_lines.ensures.ok;
  holds = c.new-holds.ensures;
  later = c.in_ok-write_lines.ensures.cause.later;
}

pub returns-in_err-set_entry-clause-prefix : goal.returns-in_err-set_entry-clause-prefix
returns-in_err-set_entry-clause-prefix g c =
    let rest = so_far c.args.boot.now.authorities (values_of c.args.history.now.tickets) c.args.journal.now.entries c.loop-i.i in
    on_err_of c.from_residual-in_err-set_entry.result
    (prefix_so_far (g.K.Sink.held c.args.sink.now) (g.K.Sink.held c.loop-i.sink) _ rest.0 _ rest.1 c.loop-i.invariant.bytes)

pub returns-in_err-write_lines-2-clause-prefix : goal.returns-in_err-write_lines-2-clause-prefix
returns-in_err-write_lines-2-clause-prefix g c =
    let authorities = c.args.boot.now.authorities in
    let published = values_of c.args.history.now.tickets in
    let entries = c.args.journal.now.entries in
    let e = c.at-entry.result.now in
    let past = first_entries c.loop-i.i entries in
    let le : c.loop-i.i ≤ length entries = omega (arith, c.loop-i-test.true, c.len-i-end.ensures) in
    let picked = c.picked_in-cluster.ensures ∙ same_pick (held_in c.loop-i.holds) (held_after published past) e.what c.loop-i.invariant.holds in
    let number : c.loop-i.i + 1 ≡ length past + 1 = omega (arith, first_count entries c.loop-i.i le) in
    let text = c.as_str.ensures.value ∙ lines_of_entry authorities published e past _ _ (c.loop-i.i + 1) _ c.in_ok-set_entry.ensures c.named_in-snapshot.ensures picked number in
    let rest = so_far_and_next authorities published entries c.loop-i.i e c.at-entry.ensures in
    on_err_of c.from_residual-in_err-write_lines-2.result
    (prefix_of_next (g.K.Sink.held c.args.sink.now) (g.K.Sink.held c.loop-i.sink) (g.K.Sink.held c.write_lines-in-loop-i.new.sink) _ _ rest.0 _ rest.1 c.loop-i.invariant.bytes
    (rw text at c.in_err-write_lines-2.ensures.prefix))

pub returns-in_err-follow-clause-prefix : goal.returns-in_err-follow-clause-prefix
returns-in_err-follow-clause-prefix g c =
    let authorities = c.args.boot.now.authorities in
    let published = values_of c.args.history.now.tickets in
    let entries = c.args.journal.now.entries in
    let e = c.at-entry.result.now in
    let past = first_entries c.loop-i.i entries in
    let le : c.loop-i.i ≤ length entries = omega (arith, c.loop-i-test.true, c.len-i-end.ensures) in
    let picked = c.picked_in-cluster.ensures ∙ same_pick (held_in c.loop-i.holds) (held_after published past) e.what c.loop-i.invariant.holds in
    let number : c.loop-i.i + 1 ≡ length past + 1 = omega (arith, first_count entries c.loop-i.i le) in
    let text = c.as_str.ensures.value ∙ lines_of_entry authorities published e past _ _ (c.loop-i.i + 1) _ c.in_ok-set_entry.ensures c.named_in-snapshot.ensures picked number in
    let rest = so_far_and_next authorities published entries c.loop-i.i e c.at-entry.ensures in
    on_err_of c.from_residual-in_err-follow.result
    (prefix_so_far (g.K.Sink.held c.args.sink.now) (g.K.Sink.held c.write_lines-in-loop-i.new.sink) _ rest.0 _ rest.1
    (Appends-trans (g.K.Sink.held c.args.sink.now) (g.K.Sink.held c.loop-i.sink) (g.K.Sink.held c.write_lines-in-loop-i.new.sink) _ _ c.loop-i.invariant.bytes (rw text at c.in_ok-write_lines-2.ensures.ok)))

pub loop-i-preserved : goal.loop-i-preserved
loop-i-preserved g c =
    let authorities = c.args.boot.now.authorities in
    let published = values_of c.args.history.now.tickets in
    let entries = c.args.journal.now.entries in
    let e = c.at-entry.result.now in
    let past = first_entries c.loop-i.i entries in
    let le : c.loop-i.i ≤ length entries = omega (arith, c.loop-i-test.true, c.len-i-end.ensures) in
    let picked = c.picked_in-cluster.ensures ∙ same_pick (held_in c.loop-i.holds) (held_after published past) e.what c.loop-i.invariant.holds in
    let number : c.loop-i.i + 1 ≡ length past + 1 = omega (arith, first_count entries c.loop-i.i le) in
    let text = c.as_str.ensures.value ∙ lines_of_entry authorities published e past _ _ (c.loop-i.i + 1) _ c.in_ok-set_entry.ensures c.named_in-snapshot.ensures picked number in
    let more = ap (entries_report authorities published) (first_more entries c.loop-i.i e c.at-entry.ensures) ∙ one_more authorities published e past in
    record {
      bytes = rw more (Appends-trans (g.K.Sink.held c.args.sink.now) (g.K.Sink.held c.loop-i.sink) (g.K.Sink.held c.write_lines-in-loop-i.new.sink) _ _ c.loop-i.invariant.bytes (rw text at c.in_ok-write_lines-2.ensures.ok));
      holds = holds_on published entries c.loop-i.i e _ (held_in c.loop-i.holds) (held_in c.follow.new.self) c.at-entry.ensures c.named_in-snapshot.ensures c.loop-i.invariant.holds c.in_ok-follow.ensures;
      later = omega (arith, c.loop-i.invariant.later, c.in_ok-write_lines-2.ensures.cause.later);
    }

pub returns-in_err-set_end_line-clause-prefix : goal.returns-in_err-set_end_line-clause-prefix
returns-in_err-set_end_line-clause-prefix g c =
    let rest = so_far c.args.boot.now.authorities (values_of c.args.history.now.tickets) c.args.journal.now.entries c.loop-i.i in
    on_err_of c.from_residual-in_err-set_end_line.result
    (prefix_so_far (g.K.Sink.held c.args.sink.now) (g.K.Sink.held c.loop-i.sink) _ rest.0 _ rest.1 c.loop-i.invariant.bytes)

pub returns-in_err-write_lines-3-clause-prefix : goal.returns-in_err-write_lines-3-clause-prefix
returns-in_err-write_lines-3-clause-prefix g c =
    let authorities = c.args.boot.now.authorities in
    let published = values_of c.args.history.now.tickets in
    let entries = c.args.journal.now.entries in
    let end : c.loop-i.i ≡ length entries = omega (arith, c.loop-i.auto.i-end, c.loop-i-test.false, c.len-i-end.ensures) in
    let text = c.as_str-2.ensures.value ∙ last_of (length entries) (length published) _ _ _ c.in_ok-set_end_line.ensures c.len.ensures (c.len-2.ensures ∙ sym (length-map c.args.history.now.tickets _)) in
    on_err_of c.from_residual-in_err-write_lines-3.result
    (prefix_of_next (g.K.Sink.held c.args.sink.now) (g.K.Sink.held c.loop-i.sink) (g.K.Sink.held c.write_lines-2.new.sink) _ (end_line (length entries) (length published)) [] _
    (ends_at authorities published entries c.loop-i.i end ∙ sym (append-nil _)) c.loop-i.invariant.bytes
    (rw text at c.in_err-write_lines-3.ensures.prefix))

pub returns-clause-ok : goal.returns-clause-ok
returns-clause-ok g c =
    let authorities = c.args.boot.now.authorities in
    let published = values_of c.args.history.now.tickets in
    let entries = c.args.journal.now.entries in
    let end : c.loop-i.i ≡ length entries = omega (arith, c.loop-i.auto.i-end, c.loop-i-test.false, c.len-i-end.ensures) in
    let text = c.as_str-2.ensures.value ∙ last_of (length entries) (length published) _ _ _ c.in_ok-set_end_line.ensures c.len.ensures (c.len-2.ensures ∙ sym (length-map c.args.history.now.tickets _)) in
    rw (ends_at authorities published entries c.loop-i.i end)
    (Appends-trans (g.K.Sink.held c.args.sink.now) (g.K.Sink.held c.loop-i.sink) (g.K.Sink.held c.write_lines-2.new.sink) _ _ c.loop-i.invariant.bytes (rw text at c.in_ok-write_lines-3.ensures.ok))
