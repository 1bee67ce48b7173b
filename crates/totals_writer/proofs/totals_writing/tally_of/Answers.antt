use Rattle.std.proofs.Common.{◌≡◌, ◌≤◌, ◌<◌, ◌-◌, ◌^◌, ◌∙◌, arith, length}
use Rattle.snapshot_store.specs.Tickets.{values_of}
use Rattle.report_writer.specs.JournalReport.{held_after, held_in, shown_entries}
use Rattle.report_writer.proofs.ReportLemmas.{first_count, first_entries, holds_on, same_pick, shown_count}
use Rattle.totals_writer.proofs.TallyProofs.{has_room, tally_next, tally_whole}
use Rattle.totals_writer.proofs.totals_writing.tally_of.Goals as goal

pub follow-requires : goal.follow-requires
follow-requires c =
    let published = values_of c.args.history.now.tickets in
    let entries = c.args.journal.now.entries in
    let past = first_entries c.loop-i.i entries in
    let within : c.loop-i.i ≤ length entries = omega (arith, c.loop-i-test.true, c.len-i-end.ensures) in
    let shown = shown_count published past in
    let counted = first_count entries c.loop-i.i within in
    let few : length (shown_entries published past) < 2 ^ 32 - 1 = omega (arith, shown, counted, c.loop-i-test.true) in
    record { room = has_room (shown_entries published past) c.loop-i.tally c.loop-i.invariant.tally few }

pub loop-i-preserved : goal.loop-i-preserved
loop-i-preserved c =
    let published = values_of c.args.history.now.tickets in
    let entries = c.args.journal.now.entries in
    let e = c.at-entry.result.now in
    let past = first_entries c.loop-i.i entries in
    let picked = c.picked_in-cluster.ensures ∙ same_pick (held_in c.loop-i.holds) (held_after published past) e.what c.loop-i.invariant.holds in
    let counts = c.in_ok-follow.ensures in
    record {
      holds = holds_on published entries c.loop-i.i e _ (held_in c.loop-i.holds) (held_in c.follow-in-loop-i.new.self) c.at-entry.ensures c.named_in-snapshot.ensures c.loop-i.invariant.holds c.in_ok-follow-2.ensures;
      tally = tally_next published entries c.loop-i.i e _ _ c.loop-i.tally c.follow.new.self c.at-entry.ensures c.named_in-snapshot.ensures picked c.loop-i.invariant.tally counts.starts counts.picks counts.endpoints;
    }

pub returns : goal.returns
returns c =
    let entries = c.args.journal.now.entries in
    let end : c.loop-i.i ≡ length entries = omega (arith, c.loop-i.auto.i-end, c.loop-i-test.false, c.len-i-end.ensures) in
    tally_whole (values_of c.args.history.now.tickets) entries c.loop-i.i c.loop-i.tally end c.loop-i.invariant.tally
