-- The report of a journal without its last line.
use Rattle.std.proofs.Common.{◌≡◌, ◌≤◌, ℕ, ◌+◌, ◌-◌, List, ◌++◌, length, take, sym, ap, ◌∙◌, arith}
use Rattle.std.proofs.lemmas.List.{length-append, take_at}
use Rattle.xds_bootstrap.specs.declared.bootstrap.AuthorityEntry.{AuthorityEntry}
use Rattle.cluster_tree.specs.declared.snapshot.Snapshot.{Snapshot}
use Rattle.call_journal.specs.declared.entry.Entry.{Entry}
use Rattle.report_text.specs.ReportLines.{end_line}
use Rattle.front_law.specs.report_writer.JournalReport.{entries_report, journal_report}
use Rattle.front_law.proofs.report_writer.ReportLemmas.{last_of}

-- the last line stands behind the entries
pub ends_so : (authorities : List AuthorityEntry) (published : List Snapshot) (entries : List Entry) (text end : List ℕ) (n m : ℕ) → text ≡ journal_report authorities published entries → end ≡ end_line n m
    → n ≡ length entries → m ≡ length published → text ≡ entries_report authorities published entries ++ end
unfolding journal_report
ends_so authorities published entries text end n m is end_is one two =
    is ∙ ap (λ (t : List ℕ). entries_report authorities published entries ++ t) (sym (last_of (length entries) (length published) n m end end_is one two))

pub last_fits : (front text last : List ℕ) → text ≡ front ++ last → length last ≤ length text
last_fits front text last is =
    let more : length text ≡ length front + length last = ap length is ∙ length-append front last in
    omega (arith, more)

pub without_last : (front text last : List ℕ) → text ≡ front ++ last → take (length text - length last) text ≡ front
without_last front text last is =
    let more : length text ≡ length front + length last = ap length is ∙ length-append front last in
    ap (λ (t : List ℕ). take (length text - length last) t) is ∙ take_at front last (length text - length last) (omega (arith, more))
