-- The text of a report (this project's own format).
use Rattle.std.specs.Prelude.{ℕ, ◌+◌, ◌++◌, List, [], ◌∷◌, length, Option, codes}
use Rattle.std.specs.Fmt.{decimal}
use Rattle.xds_bootstrap.specs.declared.bootstrap.AuthorityEntry.{AuthorityEntry}
use Rattle.cluster_tree.specs.declared.snapshot.Snapshot.{Snapshot}
use Rattle.call_journal.specs.declared.entry.Entry.{Entry}
use Rattle.report_text.specs.EntryText.{entry_lines}

-- an entry with what its text needs: the snapshot that it names, and for a pick the cluster that the call held before it
pub record Shown : Type 0 where
  pub entry : Entry
  pub snapshot : Option Snapshot
  pub cluster : Option (List ℕ)

unfoldable pub head_line : List ℕ
head_line = codes "xds-report 1\n"

-- the text of entries, the oldest first, of which the first is entry n
unfoldable pub entries_text : List AuthorityEntry → ℕ → List Shown → List ℕ
entries_text authorities n [] = []
entries_text authorities n (shown ∷ more) =
    entry_lines authorities shown.snapshot shown.cluster n shown.entry ++ entries_text authorities (n + 1) more

-- the last line has the number of entries and the number of snapshots that were published
unfoldable pub end_line : ℕ → ℕ → List ℕ
end_line entries snapshots = codes "end " ++ decimal entries ++ codes " " ++ decimal snapshots ++ codes "\n"

-- the report of these entries, the oldest first, by which so many snapshots were published
unfoldable pub report_text : List AuthorityEntry → List Shown → ℕ → List ℕ
report_text authorities shown snapshots =
    head_line ++ entries_text authorities 1 shown ++ end_line (length shown) snapshots
