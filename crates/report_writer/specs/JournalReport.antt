-- The report of a journal and of the snapshots that it published (this project's own format). The entries of a journal stand
-- with the newest first, the snapshots with the oldest first.
use Rattle.std.specs.Prelude.{ℕ, ◌-◌, ◌==◌, List, [], ◌∷◌, ◌++◌, length, Option, Some, None, option_and_then, unwrap_or, if◌then◌else◌}
use Rattle.std.specs.List.{slice_get}
use Rattle.std.specs.Ordering.{nat_cmp}
use Rattle.std.specs.BTreeMap.{get}
use Rattle.xds_bootstrap.specs.declared.bootstrap.AuthorityEntry.{AuthorityEntry}
use Rattle.cluster_tree.specs.declared.snapshot.Snapshot.{Snapshot}
use Rattle.call_journal.specs.declared.event.CallerEvent.{CallerEvent}
use Rattle.call_journal.specs.declared.reply.CallerReply.{CallerReply}
use Rattle.call_journal.specs.declared.entry.What.{What}
use Rattle.call_journal.specs.declared.entry.Entry.{Entry}
use Rattle.report_parts.specs.Callers.{cluster_in}
use Rattle.report_text.specs.ReportLines.{Shown, end_line, entries_text, head_line}
use Rattle.report_writer.specs.declared.call_holds.CallHolds.{CallHolds}

-- ---- snapshots

-- the snapshot of a number, from 1
abbrev pub numbered : List Snapshot → ℕ → Option Snapshot
numbered published number = if number == 0 then None else slice_get published (number - 1)

-- the number of the snapshot that a caller's reply names
abbrev pub number_in_reply : CallerReply → Option ℕ
number_in_reply (CallerReply.Pinned number) = Some number
number_in_reply CallerReply.NoSnapshot = None
number_in_reply (CallerReply.Routed number answer) = Some number
number_in_reply (CallerReply.Endpoint number child locality place) = Some number
number_in_reply (CallerReply.Queue number) = Some number
number_in_reply (CallerReply.Fail number reason) = Some number
number_in_reply (CallerReply.Drop number rule) = Some number
number_in_reply CallerReply.NotHeld = None
number_in_reply CallerReply.Released = None

-- the number of the snapshot that an entry names: of the one that it published, or of the one in its reply
abbrev pub number_in : What → Option ℕ
number_in (What.Driver event reply) = reply.snapshot
number_in (What.Caller event reply) = number_in_reply reply

abbrev pub named_in : List Snapshot → What → Option Snapshot
named_in published what = option_and_then (numbered published) (number_in what)

-- ---- what calls hold

-- what a call holds after an entry that says so: a hold, which names this snapshot, or a commit
abbrev pub holds_after : Option Snapshot → ℕ → What → Option (Option (List ℕ))
holds_after snapshot id (What.Caller (CallerEvent.Hold call) (CallerReply.Routed number answer)) = if call.id.0 == id then Some (cluster_in snapshot answer) else None
holds_after snapshot id (What.Caller (CallerEvent.Commit call) reply) = if call.0 == id then Some None else None
holds_after snapshot id _ = None

-- the cluster that a call holds after these entries: that of its last hold, with no later commit
abbrev pub held_after : List Snapshot → List Entry → ℕ → Option (List ℕ)
held_after published [] id = None
held_after published (e ∷ past) id = unwrap_or (holds_after (named_in published e.what) id e.what) (held_after published past id)

-- the cluster that a call holds as it picks
abbrev pub picked_in : (ℕ → Option (List ℕ)) → What → Option (List ℕ)
picked_in held (What.Caller (CallerEvent.Pick call word) reply) = held call.0
picked_in held _ = None

-- the same as the writer remembers it
abbrev pub held_in : CallHolds → ℕ → Option (List ℕ)
held_in holds id = get nat_cmp holds.held id

-- ---- the report

abbrev pub shown_as : List Snapshot → Entry → List Entry → Shown
shown_as published e past = record { entry = e; snapshot = named_in published e.what; cluster = picked_in (held_after published past) e.what }

-- entries as they are shown, the oldest first
abbrev pub shown_entries : List Snapshot → List Entry → List Shown
shown_entries published [] = []
shown_entries published (e ∷ past) = shown_entries published past ++ (shown_as published e past ∷ [])

-- the first line, and the lines of these entries
unfoldable pub entries_report : List AuthorityEntry → List Snapshot → List Entry → List ℕ
entries_report authorities published entries = head_line ++ entries_text authorities 1 (shown_entries published entries)

-- the first line, the lines of all entries, and the last line
unfoldable pub journal_report : List AuthorityEntry → List Snapshot → List Entry → List ℕ
journal_report authorities published entries = entries_report authorities published entries ++ end_line (length entries) (length published)
