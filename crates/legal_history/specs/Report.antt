-- The text of a history (this project's own): each entry with the snapshot that it names, and a pick with the cluster that its
-- call holds.
use Rattle.std.specs.Prelude.{ℕ, List, [], ◌∷◌, ◌++◌, Option, Some, None, option_and_then, unwrap_or}
use Rattle.xds_bootstrap.specs.declared.bootstrap.AuthorityEntry.{AuthorityEntry}
use Rattle.xds_history.specs.cluster_tree.declared.snapshot.Snapshot.{Snapshot}
use Rattle.xds_history.specs.call_journal.declared.event.CallerEvent.{CallerEvent}
use Rattle.xds_history.specs.call_journal.declared.reply.CallerReply.{CallerReply}
use Rattle.xds_history.specs.call_journal.declared.entry.What.{What}
use Rattle.xds_history.specs.call_journal.declared.entry.Entry.{Entry}
use Rattle.report_text.specs.ReportLines.{Shown, report_text}
use Rattle.xds_history.specs.config_assembly.Orders.{Name}
use Rattle.xds_history.specs.Setting.{Setting}
use Rattle.xds_history.specs.declared.page.Page.{Page}
use Rattle.xds_history.specs.Page.{latest_number}
use Rattle.xds_history.specs.References.{held, snapshot_at}
use Rattle.xds_history.specs.Pages.{pages}

-- the number of the snapshot that a reply names
abbrev pub number_in : CallerReply → Option ℕ
number_in (CallerReply.Pinned number) = Some number
number_in CallerReply.NoSnapshot = None
number_in (CallerReply.Routed number answer) = Some number
number_in (CallerReply.Endpoint number child locality place) = Some number
number_in (CallerReply.Queue number) = Some number
number_in (CallerReply.Fail number reason) = Some number
number_in (CallerReply.Drop number rule) = Some number
number_in CallerReply.NotHeld = None
number_in CallerReply.Released = None

-- the snapshot that a page's entry names: the one that it published, or the one in its reply
abbrev pub named_in : Page → List Page → What → Option Snapshot
named_in p before (What.Driver event reply) = p.snapshot
named_in p before (What.Caller event reply) = option_and_then (λ number. snapshot_at number before) (number_in reply)

-- the cluster that a call holds as it picks
abbrev pub picked_in : List Page → What → Option Name
picked_in before (What.Caller (CallerEvent.Pick id word) reply) = held before id
picked_in before _ = None

abbrev pub shown_entry : Page → List Page → Shown
shown_entry p before = record { entry = p.entry; snapshot = named_in p before p.entry.what; cluster = picked_in before p.entry.what }

-- the entries of pages as they are shown, the oldest first
abbrev pub shown_entries : List Page → List Shown
shown_entries [] = []
shown_entries (p ∷ before) = shown_entries before ++ (shown_entry p before ∷ [])

-- snapshots are numbered from 1, so the latest number says how many there are
abbrev pub report_of : List AuthorityEntry → List Page → List ℕ
report_of authorities ps = report_text authorities (shown_entries ps) (unwrap_or (latest_number ps) 0)

abbrev pub report : Setting → List AuthorityEntry → List Entry → List ℕ
report s authorities history = report_of authorities (pages s history)
