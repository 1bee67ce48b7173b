-- The text of an entry. Beside it stand the authorities of the bootstrap, the snapshot that the entry names, and for a pick
-- the cluster that the call held before the entry.
use Rattle.std.specs.Prelude.{ℕ, ◌++◌, List, [], Option, codes, flat_map}
use Rattle.std.specs.Fmt.{decimal}
use Rattle.xds_bootstrap.specs.declared.bootstrap.AuthorityEntry.{AuthorityEntry}
use Rattle.cluster_tree.specs.declared.snapshot.Snapshot.{Snapshot}
use Rattle.call_journal.specs.declared.entry.Entry.{Entry}
use Rattle.call_journal.specs.declared.entry.What.{What}
use Rattle.call_journal.specs.declared.entry.What.TheVariants.{Driver, Caller}
use Rattle.call_journal.specs.declared.reply.DriverReply.{DriverReply}
use Rattle.call_journal.specs.declared.reply.Sent.{Sent}
use Rattle.report_parts.specs.Driver.{driver_line}
use Rattle.report_parts.specs.RequestText.{pattern_line, request_line}
use Rattle.report_parts.specs.Snapshots.{snapshot_lines}
use Rattle.report_parts.specs.Callers.{caller_line}

abbrev pub what_line : List AuthorityEntry → Option Snapshot → Option (List ℕ) → ℕ → What → List ℕ
what_line authorities snapshot cluster actor (Driver event reply) = driver_line authorities event reply
what_line authorities snapshot cluster actor (Caller event reply) = caller_line snapshot cluster actor event reply

-- the line of entry n
unfoldable pub entry_line : List AuthorityEntry → Option Snapshot → Option (List ℕ) → ℕ → Entry → List ℕ
entry_line authorities snapshot cluster n e =
    decimal n ++ codes " " ++ decimal e.line ++ codes " " ++ what_line authorities snapshot cluster e.actor e.what

-- the patterns that were refused, in their order
unfoldable pub pattern_lines : List (List ℕ) → List ℕ
pattern_lines patterns = flat_map pattern_line patterns

-- the requests that left, in their order
unfoldable pub request_lines : List AuthorityEntry → List Sent → List ℕ
request_lines authorities sent = flat_map (request_line authorities) sent

-- what a driver's entry has behind its own line: patterns, requests, and the snapshot that it published
unfoldable pub reply_lines : List AuthorityEntry → Option Snapshot → DriverReply → List ℕ
reply_lines authorities snapshot reply =
    pattern_lines reply.refused ++ request_lines authorities reply.sent ++ snapshot_lines snapshot

abbrev pub more_lines : List AuthorityEntry → Option Snapshot → What → List ℕ
more_lines authorities snapshot (Driver event reply) = reply_lines authorities snapshot reply
more_lines authorities snapshot (Caller event reply) = []

-- the lines of entry n
unfoldable pub entry_lines : List AuthorityEntry → Option Snapshot → Option (List ℕ) → ℕ → Entry → List ℕ
entry_lines authorities snapshot cluster n e =
    entry_line authorities snapshot cluster n e ++ more_lines authorities snapshot e.what
