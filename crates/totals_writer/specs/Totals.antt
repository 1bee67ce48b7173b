-- The totals of a played session (this project's own format): how many entries, snapshots, starts and picks it has, and how
-- often picks gave each address.
use Rattle.std.specs.Prelude.{ℕ, ◌++◌, List, map, length, filter, Bool, true, false, if◌then◌else◌, Option, None, option_and_then, codes}
use Rattle.std.specs.List.{filter_map, flat_map}
use Rattle.std.specs.Str.{bytes_eq}
use Rattle.std.specs.Fmt.{decimal}
use Rattle.weighted_lb.specs.declared.picker.Picker.{Picker}
use Rattle.cluster_tree.specs.declared.snapshot.Snapshot.{Snapshot}
use Rattle.call_journal.specs.declared.event.CallerEvent.{CallerEvent}
use Rattle.call_journal.specs.declared.reply.CallerReply.{CallerReply}
use Rattle.call_journal.specs.declared.entry.What.{What}
use Rattle.call_journal.specs.declared.entry.Entry.{Entry}
use Rattle.config_assembly.specs.Orders.{Name, name_cmp, sorted}
use Rattle.report_parts.specs.Callers.{address_of, picker_in}
use Rattle.report_text.specs.ReportLines.{Shown}
use Rattle.report_writer.specs.JournalReport.{shown_entries}

-- ---- what is counted

-- a call starts with its pin
abbrev pub is_start : What → Bool
is_start (What.Caller (CallerEvent.Pin call) reply) = true
is_start _ = false

abbrev pub is_pick : What → Bool
is_pick (What.Caller (CallerEvent.Pick id word) reply) = true
is_pick _ = false

abbrev pub one_if : Bool → ℕ
one_if b = if b then 1 else 0

-- the address of an endpoint that a reply names by its places
abbrev pub endpoint_given : Option Picker → CallerReply → Option Name
endpoint_given picker (CallerReply.Endpoint number child locality place) = option_and_then (λ p. address_of p locality place) picker
endpoint_given picker _ = None

-- the address that a pick gave, in the snapshot that its reply names, of the cluster that its call held
abbrev pub address_given : Option Snapshot → Option Name → What → Option Name
address_given snapshot cluster (What.Caller (CallerEvent.Pick id word) reply) = endpoint_given (picker_in snapshot cluster) reply
address_given snapshot cluster _ = None

-- how many of the entries are of a kind
abbrev pub how_many : (What → Bool) → List Shown → ℕ
how_many kind shown = length (filter (λ x. kind x.entry.what) shown)

-- the addresses that picks gave, one for each such pick
abbrev pub given_in : List Shown → List Name
given_in shown = filter_map (λ x. address_given x.snapshot x.cluster x.entry.what) shown

abbrev pub times : Name → List Name → ℕ
times address given = length (filter (bytes_eq address) given)

-- the addresses in the order of their bytes, each once, with how often it was given
abbrev pub counted : List Name → List (Name × ℕ)
counted given = map (λ address. (address, times address given)) (sorted name_cmp given)

pub record Totals : Type 0 where
  pub rounds : ℕ
  pub entries : ℕ
  pub snapshots : ℕ
  pub starts : ℕ
  pub picks : ℕ
  pub endpoints : List (Name × ℕ)

-- the totals of a session of so many rounds with these entries, by which so many snapshots were published
abbrev pub totals_of : ℕ → List Shown → ℕ → Totals
totals_of rounds shown snapshots = record {
  rounds = rounds;
  entries = length shown;
  snapshots = snapshots;
  starts = how_many is_start shown;
  picks = how_many is_pick shown;
  endpoints = counted (given_in shown);
}

-- ---- their text

unfoldable pub count_line : List ℕ → ℕ → List ℕ
count_line what count = what ++ codes " " ++ decimal count ++ codes "\n"

unfoldable pub endpoint_line : Name × ℕ → List ℕ
endpoint_line endpoint = codes "endpoint " ++ endpoint.0 ++ codes " " ++ decimal endpoint.1 ++ codes "\n"

unfoldable pub totals_text : Totals → List ℕ
totals_text totals =
    count_line (codes "load") totals.rounds
    ++ count_line (codes "entries") totals.entries
    ++ count_line (codes "snapshots") totals.snapshots
    ++ count_line (codes "starts") totals.starts
    ++ count_line (codes "picks") totals.picks
    ++ flat_map endpoint_line totals.endpoints

-- the totals of a journal and of the snapshots that it published, the oldest first
abbrev pub journal_totals : ℕ → List Snapshot → List Entry → List ℕ
journal_totals rounds published entries = totals_text (totals_of rounds (shown_entries published entries) (length published))
