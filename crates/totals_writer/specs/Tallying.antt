-- Totals as they are counted, one entry on.
use Rattle.std.specs.Prelude.{◌≡◌, ◌<◌, ℕ, ◌+◌, ◌-◌, ◌^◌, List, Option, Some, None, unwrap_or}
use Rattle.std.specs.BTreeMap.{insert_entry, is_at}
use Rattle.std.specs.Map.{lookup}
use Rattle.config_assembly.specs.Orders.{Name, name_cmp}
use Rattle.report_text.specs.ReportLines.{Shown}
use Rattle.totals_writer.specs.Totals.{Totals, counted, given_in, how_many, is_pick, is_start}
use Rattle.totals_writer.specs.declared.tallies.Tally.{Tally}

-- the count that is kept of an address, 0 where there is none
abbrev pub count_of : List (Name × ℕ) → Name → ℕ
count_of endpoints address = unwrap_or (lookup (is_at (name_cmp address)) endpoints) 0

-- an address, if there is one, is counted once more
abbrev pub counted_once_more : Option Name → List (Name × ℕ) → List (Name × ℕ)
counted_once_more None endpoints = endpoints
counted_once_more (Some address) endpoints = insert_entry name_cmp endpoints address (count_of endpoints address + 1)

-- each count can grow by one in 32 bits
pub record HasRoom (tally : Tally) : Type 0 where
  pub starts : tally.starts < 2 ^ 32 - 1
  pub picks : tally.picks < 2 ^ 32 - 1
  pub endpoints : (address : Name) → count_of tally.endpoints.entries address < 2 ^ 32 - 1

-- a tally has what is counted of these entries
pub record IsTallyOf (shown : List Shown) (tally : Tally) : Type 0 where
  pub starts : tally.starts ≡ how_many is_start shown
  pub picks : tally.picks ≡ how_many is_pick shown
  pub endpoints : tally.endpoints.entries ≡ counted (given_in shown)

-- the totals with what was tallied
abbrev pub totals_in : ℕ → ℕ → ℕ → Tally → Totals
totals_in rounds entries snapshots tally = record {
  rounds = rounds;
  entries = entries;
  snapshots = snapshots;
  starts = tally.starts;
  picks = tally.picks;
  endpoints = tally.endpoints.entries;
}
