-- How long resources are waited for (Envoy's xDS protocol, "Knowing When a Requested Resource Does Not
-- Exist", which recommends 15 seconds).
use Rattle.std.specs.Prelude.{◌≡◌, ◌↔◌, ◌+◌, List, map, Contains, Bool, true, nat_le, Option, Some, None, unwrap_or, if◌then◌else◌}
use Rattle.std.specs.declared.cmp.Ordering.{Ordering}
use Rattle.std.specs.Ordering.{nat_cmp, on, then_cmp}
use Rattle.std.specs.List.Sorted.{IsStrictlySortedBy}
use Rattle.std.specs.Map.{lookup}
use Rattle.xc_base.specs.declared.names.Key.{Key}
use Rattle.xc_base.specs.declared.names.Time.{Time}
use Rattle.xc_keys.specs.Keys.{key_cmp, is_key}
use Rattle.watch_timers.specs.declared.timers.Started.{Started}

-- the keys whose timers run, each with the time of its start
abbrev pub Running : Type 0
Running = List (Key × Time)

-- when the key's timer was started, where it runs
abbrev pub started_at : Running → Key → Option Time
started_at timers key = lookup (is_key key) timers

-- whether a timer that was started then has run for 15,000 ms
abbrev pub has_run : Time → Time → Bool
has_run now at = nat_le (at.0 + 15000) now.0

-- the key's timer runs, since now or since it was started, and all others are as before
abbrev pub Starts : Running → Running → Key → Time → Type 0
Starts old new key at = (other : Key) → started_at new other ≡ (if is_key key other then Some (unwrap_or (started_at old key) at) else started_at old other)

-- the key's timer doesn't run, and all others are as before
abbrev pub Stops : Running → Running → Key → Type 0
Stops old new key = (other : Key) → started_at new other ≡ (if is_key key other then None else started_at old other)

-- by the time of the start, then by the key
abbrev pub started_cmp : Started → Started → Ordering
started_cmp = then_cmp (on (λ started. started.at.0) nat_cmp) (on (λ started. started.key) key_cmp)

-- what runs on
abbrev pub runs_on : Time → Option Time → Option Time
runs_on now None = None
runs_on now (Some at) = if has_run now at then None else Some at

-- these are the keys of the timers that have run out, in strictly rising order of start and key, and the
-- others run on
pub record TakesDue (old : Running) (now : Time) (keys : List Key) (new : Running) : Type 0 where
  pub starts : List Started
  pub keys_are : keys ≡ map (λ started. started.key) starts
  pub rising : IsStrictlySortedBy started_cmp starts
  pub exact : (key : Key) (at : Time) → Contains starts (record { at = at; key = key }) ↔ ((started_at old key ≡ Some at) × (has_run now at ≡ true))
  pub others : (key : Key) → started_at new key ≡ runs_on now (started_at old key)
