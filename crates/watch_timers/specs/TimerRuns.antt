-- What every list of calls leaves running, and what it takes out.
use Rattle.std.specs.Prelude.{◌≡◌, ◌↔◌, List, [], ◌∷◌, map, Contains, true, Some}
use Rattle.std.specs.List.Sorted.{IsStrictlySortedBy}
use Rattle.xc_base.specs.declared.names.Key.{Key}
use Rattle.xc_base.specs.declared.names.Time.{Time}
use Rattle.xc_keys.specs.Spans.{IsSince}
use Rattle.watch_timers.specs.declared.timers.Started.{Started}
use Rattle.watch_timers.specs.Timers.{Running, started_at, has_run, started_cmp, Starts, Stops, TakesDue}

-- a call that had memory, with the keys that it took out
pub data Event : Type 0 where
  start : Key → Time → Event
  cancel : Key → Event
  due : Time → List Key → Event

-- what the call's own contract says
abbrev pub Step : Running → Event → Running → Type 0
Step old (start key at) new = Starts old new key at
Step old (cancel key) new = Stops old new key
Step old (due now keys) new = TakesDue old now keys new

-- these timers run after these calls, the newest of which stands first
abbrev pub After : List Event → Running → Type 0
After [] timers = timers ≡ []
After (event ∷ past) timers = (before : Running) × After past before × Step before event timers

-- the call starts the key's timer
abbrev pub StartsKey : Key → Event → Type 0
StartsKey key (start other at) = key ≡ other
StartsKey key (cancel other) = ⊥
StartsKey key (due now keys) = ⊥

-- the call cancels the key's timer, or takes it out
abbrev pub StopsKey : Key → Event → Type 0
StopsKey key (start other at) = ⊥
StopsKey key (cancel other) = key ≡ other
StopsKey key (due now keys) = Contains keys key

-- the key was started then, when it didn't run, and neither cancelled nor taken out since; a start in
-- between changes nothing
abbrev pub IsRunning : List Event → Key → Time → Type 0
IsRunning events key at = (since : List Event) × IsSince (StartsKey key) (StopsKey key) events (start key at) since

-- the keys of the timers that have run for 15,000 ms after these calls, by start, kind and name
pub record AreDue (events : List Event) (now : Time) (keys : List Key) : Type 0 where
  pub starts : List Started
  pub keys_are : keys ≡ map (λ started. started.key) starts
  pub rising : IsStrictlySortedBy started_cmp starts
  pub exact : (key : Key) (at : Time) → Contains starts (record { at = at; key = key }) ↔ (IsRunning events key at × (has_run now at ≡ true))

-- what runs is what the calls say, and what is taken out next is what is due by them
pub record RunAsStarted (events : List Event) (timers : Running) : Type 0 where
  pub running : (key : Key) (at : Time) → (started_at timers key ≡ Some at) ↔ IsRunning events key at
  pub due : (now : Time) (keys : List Key) (after : Running) → TakesDue timers now keys after → AreDue events now keys
