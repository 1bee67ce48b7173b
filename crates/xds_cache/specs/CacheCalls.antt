-- What every list of calls makes of the fates of keys.
use Rattle.std.specs.Prelude.{◌≡◌, ◌↔◌, ◌⊎◌, List, [], ◌∷◌, ◌++◌, Contains, IsSome}
use Rattle.xc_base.specs.declared.names.Authority.{Authority}
use Rattle.xc_base.specs.declared.names.Home.TheVariants.{At, Nowhere}
use Rattle.xc_base.specs.declared.names.Key.{Key}
use Rattle.xc_base.specs.declared.names.NameFault.{NameFault}
use Rattle.xc_base.specs.declared.reason.Reason.{Reason}
use Rattle.xc_keys.specs.Spans.{IsOver, IsSince}
use Rattle.xds_config.specs.declared.value.Value.{Value as ValueOf}
use Rattle.xds_cache.specs.declared.fate.Known.{Known}
use Rattle.xds_cache.specs.declared.fate.Known.TheVariants.{Wanted, Value, Invalid, Absent}
use Rattle.xds_cache.specs.KeptFates.{Watched, known_of, fate_of, reason_of, Changes, watched, unwatched, accepted, refused, taken_away}

-- a call that had memory
pub data Event : Type 0 where
  watch : Key → Event
  unwatch : Key → Event
  accept : Key → ValueOf → Event
  refuse : Key → Reason → Event
  delete : Key → Event
  expire : Key → Event

-- what the call's own contract says
abbrev pub Step : Watched → Event → Watched → Type 0
Step old (watch key) new = Changes old new key watched
Step old (unwatch key) new = Changes old new key unwatched
Step old (accept key value) new = Changes old new key (accepted value)
Step old (refuse key reason) new = Changes old new key (refused reason)
Step old (delete key) new = Changes old new key taken_away
Step old (expire key) new = Changes old new key taken_away

-- these keys are watched after these calls, the newest of which stands first
abbrev pub After : List Event → Watched → Type 0
After [] keys = keys ≡ []
After (event ∷ past) keys = (before : Watched) × After past before × Step before event keys

abbrev pub Watches : Key → Event → Type 0
Watches key (watch other) = key ≡ other
Watches key (unwatch other) = ⊥
Watches key (accept other value) = ⊥
Watches key (refuse other reason) = ⊥
Watches key (delete other) = ⊥
Watches key (expire other) = ⊥

abbrev pub Unwatches : Key → Event → Type 0
Unwatches key (watch other) = ⊥
Unwatches key (unwatch other) = key ≡ other
Unwatches key (accept other value) = ⊥
Unwatches key (refuse other reason) = ⊥
Unwatches key (delete other) = ⊥
Unwatches key (expire other) = ⊥

-- a valid resource came
abbrev pub Accepts : Key → Event → Type 0
Accepts key (watch other) = ⊥
Accepts key (unwatch other) = ⊥
Accepts key (accept other value) = key ≡ other
Accepts key (refuse other reason) = ⊥
Accepts key (delete other) = ⊥
Accepts key (expire other) = ⊥

-- an invalid resource came
abbrev pub Refuses : Key → Event → Type 0
Refuses key (watch other) = ⊥
Refuses key (unwatch other) = ⊥
Refuses key (accept other value) = ⊥
Refuses key (refuse other reason) = key ≡ other
Refuses key (delete other) = ⊥
Refuses key (expire other) = ⊥

-- the resource was deleted, or was waited for in vain
abbrev pub TakesAway : Key → Event → Type 0
TakesAway key (watch other) = ⊥
TakesAway key (unwatch other) = ⊥
TakesAway key (accept other value) = ⊥
TakesAway key (refuse other reason) = ⊥
TakesAway key (delete other) = key ≡ other
TakesAway key (expire other) = key ≡ other

-- one of the events is such
abbrev pub Has : (Event → Type 0) → List Event → Type 0
Has Such events = (event : Event) × Contains events event × Such event

-- this event is such, and no later one is
pub record IsLast (Such : Event → Type 0) (events : List Event) (event : Event) : Type 0 where
  pub later : List Event
  pub earlier : List Event
  pub split : events ≡ later ++ event ∷ earlier
  pub such : Such event
  pub none : Has Such later → ⊥

-- the key is watched, and these events came since
abbrev pub IsWatchedSince : List Event → Key → List Event → Type 0
IsWatchedSince events key since = IsSince (Watches key) (Unwatches key) events (watch key) since

-- the key isn't watched
abbrev pub IsUnwatched : List Event → Key → Type 0
IsUnwatched events key = IsOver (Watches key) (Unwatches key) events

-- this value was the last valid one, and nothing took it away after
abbrev pub HasValue : Key → List Event → ValueOf → Type 0
HasValue key since value = IsLast (λ event. Accepts key event ⊎ TakesAway key event) since (accept key value)

-- this refusal came after each valid resource, deletion and expiry
abbrev pub HasReason : Key → List Event → Reason → Type 0
HasReason key since reason = IsLast (λ event. Refuses key event ⊎ (Accepts key event ⊎ TakesAway key event)) since (refuse key reason)

abbrev pub HasNoValue : Key → List Event → Type 0
HasNoValue key since = (value : ValueOf) → HasValue key since value → ⊥

abbrev pub HasNoReason : Key → List Event → Type 0
HasNoReason key since = (reason : Reason) → HasReason key since reason → ⊥

-- the fate of a key by what came since it is watched: a value; else a reason; else that the resource was taken
-- away; else that it is wanted
abbrev pub IsFate : Key → List Event → Known → Type 0
IsFate key since (Value value) = HasValue key since value
IsFate key since (Invalid reason) = HasNoValue key since × HasReason key since reason
IsFate key since Absent = HasNoValue key since × HasNoReason key since × Has (TakesAway key) since
IsFate key since Wanted = HasNoValue key since × HasNoReason key since × (Has (TakesAway key) since → ⊥)

-- the watched keys and the fates of all keys are those that the calls give
pub record FollowCalls (events : List Event) (keys : Watched) : Type 0 where
  pub watched : (key : Key) → IsSome (known_of keys key) ↔ ((since : List Event) × IsWatchedSince events key since)
  pub fate : (key : Key) (authority : Authority) (since : List Event) (fate : Known) → key.home ≡ At authority → IsWatchedSince events key since → (fate_of keys key ≡ fate) ↔ IsFate key since fate
  pub unwatched : (key : Key) (authority : Authority) → key.home ≡ At authority → IsUnwatched events key → fate_of keys key ≡ Wanted
  pub homeless : (key : Key) (fault : NameFault) → key.home ≡ Nowhere fault → fate_of keys key ≡ Invalid (reason_of fault)
