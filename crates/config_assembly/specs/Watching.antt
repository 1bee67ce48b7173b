-- Which keys a cache watches after an update.
use Rattle.std.specs.Prelude.{◌≡◌, ◌⊎◌, List, Bool, true, None, IsSome, if◌then◌else◌}
use Rattle.std.specs.List.{list_any}
use Rattle.xc_base.specs.declared.names.Key.{Key}
use Rattle.xc_keys.specs.Keys.{is_key}
use Rattle.xds_name.specs.declared.target.Target.{Target}
use Rattle.xds_cache.specs.KeptFates.{Watched, known_of, watched}

-- whom the channel calls, and what the last update reached
pub record Held : Type 0 where
  pub target : Target
  pub reached : List Key

abbrev pub has_key : List Key → Key → Bool
has_key keys key = list_any (is_key key) keys

-- each watched key was reached by the last update or is reached now
abbrev pub IsKept : Watched → List Key → List Key → Type 0
IsKept watched before reached = (key : Key) → IsSome (known_of watched key) → (has_key before key ≡ true) ⊎ (has_key reached key ≡ true)

-- the reached keys are watched and no others; one that was watched keeps its fate
abbrev pub IsWatching : Watched → Watched → List Key → Type 0
IsWatching old new reached = (key : Key) → known_of new key ≡ (if has_key reached key then watched (known_of old key) else None)
