-- Fates of a watched key by what came, computed by the definitions. Each row stands for a change that it would see.
use Rattle.std.specs.Prelude.{◌≡◌, refl, Option, Some, None}
use Rattle.xc_base.specs.declared.reason.Reason.{Reason}
use Rattle.xds_config.specs.declared.value.Value.{Value}
use Rattle.xds_cache.specs.declared.fate.Known.{Known}
use Rattle.xds_cache.specs.KeptFates.{watched, unwatched, accepted, refused, taken_away}

-- what came before the watch doesn't count
before_the_watch : (v : Value) → accepted v None ≡ None
before_the_watch v = refl

-- a value, and a later one in its place
last_value : (v w : Value) → accepted w (accepted v (watched None)) ≡ Some (Known.Value w)
last_value v w = refl

-- a refusal leaves the value
value_stays : (v : Value) (r : Reason) → refused r (accepted v (watched None)) ≡ Some (Known.Value v)
value_stays v r = refl

-- a deletion takes the value away, and the refusal after it counts
refused_after_deletion : (v : Value) (r : Reason) → refused r (taken_away (accepted v (watched None))) ≡ Some (Known.Invalid r)
refused_after_deletion v r = refl

-- a deletion takes the reason away too
deleted_after_refusal : (v : Value) (r : Reason) → taken_away (refused r (taken_away (accepted v (watched None)))) ≡ Some Known.Absent
deleted_after_refusal v r = refl

-- the last refusal's reason counts
last_reason : (r s : Reason) → refused s (refused r (watched None)) ≡ Some (Known.Invalid s)
last_reason r s = refl

-- a key that is watched again keeps its fate, and one that wasn't in between has none
watched_twice : (v : Value) → watched (accepted v (watched None)) ≡ Some (Known.Value v)
watched_twice v = refl

watched_anew : (v : Value) → watched (unwatched (accepted v (watched None))) ≡ Some Known.Wanted
watched_anew v = refl
