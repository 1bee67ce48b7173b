-- What is known of watched keys, and what each call changes.
use Rattle.std.specs.Prelude.{◌≡◌, ◌↔◌, Bool, true, false, List, Option, Some, None, IfSome, unwrap_or, option_map, ⊤, if◌then◌else◌}
use Rattle.std.specs.Map.{lookup}
use Rattle.xc_base.specs.declared.names.Key.{Key}
use Rattle.xc_base.specs.declared.names.Home.{Home}
use Rattle.xc_base.specs.declared.names.Home.TheVariants.{At, Nowhere}
use Rattle.xc_base.specs.declared.names.NameFault.{NameFault}
use Rattle.xc_base.specs.declared.names.NameFault.TheVariants as fault
use Rattle.xc_base.specs.declared.reason.Reason.{Reason}
use Rattle.xc_base.specs.declared.reason.Reason.TheVariants.{BadEscape, BadType, BadAuthority}
use Rattle.xc_keys.specs.Keys.{is_key}
use Rattle.xds_config.specs.declared.value.Value.{Value as ValueOf}
use Rattle.xds_config.specs.Values.{IsLawfulValue, kind_of}
use Rattle.xds_cache.specs.declared.fate.Known.{Known}
use Rattle.xds_cache.specs.declared.fate.Known.TheVariants.{Wanted, Value, Invalid, Absent}
use Rattle.xds_cache.specs.declared.fate.Fate.{Fate}
use Rattle.xds_cache.specs.declared.fate.Fate.TheVariants as lent

-- the watched keys, each with what is known of it
abbrev pub Watched : Type 0
Watched = List (Key × Known)

-- what is known of the key, if it is watched
abbrev pub known_of : Watched → Key → Option Known
known_of keys key = lookup (is_key key) keys

-- the reason for which a name without a home is refused (gRFC A47)
abbrev pub reason_of : NameFault → Reason
reason_of fault.BadEscape = BadEscape
reason_of fault.WrongType = BadType
reason_of fault.UnknownAuthority = BadAuthority

-- what has no home is never asked for, and nothing is known of what isn't watched
abbrev pub fate_at : Home → Option Known → Known
fate_at (At authority) known = unwrap_or known Wanted
fate_at (Nowhere fault) known = Invalid (reason_of fault)

-- the fate of the key
abbrev pub fate_of : Watched → Key → Known
fate_of keys key = fate_at key.home (known_of keys key)

-- what a fate that is lent tells
abbrev pub shown : Fate → Known
shown lent.Wanted = Wanted
shown (lent.Value value) = Value value.now
shown (lent.Invalid reason) = Invalid reason.now
shown lent.Absent = Absent

abbrev pub is_value : Known → Bool
is_value Wanted = false
is_value (Value value) = true
is_value (Invalid reason) = false
is_value Absent = false

-- a value passed its checks and is of the key's kind
abbrev pub IsLawfulAt : Key → Known → Type 0
IsLawfulAt key Wanted = ⊤
IsLawfulAt key (Value value) = IsLawfulValue value × (kind_of value ≡ key.kind)
IsLawfulAt key (Invalid reason) = ⊤
IsLawfulAt key Absent = ⊤

abbrev pub AllLawful : Watched → Type 0
AllLawful keys = (key : Key) → IfSome (known_of keys key) (IsLawfulAt key)

-- what is known of this key changes so, and of all others the same is known as before
abbrev pub Changes : Watched → Watched → Key → (Option Known → Option Known) → Type 0
Changes old new key change = (other : Key) → known_of new other ≡ (if is_key key other then change (known_of old key) else known_of old other)

-- this says whether such a change makes something else of what is known of this key
abbrev pub TellsChange : Bool → Watched → Key → (Option Known → Option Known) → Type 0
TellsChange is_other old key change = (is_other ≡ false) ↔ (change (known_of old key) ≡ known_of old key)

-- what is known of a key once it is watched: what was known of it before, if it was
abbrev pub watched : Option Known → Option Known
watched known = Some (unwrap_or known Wanted)

abbrev pub unwatched : Option Known → Option Known
unwatched known = None

-- this is known of the key, if it is watched
abbrev pub settled : Known → Option Known → Option Known
settled now known = option_map (λ before. now) known

abbrev pub accepted : ValueOf → Option Known → Option Known
accepted value known = settled (Value value) known

-- a refused resource leaves the last value, and takes the place of all else
abbrev pub after_refusal : Reason → Known → Known
after_refusal reason Wanted = Invalid reason
after_refusal reason (Value value) = Value value
after_refusal reason (Invalid other) = Invalid reason
after_refusal reason Absent = Invalid reason

abbrev pub refused : Reason → Option Known → Option Known
refused reason known = option_map (after_refusal reason) known

-- a deletion or an expiry
abbrev pub taken_away : Option Known → Option Known
taken_away known = settled Absent known
