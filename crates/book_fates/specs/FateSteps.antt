-- What an entry changes of what is known of watched keys.
use Rattle.std.specs.Prelude.{◌≡◌, ℕ, length, filter, List, [], ◌∷◌, Bool, false, ◌&&◌, Option, Some, None, if◌then◌else◌, option_map, option_and_then, true, is_ok, All, IfOk, IsSome}
use Rattle.std.specs.Option.{option_or}
use Rattle.xc_base.specs.declared.names.Kind.{Kind}
use Rattle.xc_base.specs.declared.names.Authority.{Authority}
use Rattle.xc_base.specs.declared.names.Home.{Home}
use Rattle.xc_base.specs.declared.names.Key.{Key}
use Rattle.xc_base.specs.declared.names.Time.{Time}
use Rattle.xc_keys.specs.Keys.{is_key}
use Rattle.xds_config.specs.declared.value.Value.{Value}
use Rattle.xds_cache.specs.declared.fate.Known.{Known}
use Rattle.xds_cache.specs.KeptFates.{Watched as Rows, known_of, after_refusal}
use Rattle.config_assembly.specs.Reach.{is_wanted}
use Rattle.config_assembly.specs.Orders.{Name}
use Rattle.config_assembly.specs.Watching.{has_key}
use Rattle.xds_config.specs.Values.{IsLawfulValue, kind_of}
use Rattle.call_journal.specs.declared.event.DriverEvent.{DriverEvent}
use Rattle.call_journal.specs.declared.entry.Entry.{Entry}
use Rattle.xds_history.specs.Words.{same_kind, lives_at}
use Rattle.xds_history.specs.Setting.{Setting}
use Rattle.xds_history.specs.Streams.{is_up}
use Rattle.xds_history.specs.resource_check.declared.delivery.Delivery.{Delivery}
use Rattle.xds_history.specs.declared.responses.Told.{Told}
use Rattle.xds_history.specs.Responses.{Came, answered, delivers, is_named}
use Rattle.xds_history.specs.declared.page.Page.{Page}
use Rattle.xds_history.specs.declared.page.Watched.{Watched}
use Rattle.xds_history.specs.declared.page.Mark.{Mark}
use Rattle.xds_history.specs.Page.{find_watched}
use Rattle.xds_history.specs.Fates.{judged, has_value, deletes, lacks, first_asked, is_over, mark_of}

-- the cache knows what came
abbrev pub Knows : Rows → List Watched → Type 0
Knows rows watched = (key : Key) → known_of rows key ≡ option_map (λ w. judged w.marks) (find_watched key watched)

-- no key is watched but these
abbrev pub WatchesOnly : Rows → List Key → Type 0
WatchesOnly rows keys = (key : Key) → IsSome (known_of rows key) → has_key keys key ≡ true

-- what is known of a watched key once this came
abbrev pub after_mark : Mark → Known → Known
after_mark (Mark.Valid v) known = Known.Value v
after_mark (Mark.Invalid reason) known = after_refusal reason known
after_mark Mark.Gone known = Known.Absent

abbrev pub after_marks : Option Mark → Known → Known
after_marks None known = known
after_marks (Some m) known = after_mark m known

-- of each watched key this is known now, by what was known of it
abbrev pub Stepped : Rows → Rows → (Key → Known → Known) → Type 0
Stepped old new step = (key : Key) → known_of new key ≡ option_map (step key) (known_of old key)

-- ---- what an entry brings for a watched key of which this is known

abbrev pub is_let_go : Told → Key → Known → Bool
is_let_go t key known = deletes t.kind && same_kind t.kind key.kind && lives_at t.authority key.home && lacks t key && has_value known

abbrev pub brings : Told → Key → Known → Option Mark
brings t key known = option_or (option_map mark_of (delivers t key)) (if is_let_go t key known then Some Mark.Gone else None)

abbrev pub is_out : List Entry → List Page → Time → Authority → Key → Known → Bool
is_out past ps now a key known = is_wanted known && is_up a past && is_over now (first_asked ps a key)

abbrev pub brings_timed : List Entry → List Page → Time → Key → Known → DriverEvent → Home → Option Mark
brings_timed past ps now key known (DriverEvent.Moment time) (Home.At a) = if is_out past ps now a key known then Some Mark.Gone else None
brings_timed past ps now key known _ _ = None

abbrev pub mark_known : Setting → Came → List Entry → List Page → Time → Key → Known → Option Mark
mark_known s c past ps now key known = option_or (option_and_then (λ t. brings t key known) (answered s c)) (brings_timed past ps now key known c.event key.home)

-- what an entry makes of what is known of a watched key
abbrev pub step : Setting → Came → List Entry → List Page → Time → Key → Known → Known
step s c past ps now key known = after_marks (mark_known s c past ps now key known) known

-- ---- the parts of a response

-- a part is of a key
abbrev pub is_part_of : Authority → Kind → Delivery → Key → Bool
is_part_of a kind part key = (same_kind kind key.kind && lives_at a key.home) && is_named key.name part

abbrev pub part_step : Authority → Kind → Delivery → Key → Known → Known
part_step a kind part key known = if is_part_of a kind part key then after_mark (mark_of part.result) known else known

-- the parts, the last one first
abbrev pub parts_step : Authority → Kind → List Delivery → Key → Known → Known
parts_step a kind [] key known = known
parts_step a kind (part ∷ parts) key known = part_step a kind part key (parts_step a kind parts key known)

-- ---- the deletions of a response

abbrev pub gone_step : Told → Key → Known → Known
gone_step t key known = if is_let_go t key known then Known.Absent else known

-- of one key alone
abbrev pub gone_at : Told → Key → Key → Known → Known
gone_at t key other known = if is_key key other then gone_step t other known else known

-- ---- what a response changes

-- the key is of this kind, and this authority is its home
abbrev pub is_theirs : Authority → Kind → Key → Bool
is_theirs a kind key = same_kind kind key.kind && lives_at a key.home

-- each of these keys is
abbrev pub AreOf : Authority → Kind → List Key → Type 0
AreOf a kind keys = All (λ key. is_theirs a kind key ≡ true) keys

-- what was listed before is listed after, and so is each key of which something else is known
abbrev pub AreListed : (old new : Rows) → (before after : List Key) → Type 0
AreListed old new before after = (key : Key) → has_key after key ≡ false → (has_key before key ≡ false) × (known_of new key ≡ known_of old key)

-- at how many keys a response of this kind is looked for what it lacks: at none, or, where its kind deletes, at those of its kind
abbrev pub most_deleted : Kind → List Key → ℕ
most_deleted kind keys = if deletes kind then length (filter (λ key. same_kind kind key.kind) keys) else 0

-- the key of a named resource
abbrev pub key_at : Authority → Kind → Name → Key
key_at a kind name = record { kind = kind; name = name; home = Home.At a }

-- ---- no name is delivered twice

-- no part of this name is valid
abbrev pub OnlyRefuses : Name → List Delivery → Type 0
OnlyRefuses name [] = Unit {0}
OnlyRefuses name (part ∷ parts) = (is_named name part ≡ true → is_ok part.result ≡ false) × OnlyRefuses name parts

-- a part after one of its name is invalid
abbrev pub AreApart : List Delivery → Type 0
AreApart [] = Unit {0}
AreApart (part ∷ parts) = ((name : Name) → is_named name part ≡ true → OnlyRefuses name parts) × AreApart parts

-- ---- what is lawful

-- a value of this kind that passed its checks
abbrev pub IsLawfulOf : Kind → Value → Type 0
IsLawfulOf kind value = IsLawfulValue value × (kind_of value ≡ kind)

abbrev pub AreLawfulParts : Kind → List Delivery → Type 0
AreLawfulParts kind parts = All (λ part. IfOk part.result (IsLawfulOf kind)) parts

-- a step of the keys of a list alone
abbrev pub among_step : (Key → Known → Known) → List Key → Key → Known → Known
among_step f keys key known = if has_key keys key then f key known else known

-- the keys of a list are let go
abbrev pub gone_among : Told → List Key → Key → Known → Known
gone_among t keys = among_step (gone_step t) keys

-- the parts and the deletions of a response
abbrev pub told_step : Told → Key → Known → Known
told_step t key known = after_marks (brings t key known) known

-- keys that have run out are taken away
abbrev pub out_step : Key → Known → Known
out_step key known = Known.Absent

abbrev pub out_among : List Key → Key → Known → Known
out_among keys = among_step out_step keys
