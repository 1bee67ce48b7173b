-- What a response delivers: its resources with their values or the reasons against them, and the pattern texts at which
-- their checks stop (Envoy's xDS transport; that the valid resources of a refused response are taken one by one is this
-- project's own).
use Rattle.std.specs.Prelude.{◌≡◌, ◌<◌, ◌^◌, ℕ, length, List, [], ◌∷◌, map, Bool, false, if◌then◌else◌, bytes_eq, All, IfOk, Option, Some, None, Result, Ok, Err}
use Rattle.std.specs.List.{filter_map, list_any}
use Rattle.std.specs.Option.{option_map_or}
use Rattle.xc_base.specs.declared.names.Kind.{Kind}
use Rattle.xc_base.specs.declared.reason.Reason.TheVariants.{Second}
use Rattle.proto_discovery.specs.declared.any.AnyValue.{AnyValue}
use Rattle.proto_discovery.specs.declared.response.Response.{Response}
use Rattle.proto_discovery.specs.Response.{response_of}
use Rattle.proto_discovery.specs.TypeUrls.{kind_of}
use Rattle.xds_config.specs.declared.value.Value.{Value}
use Rattle.xds_config.specs.Values as values
use Rattle.check_steps.specs.declared.check_fault.Refusal.{Refusal}
use Rattle.resource_check.specs.declared.delivery.Delivery.{Delivery}
use Rattle.resource_check.specs.declared.delivery.Reading.{Reading}
use Rattle.resource_check.specs.declared.delivery.Reading.TheVariants.{Unreadable, Read}
use Rattle.resource_check.specs.declared.delivery.Prepared.{Prepared}
use Rattle.resource_check.specs.declared.resource.Checked.{Checked}
use Rattle.resource_check.specs.Answers.{stop_text}
use Rattle.resource_check.specs.Resources.{check_of, reason_of}

abbrev pub among : List ℕ → List (List ℕ) → Bool
among name names = list_any (bytes_eq name) names

-- ---- resources

abbrev pub delivery_of : Result Checked Refusal → Delivery
delivery_of (Ok checked) = record { name = Some checked.name; result = Ok checked.value }
delivery_of (Err refusal) = record { name = refusal.name; result = Err (reason_of refusal.stop) }

abbrev pub is_name : Option (List ℕ) → List ℕ → Bool
is_name None other = false
is_name (Some name) other = bytes_eq name other

-- a resource whose name passes the test is refused as the second of its name
abbrev pub apart_where : (List ℕ → Bool) → Delivery → Delivery
apart_where test delivery = if option_map_or test delivery.name false then record delivery { result = Err Second } else delivery

abbrev pub with_name : Option (List ℕ) → List (List ℕ) → List (List ℕ)
with_name None names = names
with_name (Some name) names = name ∷ names

-- the second resource of a name is refused as such
abbrev pub told_apart : List (List ℕ) → List Delivery → List Delivery
told_apart before [] = []
told_apart before (delivery ∷ deliveries) =
    apart_where (λ name. among name before) delivery ∷ told_apart (with_name delivery.name before) deliveries

-- what the resources of a response deliver, where some texts are refused as patterns
abbrev pub deliveries_of : (List ℕ → Bool) → Kind → List AnyValue → List Delivery
deliveries_of refuses kind resources = told_apart [] (map delivery_of (map (check_of refuses kind) resources))

-- a value that passed the checks of its kind
abbrev pub IsLawfulDelivery : Kind → Delivery → Type 0
IsLawfulDelivery kind delivery = IfOk delivery.result (λ value. values.IsLawfulValue value × (values.kind_of value ≡ kind))

-- ---- pattern texts

abbrev pub refused_text : Result Checked Refusal → Option (List ℕ)
refused_text (Ok checked) = None
refused_text (Err refusal) = stop_text refusal.stop

-- each text once, at its first place, without those of `before`
abbrev pub once : List (List ℕ) → List (List ℕ) → List (List ℕ)
once before [] = []
once before (text ∷ texts) = if among text before then once before texts else text ∷ once (text ∷ before) texts

-- the texts at which the checks of the resources stop, each once, in the order in which the checks come to them
abbrev pub stops_of : (List ℕ → Bool) → Kind → List AnyValue → List (List ℕ)
stops_of refuses kind resources = once [] (filter_map refused_text (map (check_of refuses kind) resources))

-- ---- payloads

-- resources that are short enough to be read, as those of a payload that is
abbrev pub AreShort : List AnyValue → Type 0
AreShort resources = All (λ any. length any.value < 2 ^ 32) resources

-- of a type that is none of the four kinds no resource is checked
abbrev pub parts_in : (List ℕ → Bool) → Option Kind → List AnyValue → List Delivery
parts_in refuses None resources = []
parts_in refuses (Some kind) resources = deliveries_of refuses kind resources

abbrev pub stops_in : (List ℕ → Bool) → Option Kind → List AnyValue → List (List ℕ)
stops_in refuses None resources = []
stops_in refuses (Some kind) resources = stops_of refuses kind resources

abbrev pub reading_with : (List ℕ → Bool) → Result Response ℕ → Reading
reading_with refuses (Ok r) = Read (kind_of r.type_url) r.version r.nonce (parts_in refuses (kind_of r.type_url) r.resources)
reading_with refuses (Err at) = Unreadable

abbrev pub stops_with : (List ℕ → Bool) → Result Response ℕ → List (List ℕ)
stops_with refuses (Ok r) = stops_in refuses (kind_of r.type_url) r.resources
stops_with refuses (Err at) = []

-- a reading whose values passed the checks of their kind
abbrev pub AreLawfulIn : Option Kind → List Delivery → Type 0
AreLawfulIn None parts = parts ≡ []
AreLawfulIn (Some kind) parts = All (IsLawfulDelivery kind) parts

abbrev pub IsLawfulReading : Reading → Type 0
IsLawfulReading Unreadable = Unit {0}
IsLawfulReading (Read kind version nonce parts) = AreLawfulIn kind parts

-- The reading is that of its own payload where its own refused texts are refused, and these are the texts at which the
-- checks of the payload's resources stop then, each once, and no other.
pub record IsPrepared (prepared : Prepared) : Type 0 where
  pub reading : prepared.reading ≡ reading_with (λ text. among text prepared.refused) (response_of prepared.payload)
  pub refused : prepared.refused ≡ stops_with (λ text. among text prepared.refused) (response_of prepared.payload)
  pub lawful : IsLawfulReading prepared.reading
