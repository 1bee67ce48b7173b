-- What a driver's event says, and the payload that is prepared for it.
use Rattle.std.specs.Prelude.{◌≡◌, ◌<◌, ◌^◌, ℕ, List, [], length, true, Option, Some, None, IfSome, option_map}
use Rattle.std.specs.List.{filter_map}
use Rattle.proto_discovery.specs.declared.response.Response.{Response}
use Rattle.book_fates.specs.resource_check.declared.delivery.Prepared.{Prepared}
use Rattle.book_fates.specs.resource_check.Deliveries.{IsPrepared, once, refused_text}
use Rattle.ads_stream.specs.declared.stream.StreamState.{StreamState}
use Rattle.call_journal.specs.declared.event.DriverEvent.{DriverEvent}
use Rattle.call_journal.specs.declared.entry.Entry.{Entry}
use Rattle.book_fates.specs.config_assembly.Orders.{Name}
use Rattle.book_fates.specs.xds_history.Setting.{Setting}
use Rattle.book_fates.specs.xds_history.Responses as history
use Rattle.book_fates.specs.FateSteps.{AreApart, AreLawfulParts}
use Rattle.book_fates.specs.Delivered.{delivered_by, delivered_in}
use Rattle.book_fates.specs.declared.answered.Answered.{Answered}
use Rattle.book_streams.specs.StreamsKept.{states_with}
use Rattle.book_streams.specs.StreamsLaws.{came_with}
use Rattle.book_hearing.specs.declared.judging.Answerable.{Answerable}
use Rattle.book_hearing.specs.declared.event_hearing.Heard.{Heard}

-- ---- what is prepared

-- the payload of a response
abbrev pub payload_in : DriverEvent → Option (List ℕ)
payload_in (DriverEvent.Response a payload) = Some payload
payload_in _ = None

-- a response comes with its payload, read and checked, and nothing else does
pub record IsPreparedFor (event : DriverEvent) (prepared : Option Prepared) : Type 0 where
  pub same : option_map (λ p. p.payload) prepared ≡ payload_in event
  pub checked : IfSome prepared IsPrepared

-- the payload of a response is short enough to be read
abbrev pub IsShortIn : DriverEvent → Type 0
IsShortIn (DriverEvent.Response a payload) = length payload < 2 ^ 32
IsShortIn _ = Unit {0}

-- ---- a response that is answered

-- a response that can be read, of a kind that was asked for on the stream on which it came, with its resources and the
-- pattern texts at which their checks stop
pub record IsAnswerable (s : Setting) (past : List Entry) (event : DriverEvent) (a : Answerable) : Type 0 where
  pub payload : List ℕ
  pub response : Response
  pub event_is : event ≡ DriverEvent.Response a.authority payload
  pub reads : s.read payload ≡ Some response
  pub kind_is : s.kind_of response.type_url ≡ Some a.kind
  pub version_is : a.version ≡ response.version
  pub nonce_is : a.nonce ≡ response.nonce
  pub parts_are : a.parts ≡ history.parts s a.kind response.resources a.refused
  pub stops_are : a.refused ≡ once [] (filter_map refused_text (history.checks s a.kind response.resources a.refused))
  pub was_asked : history.is_asked a.authority a.kind past ≡ true

-- its resources can be taken in: no name is delivered twice, and each value passed its checks
pub record AreDeliverable (a : Answerable) : Type 0 where
  pub apart : AreApart a.parts
  pub lawful : AreLawfulParts a.kind a.parts

-- ---- what is heard

-- An event came after these entries, and this is heard of it. `new` are the streams by then.
pub record IsHeard (s : Setting) (past : List Entry) (event : DriverEvent) (new : List StreamState) (heard : Heard) : Type 0 where
  -- the verdict is the history's
  pub verdict_is : heard.verdict ≡ history.verdict s past event heard.refused
  -- the refused pattern texts are those at which the checks of an answered response stop where these are refused
  pub refused_are : heard.refused ≡ history.stopped_at s heard.refused (history.answered s (came_with event heard.verdict heard.refused))
  -- the answered response is the history's
  pub answered_is : option_map delivered_in heard.answered ≡ option_map delivered_by (history.answered s (came_with event heard.verdict heard.refused))
  -- and the streams have followed
  pub streams_are : new ≡ states_with s (came_with event heard.verdict heard.refused) past

-- the pattern texts of what is prepared
abbrev pub texts_of : Option Prepared → List Name
texts_of None = []
texts_of (Some prepared) = prepared.refused

-- the pattern texts that are told: those of an answered response
abbrev pub texts_told : Option Answered → Option Prepared → List Name
texts_told None prepared = []
texts_told (Some answered) prepared = texts_of prepared
