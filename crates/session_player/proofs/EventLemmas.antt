-- The events of a line of the driver.
use Rattle.std.proofs.Common.{◌≡◌, ◌<◌, ◌≤◌, ℕ, zero, suc, ◌+◌, ◌/◌, List, [], ◌∷◌, ◌++◌, length, map, drop, All, Bool, true, false, cond, Option, Some, None, Ok, refl, sym, ap, ◌∙◌, subst, arith, length-append}
use Rattle.std.proofs.lemmas.List.{length-map}
use Rattle.std.proofs.lemmas.List.Elements.{All-append, All-cons, All-head, All-nil, All-tail}
use Rattle.grpc_framing.specs.Cut.{cut}
use Rattle.call_journal.specs.declared.event.BytesHow.{BytesHow}
use Rattle.call_journal.specs.declared.event.DriverEvent.{DriverEvent}
use Rattle.call_journal.specs.declared.event.DriverEvent.TheVariants as event
use Rattle.xc_base.specs.declared.names.Authority.{Authority}
use Rattle.xds_bootstrap.specs.declared.bootstrap.Bootstrap.{Bootstrap}
use Rattle.session_lines.specs.Before.{driver_entries}
use Rattle.session_lines.specs.declared.session.DriverLine.{DriverLine}
use Rattle.session_lines.specs.declared.session.DriverLine.TheVariants as driver
use Rattle.session_script.specs.Plan.{Streams, data_events, ended_in, events_of, how_of, played_of}
use Rattle.session_player.proofs.FewFrames.{few_ended}
use Rattle.session_plan.specs.ReadablePayloads.{IsShort, is_response}
use Rattle.session_plan.proofs.ShortLemmas.{added_short}
use Rattle.session_shape.specs.SessionShape.{IsAuthorityOf, IsDriven}
use Rattle.session_player.specs.LineProgress.{EndsLine, IsPlayable}

-- ---- how many there are

few_played_by : (b : Bool) (p : List ℕ) (ps : List (List ℕ)) → length (played_of is_response ps) ≤ length ps → length (cond b (p ∷ played_of is_response ps) (p ∷ [])) ≤ suc (length ps)
few_played_by true p ps h = omega (arith, h)
few_played_by false p ps h = omega arith

few_played : (payloads : List (List ℕ)) → length (played_of is_response payloads) ≤ length payloads
few_played [] = omega arith
few_played (p ∷ ps) = few_played_by (is_response p) p ps (few_played ps)

few_data : (authority : Authority) (came : Option (List ℕ)) (bytes : List ℕ) → length (data_events is_response authority came bytes) ≤ 1 + (length bytes + 4) / 5
few_data authority None bytes = omega arith
few_data authority (Some before) bytes =
    let played = few_played (ended_in before bytes) in
    let ended = few_ended before bytes in
    let events = length-append (map (event.Response authority) (played_of is_response (ended_in before bytes))) (event.Bytes authority (how_of is_response before bytes) ∷ []) in
    let mapped = length-map (played_of is_response (ended_in before bytes)) (event.Response authority) in
    rw (events, mapped) (omega (arith, played, ended))

pub few_events : (streams : Streams) (what : DriverLine) → length (events_of is_response streams what) ≤ driver_entries what
few_events streams (driver.Opened authority) = omega arith
few_events streams (driver.Bytes authority bytes) = few_data authority (streams authority.0) bytes
few_events streams (driver.Lost authority) = omega arith
few_events streams (driver.Moment time) = omega arith
few_events streams (driver.Endpoint address state) = omega arith
few_events streams driver.Sweep = omega arith

-- ---- the last one ends the line

-- there is an event, and the last one ends the line
pub record AreEvents (events : List DriverEvent) : Type 0 where
  pub event : DriverEvent
  pub later : List DriverEvent
  pub is : events ≡ event ∷ later
  pub ends : EndsLine event later

one_event : (e : DriverEvent) → EndsLine e [] → AreEvents (e ∷ [])
one_event e ends = record { event = e; later = []; is = refl; ends = ends }

after_response : (a : Authority) (payload : List ℕ) (events : List DriverEvent) → AreEvents events → AreEvents (event.Response a payload ∷ events)
after_response a payload events are = record {
  event = event.Response a payload;
  later = are.event ∷ are.later;
  is = ap (λ (es : List DriverEvent). event.Response a payload ∷ es) are.is;
  ends = (refl, are.ends);
}

after_responses : (a : Authority) (how : BytesHow) (payloads : List (List ℕ)) → AreEvents (map (event.Response a) payloads ++ event.Bytes a how ∷ [])
after_responses a how [] = one_event (event.Bytes a how) refl
after_responses a how (p ∷ ps) = after_response a p (map (event.Response a) ps ++ event.Bytes a how ∷ []) (after_responses a how ps)

data_ends : (a : Authority) (came : Option (List ℕ)) (bytes : List ℕ) → AreEvents (data_events is_response a came bytes)
data_ends a None bytes = one_event _ refl
data_ends a (Some before) bytes = after_responses a (how_of is_response before bytes) (played_of is_response (ended_in before bytes))

pub line_ends : (streams : Streams) (what : DriverLine) → AreEvents (events_of is_response streams what)
line_ends streams (driver.Opened authority) = one_event (event.Opened authority) refl
line_ends streams (driver.Bytes authority bytes) = data_ends authority (streams authority.0) bytes
line_ends streams (driver.Lost authority) = one_event (event.Lost authority) refl
line_ends streams (driver.Moment time) = one_event (event.Moment time) refl
line_ends streams (driver.Endpoint address state) = one_event (event.Endpoint address state) refl
line_ends streams driver.Sweep = one_event event.Sweep refl

-- ---- a Book takes them

all_short : (bytes : List ℕ) → All IsShort (cut bytes).payloads
all_short bytes = added_short (Ok tt) [] bytes [] (cut bytes).payloads refl refl

drop_short : (n : ℕ) (payloads : List (List ℕ)) → All IsShort payloads → All IsShort (drop n payloads)
drop_short zero payloads all = all
drop_short (suc n) [] all = all
drop_short (suc n) (p ∷ ps) all = drop_short n ps (All-tail IsShort p ps all)

short_by : (t : Bool) (p : List ℕ) (ps : List (List ℕ)) → IsShort p → All IsShort ps → All IsShort (cond t (p ∷ ps) (p ∷ []))
short_by true p ps one all = All-cons IsShort p ps one all
short_by false p ps one all = All-cons IsShort p [] one (All-nil IsShort)

played_short : (payloads : List (List ℕ)) → All IsShort payloads → All IsShort (played_of is_response payloads)
played_short [] all = all
played_short (p ∷ ps) all = short_by (is_response p) p (played_of is_response ps) (All-head IsShort p ps all) (played_short ps (All-tail IsShort p ps all))

responses_playable : (boot : Bootstrap) (a : Authority) (payloads : List (List ℕ)) → IsAuthorityOf boot a → All IsShort payloads → All (IsPlayable boot) (map (event.Response a) payloads)
responses_playable boot a [] within all = All-nil (IsPlayable boot)
responses_playable boot a (p ∷ ps) within all =
    All-cons (IsPlayable boot) (event.Response a p) (map (event.Response a) ps) (within, All-head IsShort p ps all) (responses_playable boot a ps within (All-tail IsShort p ps all))

one_playable : (boot : Bootstrap) (e : DriverEvent) → IsPlayable boot e → All (IsPlayable boot) (e ∷ [])
one_playable boot e is = All-cons (IsPlayable boot) e [] is (All-nil (IsPlayable boot))

data_playable : (boot : Bootstrap) (a : Authority) (came : Option (List ℕ)) (bytes : List ℕ) → IsAuthorityOf boot a → All (IsPlayable boot) (data_events is_response a came bytes)
data_playable boot a None bytes within = one_playable boot _ within
data_playable boot a (Some before) bytes within =
    All-append (IsPlayable boot) (map (event.Response a) (played_of is_response (ended_in before bytes))) (event.Bytes a (how_of is_response before bytes) ∷ [])
    (responses_playable boot a (played_of is_response (ended_in before bytes)) within
    (played_short (ended_in before bytes) (drop_short (length (cut before).payloads) (cut (before ++ bytes)).payloads (all_short (before ++ bytes)))))
    (one_playable boot (event.Bytes a (how_of is_response before bytes)) within)

pub line_playable : (boot : Bootstrap) (streams : Streams) (what : DriverLine) → IsDriven boot what → All (IsPlayable boot) (events_of is_response streams what)
line_playable boot streams (driver.Opened authority) is = one_playable boot (event.Opened authority) is
line_playable boot streams (driver.Bytes authority bytes) is = data_playable boot authority (streams authority.0) bytes is
line_playable boot streams (driver.Lost authority) is = one_playable boot (event.Lost authority) is
line_playable boot streams (driver.Moment time) is = one_playable boot (event.Moment time) tt
line_playable boot streams (driver.Endpoint address state) is = one_playable boot (event.Endpoint address state) tt
line_playable boot streams driver.Sweep is = one_playable boot event.Sweep tt
