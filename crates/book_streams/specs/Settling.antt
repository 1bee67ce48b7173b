-- Streams on which nothing is due, and the marks of those of which that isn't known.
use Rattle.std.specs.Prelude.{◌≡◌, ◌<◌, ◌≤◌, ℕ, List, [], Bool, true, false, Some, length, slice_get, slice_set}
use Rattle.xc_base.specs.declared.names.Authority.{Authority}
use Rattle.xc_base.specs.declared.names.Home.{Home}
use Rattle.xc_base.specs.declared.names.Key.{Key}
use Rattle.xc_base.specs.declared.names.Kind.{Kind}
use Rattle.ads_stream.specs.declared.request_names.Names.{Names}
use Rattle.ads_stream.specs.declared.stream.StreamState.{StreamState}
use Rattle.ads_stream.specs.StreamSteps.{names_told, requests_due}
use Rattle.call_journal.specs.declared.reply.Sent.{Sent}
use Rattle.book_streams.specs.StreamsKept.{place_of, key_names, names_among}
use Rattle.book_streams.specs.Telling.{told_first, sent_first}

-- to be told these names changes nothing on the stream, and nothing is sent by it
pub record IsSettledBy (state : StreamState) (names : Names) : Type 0 where
  pub stands : names_told state names ≡ state
  pub quiet : requests_due state names ≡ []

-- each stream whose place isn't marked is settled by the names of its authority
abbrev pub AreSettled : List StreamState → List Bool → (Authority → Names) → Type 0
AreSettled states marks names = (place : ℕ) (state : StreamState) → slice_get states place ≡ Some state → slice_get marks place ≡ Some false → IsSettledBy state (names (place_of place))

-- streams with their marks, which were told the names of these keys last
pub record AreKept (states : List StreamState) (marks : List Bool) (told : List Key) : Type 0 where
  pub few : length states ≤ 65536
  pub long : length marks ≡ length states
  pub settled : AreSettled states marks (names_among told)

-- all marks stay, and there may be more
pub record KeepsMarks (old new : List Bool) : Type 0 where
  pub long : length new ≡ length old
  pub unmarked : (place : ℕ) → slice_get new place ≡ Some false → slice_get old place ≡ Some false

abbrev pub mark_home : List Bool → Home → List Bool
mark_home marks (Home.At authority) = slice_set marks authority.0 true
mark_home marks (Home.Nowhere fault) = marks

-- the keys of each authority whose place isn't marked have the same names
abbrev pub HaveSameNames : List Bool → List Key → List Key → Type 0
HaveSameNames marks keys others = (a : Authority) (kind : Kind) → slice_get marks a.0 ≡ Some false → key_names a kind keys ≡ key_names a kind others

-- the keys of each authority whose place isn't marked have the same names in two lists, where those that are left have
pub record IsCompared (old new : List Bool) (keys others keys_left others_left : List Key) : Type 0 where
  pub kept : KeepsMarks old new
  pub same : (a : Authority) (kind : Kind) → slice_get new a.0 ≡ Some false → key_names a kind keys_left ≡ key_names a kind others_left → key_names a kind keys ≡ key_names a kind others

-- no mark at places below this one
abbrev pub NoneBelow : List Bool → ℕ → Type 0
NoneBelow marks place = (p : ℕ) → slice_get marks p ≡ Some true → place ≤ p

-- nor at places from this one on
abbrev pub NoneFrom : List Bool → ℕ → Type 0
NoneFrom marks place = (p : ℕ) → slice_get marks p ≡ Some true → p < place

-- Streams of which those up to a place were told these names, or are settled by them. These are the marks that are left, up to
-- an end, and what was sent.
pub record IsTelling (names : Authority → Names) (before states : List StreamState) (marks : List Bool) (sent : List Sent) (place end : ℕ) : Type 0 where
  pub few : length states ≡ length before
  pub long : length marks ≡ length states
  pub within : end ≤ length before
  pub reaches : place ≤ length before
  pub stand : states ≡ told_first 0 place names before
  pub sends : sent ≡ sent_first 0 place names before
  pub settled : AreSettled states marks names
  pub below : NoneBelow marks place
  pub from : NoneFrom marks end
