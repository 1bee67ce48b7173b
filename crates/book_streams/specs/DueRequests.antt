-- The requests that may be due on the streams.
use Rattle.std.specs.Prelude.{◌≡◌, ◌==◌, ℕ, List, Bool, Option, Some, None, slice_get, if◌then◌else◌}
use Rattle.xc_base.specs.declared.names.Authority.{Authority}
use Rattle.xc_base.specs.declared.names.Kind.{Kind}
use Rattle.ads_stream.specs.declared.request_names.Names.{Names}
use Rattle.ads_stream.specs.declared.stream.StreamState.{StreamState}
use Rattle.ads_stream.specs.StreamSteps.{IsSettledBut}
use Rattle.book_streams.specs.declared.due_requests.Due.{Due}
use Rattle.book_streams.specs.StreamsKept.{place_of}

-- what is known once a response of a kind came on the stream at a place, which may have been marked before
abbrev pub due_after : ℕ → Kind → Bool → Due
due_after place kind was_marked = if was_marked then Due.Any else Due.Answer place kind

-- the kind of which alone a request may be due on the stream at a place, where that is known
abbrev pub kind_due_at : Due → ℕ → Option Kind
kind_due_at Due.Any place = None
kind_due_at (Due.Answer other kind) place = if other == place then Some kind else None

-- on a stream of which a kind is known no request of another kind is due, by the names of its authority
abbrev pub AreSettledBut : List StreamState → (Authority → Names) → Due → Type 0
AreSettledBut states names due = (place : ℕ) (kind : Kind) (state : StreamState) → kind_due_at due place ≡ Some kind → slice_get states place ≡ Some state → IsSettledBut state (names (place_of place)) kind
