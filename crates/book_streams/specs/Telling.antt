-- The streams of all authorities, step by step.
use Rattle.std.specs.Prelude.{ℕ, zero, suc, ◌+◌, List, [], ◌∷◌, ◌++◌, map}
use Rattle.xc_base.specs.declared.names.Authority.{Authority}
use Rattle.ads_stream.specs.declared.request_names.Names.{Names}
use Rattle.ads_stream.specs.declared.stream.StreamState.{StreamState}
use Rattle.ads_stream.specs.StreamSteps.{names_told, requests_due}
use Rattle.call_journal.specs.declared.reply.Sent.{Sent}
use Rattle.xds_history.specs.Requests.{sent_to}
use Rattle.book_streams.specs.StreamsKept.{place_of}

-- the first streams of a list, the first of which has this place, once they have been told the names that are watched
abbrev pub told_first : ℕ → ℕ → (Authority → Names) → List StreamState → List StreamState
told_first place zero names states = states
told_first place (suc n) names [] = []
told_first place (suc n) names (state ∷ states) = names_told state (names (place_of place)) ∷ told_first (place + 1) n names states

-- what is sent on them by that
abbrev pub sent_first : ℕ → ℕ → (Authority → Names) → List StreamState → List Sent
sent_first place zero names states = []
sent_first place (suc n) names [] = []
sent_first place (suc n) names (state ∷ states) = map (sent_to (place_of place)) (requests_due state (names (place_of place))) ++ sent_first (place + 1) n names states
