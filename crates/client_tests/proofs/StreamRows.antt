-- One stream, computed by the definitions: a first request, an ACK, a NACK and a new stream.
use Rattle.std.specs.Prelude.{◌≡◌, refl, List, [], ◌∷◌, Option, Some, None, codes}
use Rattle.xc_base.specs.declared.call.Node.{Node}
use Rattle.xc_base.specs.declared.names.Kind.TheVariants.{Listener, Cluster}
use Rattle.proto_discovery.specs.declared.request.Request.{Request}
use Rattle.ads_stream.specs.declared.request_names.Names.{Names}
use Rattle.ads_stream.specs.declared.stream.StreamState.{StreamState}
use Rattle.ads_stream.specs.declared.verdict.Verdict.{Verdict}
use Rattle.ads_stream.specs.StreamSteps.{Text, unopened, opened, lost, verdict_of, response_taken, requests_due, names_told}

abbrev names : List Text → Names
names clusters = record { listener = codes "svc" ∷ []; route = []; cluster = clusters; endpoint = [] }

-- a request for the listener, of this version and nonce
abbrev request : Text → Text → Option Node → Option Text → Request
request version nonce node error = record { kind = Listener; version = version; nonce = nonce; names = codes "svc" ∷ []; node = node; error = error }

-- once the listener was asked for on an open stream
abbrev asking : Node → StreamState
asking node = names_told (opened (unopened node)) (names [])

-- once version 1 was accepted and answered
abbrev accepted : Node → StreamState
accepted node = names_told (response_taken (asking node) Listener (codes "1") (codes "n1") None) (names [])

-- once version 2 was refused
abbrev refused : Node → StreamState
refused node = response_taken (accepted node) Listener (codes "2") (codes "n2") (Some (codes "no-routes"))

-- the first request has the node, and a closed stream sends none
first : (node : Node) → requests_due (opened (unopened node)) (names []) ≡ request [] [] (Some node) None ∷ []
first node = refl

closed : (node : Node) → requests_due (unopened node) (names []) ≡ []
closed node = refl

-- nothing is due twice
once : (node : Node) → requests_due (asking node) (names []) ≡ []
once node = refl

-- a refusal keeps the version and takes the nonce
refusal : (node : Node) → requests_due (refused node) (names []) ≡ request (codes "1") (codes "n2") None (Some (codes "no-routes")) ∷ []
refusal node = refl

-- what wasn't asked for is ignored, and no answer comes of it
ignored : (node : Node) → verdict_of (asking node) Cluster None ≡ Verdict.Ignored
ignored node = refl

ignored_stands : (node : Node) → response_taken (asking node) Cluster (codes "1") (codes "n1") None ≡ asking node
ignored_stands node = refl

-- a new stream keeps the version alone
reopened : (node : Node) → requests_due (opened (refused node)) (names []) ≡ request (codes "1") [] (Some node) None ∷ []
reopened node = refl

lost_is_closed : (node : Node) → verdict_of (lost (accepted node)) Listener None ≡ Verdict.Closed
lost_is_closed node = refl
