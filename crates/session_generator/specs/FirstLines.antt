-- Lines 1 to 12 of the generated session: a channel with one listener, two clusters of weights 1 and 3, and two endpoints of
-- each, which are ready (this project's own format).
use Rattle.std.specs.Prelude.{ℕ, List, [], ◌∷◌, ◌++◌, codes}
use Rattle.hex.specs.Hex.{encode_lower}
use Rattle.xc_base.specs.declared.names.Kind.TheVariants.{Listener, Cluster, Endpoint}
use Rattle.grpc_framing.specs.Framing.{frame}
use Rattle.session_generator.specs.ShortForms.{response_form, listener_form, routes_form, host_form, weighted_form, prefix_form, cluster_form, endpoint_form, locality_form, assignment_form}

-- ---- lines 6 to 8: what the three responses are

abbrev pub listener_response : List ℕ
listener_response = response_form (codes "1") (codes "L1") Listener (listener_form (codes "svc") (routes_form (codes "r") (host_form (codes "h") (codes "*" ∷ []) (prefix_form [] (weighted_form (codes "c0") 1 ∷ weighted_form (codes "c1") 3 ∷ []) ∷ []) ∷ [])) ∷ [])

abbrev pub cluster_response : List ℕ
cluster_response = response_form (codes "1") (codes "C1") Cluster (cluster_form (codes "c0") ∷ cluster_form (codes "c1") ∷ [])

-- one locality of two endpoints
abbrev pub two_endpoints : List ℕ → List ℕ → List ℕ → List ℕ
two_endpoints name first second = assignment_form name (locality_form 0 (codes "z") 1 (endpoint_form first 80 ∷ endpoint_form second 80 ∷ []) ∷ [])

abbrev pub endpoint_response : List ℕ
endpoint_response = response_form (codes "1") (codes "E1") Endpoint (two_endpoints (codes "c0") (codes "10.0.0.1") (codes "10.0.0.2") ∷ two_endpoints (codes "c1") (codes "10.0.1.1") (codes "10.0.1.2") ∷ [])

-- ---- the lines

-- the frame of a payload, on the stream of the default authority
abbrev pub data_line : List ℕ → List ℕ
data_line payload = codes "d data - " ++ encode_lower (frame payload) ++ codes "\n"

abbrev pub ready_line : List ℕ → List ℕ
ready_line address = codes "d endpoint " ++ address ++ codes " ready\n"

unfoldable pub first_lines : List ℕ
first_lines =
    codes "xds-session 1\n"
    ++ codes "boot {\"xds_servers\":[{\"server_uri\":\"ms:1\"}],\"node\":{\"id\":\"n\"}}\n"
    ++ codes "target xds:///svc\n"
    ++ codes "callers 4\n"
    ++ codes "d open -\n"
    ++ data_line listener_response
    ++ data_line cluster_response
    ++ data_line endpoint_response
    ++ ready_line (codes "10.0.0.1:80")
    ++ ready_line (codes "10.0.0.2:80")
    ++ ready_line (codes "10.0.1.1:80")
    ++ ready_line (codes "10.0.1.2:80")
