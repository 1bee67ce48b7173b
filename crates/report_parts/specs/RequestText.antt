-- The lines of refused patterns and of requests.
use Rattle.std.specs.Prelude.{ℕ, ◌++◌, List, [], ◌∷◌, Option, Some, None, codes, flat_map}
use Rattle.xc_base.specs.declared.call.Node.{Node}
use Rattle.xds_bootstrap.specs.declared.bootstrap.AuthorityEntry.{AuthorityEntry}
use Rattle.proto_discovery.specs.declared.request.Request.{Request}
use Rattle.call_journal.specs.declared.reply.Sent.{Sent}
use Rattle.tree_text.specs.Escapes.{escaped}
use Rattle.report_parts.specs.ReportWords.{authority_text, kind_word}

-- the line of a pattern that was refused
unfoldable pub pattern_line : List ℕ → List ℕ
pattern_line pattern = codes "  pat " ++ escaped pattern ++ codes "\n"

abbrev pub error_text : Option (List ℕ) → List ℕ
error_text None = []
error_text (Some error) = codes " err=" ++ escaped error

abbrev pub node_text : Option Node → List ℕ
node_text None = []
node_text (Some node) = codes " node"

-- further names, each behind a comma
abbrev pub more_names : List (List ℕ) → List ℕ
more_names names = flat_map (λ name. 44 ∷ escaped name) names

abbrev pub names_text : List (List ℕ) → List ℕ
names_text [] = []
names_text (name ∷ names) = escaped name ++ more_names names

-- what a request asks for and answers
unfoldable pub request_text : Request → List ℕ
request_text r =
    kind_word r.kind ++ codes " v=" ++ escaped r.version ++ codes " n=" ++ escaped r.nonce
    ++ codes " names=" ++ names_text r.names ++ error_text r.error ++ node_text r.node

-- the line of a request to an authority
unfoldable pub request_line : List AuthorityEntry → Sent → List ℕ
request_line authorities sent =
    codes "  req " ++ authority_text authorities sent.authority ++ codes " " ++ request_text sent.request ++ codes "\n"
