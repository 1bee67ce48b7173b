-- Words that the lines of a report have in common (this project's own format).
use Rattle.std.specs.Prelude.{ℕ, ◌++◌, ◌==◌, if◌then◌else◌, List, [], Option, Some, None, option_map, codes, slice_get}
use Rattle.xc_base.specs.declared.names.Authority.{Authority}
use Rattle.xc_base.specs.declared.names.Kind.{Kind}
use Rattle.xc_base.specs.declared.names.Kind.TheVariants.{Listener, Route, Cluster, Endpoint}
use Rattle.xds_bootstrap.specs.declared.bootstrap.AuthorityEntry.{AuthorityEntry}
use Rattle.tree_text.specs.Escapes.{escaped}

abbrev pub kind_word : Kind → List ℕ
kind_word Listener = codes "listener"
kind_word Route = codes "route"
kind_word Cluster = codes "cluster"
kind_word Endpoint = codes "endpoint"

-- a name with its escapes; one that isn't there has no text
abbrev pub name_text : Option (List ℕ) → List ℕ
name_text None = []
name_text (Some name) = escaped name

-- the name of an authority by its place in the bootstrap
abbrev pub authority_name : List AuthorityEntry → Authority → Option (List ℕ)
authority_name authorities authority = option_map (λ e. e.name) (slice_get authorities authority.0)

-- the default authority, or a named one
abbrev pub authority_text : List AuthorityEntry → Authority → List ℕ
authority_text authorities authority =
    if authority.0 == 0 then codes "-"
    else codes "+" ++ name_text (authority_name authorities authority)
