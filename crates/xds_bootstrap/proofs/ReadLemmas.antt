-- A bootstrap from its members.
use Rattle.std.proofs.Common.{◌≡◌, ℕ, List, Option, Some, Result, Ok, refl}
use Rattle.std.specs.Prelude.{codes}
use Rattle.serde_json.specs.Data.{Data}
use Rattle.serde_json.specs.Find.{get}
use Rattle.xc_base.specs.declared.call.Node.{Node}
use Rattle.xds_bootstrap.specs.Document.{◌>>=◌, servers_of, node_of, text_member, object_member, all_entries, bootstrap_in}
use Rattle.xds_bootstrap.specs.declared.bootstrap.AuthorityEntry.{AuthorityEntry}
use Rattle.xds_bootstrap.specs.declared.bootstrap.Bootstrap.{Bootstrap}
use Rattle.xds_bootstrap.specs.declared.boot_fault.BootFault.{BootFault}

abbrev with_entries : Node → Result (List AuthorityEntry) BootFault → Result Bootstrap BootFault
with_entries node found = found >>= λ entries. Ok record { authorities = entries; node = node }

pub bootstrap_made : (d : Data) (servers : Option Data) (uri : List ℕ) (node : Node) (text : Option (List ℕ)) (authorities : Option Data) (found : Result (List AuthorityEntry) BootFault)
    → servers ≡ get (codes "xds_servers") d → servers_of servers ≡ Ok uri → node_of (Some d) ≡ Ok node
    → text_member (Some d) (codes "client_default_listener_resource_name_template") ≡ Ok text → object_member (Some d) (codes "authorities") ≡ Ok authorities
    → all_entries uri text authorities ≡ found → bootstrap_in d ≡ with_entries node found
bootstrap_made d servers uri node text authorities found got has_uri has_node has_text has_authorities has_entries =
    rw (← got) (rw has_uri (rw has_node (rw has_text (rw has_authorities (rw has_entries refl)))))
