-- The bootstrap that a JSON document is, or its first fault: member by member in the order of the table (gRFC A27, A47).
use Rattle.std.specs.Prelude.{◌≡◌, ℕ, ◌+◌, ◌==◌, List, [], ◌∷◌, ◌++◌, length, codes, Bool, true, false, nat_lt, if◌then◌else◌, Option, Some, None, is_some, unwrap_or, option_map, option_and_then, Result, Ok, Err}
use Rattle.std.specs.List.{starts_with}
use Rattle.std.specs.Option.{ok_or}
use Rattle.std.specs.Str.Lossy.{utf8_valid_len}
use Rattle.serde_json.specs.Data.{Data, Items, no_items, item, Members, no_members, member}
use Rattle.serde_json.specs.Find.{get, as_str, as_array, as_object}
use Rattle.serde_json.specs.Read.{read}
use Rattle.xc_base.specs.declared.call.Node.{Node}
use Rattle.xds_bootstrap.specs.declared.bootstrap.AuthorityEntry.{AuthorityEntry}
use Rattle.xds_bootstrap.specs.declared.bootstrap.Bootstrap.{Bootstrap}
use Rattle.xds_bootstrap.specs.declared.boot_fault.BootFault.{BootFault}
use Rattle.xds_bootstrap.specs.declared.boot_fault.BootFault.TheVariants.{NotJson, Missing, WrongKind, Memory}

infixl 10 ◌>>=◌
abbrev pub ◌>>=◌ : {A B : Type 0} → Result A BootFault → (A → Result B BootFault) → Result B BootFault
(Ok x) >>= f = f x
(Err e) >>= f = Err e

-- ---- members

-- a member of an object, if both are there
abbrev pub member_of : Option Data → List ℕ → Option Data
member_of holder name = option_and_then (get name) holder

abbrev pub text_in : List ℕ → Option Data → Result (Option (List ℕ)) BootFault
text_in name None = Ok None
text_in name (Some d) = ok_or (option_map Some (as_str d)) (WrongKind name)

abbrev pub object_in : List ℕ → Option Data → Result (Option Data) BootFault
object_in name None = Ok None
object_in name (Some d) = if is_some (as_object d) then Ok (Some d) else Err (WrongKind name)

-- an optional member that is a text
unfoldable pub text_member : Option Data → List ℕ → Result (Option (List ℕ)) BootFault
text_member holder name = text_in name (member_of holder name)

-- an optional member that is an object
unfoldable pub object_member : Option Data → List ℕ → Result (Option Data) BootFault
object_member holder name = object_in name (member_of holder name)

-- ---- `xds_servers`

abbrev pub uri_of : Option Data → Result (List ℕ) BootFault
uri_of None = Err (Missing (codes "server_uri"))
uri_of (Some d) = ok_or (as_str d) (WrongKind (codes "server_uri"))

-- of the servers the first is read, and of it the address alone
abbrev pub first_uri : Option Items → Result (List ℕ) BootFault
first_uri None = Err (WrongKind (codes "xds_servers"))
first_uri (Some no_items) = Err (Missing (codes "xds_servers"))
first_uri (Some (item d ds)) = if is_some (as_object d) then uri_of (get (codes "server_uri") d) else Err (WrongKind (codes "xds_servers"))

unfoldable pub servers_of : Option Data → Result (List ℕ) BootFault
servers_of None = Err (Missing (codes "xds_servers"))
servers_of (Some d) = first_uri (as_array d)

-- ---- `node`

-- the member `node`, of which a text is empty where it isn't there
unfoldable pub node_of : Option Data → Result Node BootFault
node_of document = do
  node ← object_member document (codes "node")
  id ← text_member node (codes "id")
  cluster ← text_member node (codes "cluster")
  locality ← object_member node (codes "locality")
  region ← text_member locality (codes "region")
  zone ← text_member locality (codes "zone")
  sub_zone ← text_member locality (codes "sub_zone")
  Ok record { id = unwrap_or id []; cluster = unwrap_or cluster []; region = unwrap_or region []; zone = unwrap_or zone []; sub_zone = unwrap_or sub_zone [] }

-- ---- templates

-- an empty default template counts as none
abbrev pub default_template : Option (List ℕ) → List ℕ
default_template None = codes "%s"
default_template (Some []) = codes "%s"
default_template (Some (b ∷ bs)) = b ∷ bs

abbrev pub default_entry : List ℕ → Option (List ℕ) → AuthorityEntry
default_entry uri template = record { name = []; server_uri = uri; template = default_template template }

-- what the names of an authority begin with
abbrev pub prefix_of : List ℕ → List ℕ
prefix_of authority = codes "xdstp://" ++ authority ++ codes "/"

abbrev pub template_with : List ℕ → List ℕ → Result (List ℕ) BootFault
template_with prefix template = if starts_with ◌==◌ template prefix then Ok template else Err (WrongKind (codes "client_listener_resource_name_template"))

abbrev pub template_in : List ℕ → Option (List ℕ) → Result (List ℕ) BootFault
template_in authority None = Ok (prefix_of authority ++ codes "envoy.config.listener.v3.Listener/%s")
template_in authority (Some template) = template_with (prefix_of authority) template

-- ---- `authorities`

-- an authority without servers of its own has the top ones
abbrev pub is_no_item : Option Items → Bool
is_no_item None = false
is_no_item (Some no_items) = true
is_no_item (Some (item d ds)) = false

abbrev pub is_empty_list : Data → Bool
is_empty_list d = is_no_item (as_array d)

abbrev pub own_servers : List ℕ → Option Data → Result (List ℕ) BootFault
own_servers top None = Ok top
own_servers top (Some d) = if is_empty_list d then Ok top else servers_of (Some d)

abbrev pub entry_in : List ℕ → List ℕ → Data → Result AuthorityEntry BootFault
entry_in top authority d = do
  uri ← own_servers top (get (codes "xds_servers") d)
  text ← text_member (Some d) (codes "client_listener_resource_name_template")
  template ← template_in authority text
  Ok record { name = authority; server_uri = uri; template = template }

unfoldable pub entry_of : List ℕ → List ℕ → Data → Result AuthorityEntry BootFault
entry_of top authority d = if is_some (as_object d) then entry_in top authority d else Err (WrongKind (codes "authorities"))

-- the entries before, and one for each member in the order of their names' bytes
unfoldable pub entries_from : List AuthorityEntry → List ℕ → Members → Result (List AuthorityEntry) BootFault
entries_from before top no_members = Ok before
entries_from before top (member name d ms) = entry_of top name d >>= λ entry. entries_from (before ++ entry ∷ []) top ms

abbrev pub count : Members → ℕ
count no_members = 0
count (member name d ms) = count ms + 1

abbrev pub entries_in : AuthorityEntry → Members → Result (List AuthorityEntry) BootFault
entries_in default ms = if nat_lt 65534 (count ms) then Err (WrongKind (codes "authorities")) else entries_from (default ∷ []) default.server_uri ms

abbrev pub named_after : AuthorityEntry → Option Members → Result (List AuthorityEntry) BootFault
named_after default None = Ok (default ∷ [])
named_after default (Some ms) = entries_in default ms

-- the default entry, and the named ones after it, of which there are at most 65,534
abbrev pub entries_of : AuthorityEntry → Option Data → Result (List AuthorityEntry) BootFault
entries_of default authorities = named_after default (option_and_then as_object authorities)

unfoldable pub all_entries : List ℕ → Option (List ℕ) → Option Data → Result (List AuthorityEntry) BootFault
all_entries uri template authorities = entries_of (default_entry uri template) authorities

-- ---- the document

abbrev pub bootstrap_in : Data → Result Bootstrap BootFault
bootstrap_in d = do
  uri ← servers_of (get (codes "xds_servers") d)
  node ← node_of (Some d)
  template ← text_member (Some d) (codes "client_default_listener_resource_name_template")
  authorities ← object_member (Some d) (codes "authorities")
  entries ← all_entries uri template authorities
  Ok record { authorities = entries; node = node }

abbrev pub bootstrap_of : Data → Result Bootstrap BootFault
bootstrap_of d = if is_some (as_object d) then bootstrap_in d else Err NotJson

-- the data that the bytes are, by the reading of `serde_json`
abbrev pub data_of : List ℕ → Option Data
data_of bytes = if utf8_valid_len bytes == length bytes then read bytes else None

unfoldable pub document_of : List ℕ → Result Data BootFault
document_of bytes = ok_or (data_of bytes) NotJson

-- the bootstrap that the bytes are
unfoldable pub read_bootstrap : List ℕ → Result Bootstrap BootFault
read_bootstrap bytes = document_of bytes >>= bootstrap_of

-- ---- what is read, and its faults

-- there was no memory, or the fault is that of the reading
abbrev pub Fails : {A : Type 0} → BootFault → Result A BootFault → Type 0
Fails Memory reading = Unit {0}
Fails NotJson reading = reading ≡ Err NotJson
Fails (Missing name) reading = reading ≡ Err (Missing name)
Fails (WrongKind name) reading = reading ≡ Err (WrongKind name)

abbrev pub Gives : {X A : Type 0} → (X → A) → Result X BootFault → Result A BootFault → Type 0
Gives view (Ok x) reading = reading ≡ Ok (view x)
Gives view (Err e) reading = Fails e reading
