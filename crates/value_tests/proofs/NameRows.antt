-- Names and targets, computed by the definitions.
use Rattle.std.specs.Prelude.{◌≡◌, refl, ◌++◌, ℕ, List, [], ◌∷◌, map, codes, Some, None, Ok, Err}
use Rattle.percent_encoding.specs.Percent.{percent_encode_byte}
use Rattle.xc_base.specs.declared.names.Kind.{Kind}
use Rattle.xc_base.specs.declared.names.Home.{Home}
use Rattle.xc_base.specs.declared.names.NameFault.{NameFault}
use Rattle.xds_bootstrap.specs.Authorities.{authority_of, place_among}
use Rattle.xds_bootstrap.specs.declared.bootstrap.AuthorityEntry.{AuthorityEntry}
use Rattle.xds_name.specs.Names.{canonical_of, home_of, parts_of, has_bad_escape}
use Rattle.xds_name.specs.Targets.{escaped, filled, template_for, target_of, listener_of}
use Rattle.xds_name.specs.declared.target.TargetFault.{TargetFault}

-- ---- what is escaped

-- a line feed and the byte 0x7F are escaped, in upper-case digits: a set without control characters would keep them
controls : escaped (10 ∷ 127 ∷ codes "a") ≡ codes "%0A%7Fa"
unfolding escaped percent_encode_byte
controls = refl

-- a slash, a colon and an at sign stay, and a percent sign, a bracket, a blank and bytes outside ASCII don't
others : escaped (codes "~/:@-_.%[ ?#" ++ 195 ∷ 169 ∷ []) ≡ codes "~/:@-_.%25%5B%20%3F%23%C3%A9"
unfolding escaped percent_encode_byte
others = refl

-- each `%s` is replaced, and no other `%`
every_mark : filled (codes "%[") (codes "%s-%%s") ≡ codes "%[-%%["
unfolding filled
every_mark = refl

-- ---- canonical texts

-- keys are compared without the rest, so that `a` comes before `a-`; equal keys by all bytes; nothing is dropped or decoded
sorted : map canonical_of (codes "xdstp://a/T/i?b=2&a=1" ∷ codes "xdstp://a/T/i?a-=1&a=2" ∷ codes "xdstp:///T/i?b&&a&b" ∷ codes "xdstp://a/T/i?b=%31&a=%3D#c" ∷ [])
    ≡ codes "xdstp://a/T/i?a=1&b=2" ∷ codes "xdstp://a/T/i?a=2&a-=1" ∷ codes "xdstp:///T/i?&a&b&b" ∷ codes "xdstp://a/T/i?a=%3D#c&b=%31" ∷ []
unfolding canonical_of parts_of
sorted = refl

-- what hasn't the form stays
unsorted : map canonical_of (codes "svc?b=2&a=1" ∷ codes "xdstp://a/T?b/i&a" ∷ codes "xdstp:a/T/i?b&a" ∷ []) ≡ codes "svc?b=2&a=1" ∷ codes "xdstp://a/T?b/i&a" ∷ codes "xdstp:a/T/i?b&a" ∷ []
unfolding canonical_of parts_of
unsorted = refl

-- ---- homes

abbrev entry : List ℕ → List ℕ → AuthorityEntry
entry name template = record { name = name; server_uri = codes "ms:1"; template = template }

-- the default authority, and `a.example` without a template of its own
abbrev entries : List AuthorityEntry
entries = entry [] (codes "%s") ∷ entry (codes "a.example") (codes "xdstp://a.example/envoy.config.listener.v3.Listener/%s") ∷ []

abbrev nowhere : NameFault → Home
nowhere fault = Home.Nowhere fault

-- only an `xdstp:` name lives elsewhere, and only one of its own type
listener_homes : map (home_of entries Kind.Listener) (codes "svc%" ∷ codes "xdstp://a.example/envoy.config.listener.v3.Listener/x?b&a" ∷ codes "xdstp:x" ∷ codes "xdstp://a/T/i?a=1&b=2" ∷ [])
    ≡ Home.At record { 0 = 0 } ∷ Home.At record { 0 = 1 } ∷ nowhere NameFault.WrongType ∷ nowhere NameFault.WrongType ∷ []
unfolding home_of parts_of has_bad_escape authority_of place_among
listener_homes = refl

-- a bad escape comes before a wrong type, and that before an unknown authority; the default authority has no name
route_homes : map (home_of entries Kind.Route) (codes "xdstp:%" ∷ codes "xdstp://b/T/i%4" ∷ codes "xdstp://b/T/i" ∷ codes "xdstp://b/envoy.config.route.v3.RouteConfiguration/i%4f" ∷ codes "xdstp:///envoy.config.route.v3.RouteConfiguration/i" ∷ [])
    ≡ nowhere NameFault.BadEscape ∷ nowhere NameFault.BadEscape ∷ nowhere NameFault.WrongType ∷ nowhere NameFault.UnknownAuthority ∷ nowhere NameFault.UnknownAuthority ∷ []
unfolding home_of parts_of has_bad_escape authority_of place_among
route_homes = refl

-- ---- targets

forms : map target_of (codes "xds:svc" ∷ codes "xds:///svc" ∷ codes "xds://a.example/x[1]" ∷ codes "xds:" ∷ codes "xds:///" ∷ codes "xds://a.example" ∷ codes "xds://a.example/" ∷ codes "dns:svc" ∷ [])
    ≡ Some (None, codes "svc") ∷ Some (None, codes "svc") ∷ Some (Some (codes "a.example"), codes "x[1]") ∷ None ∷ None ∷ None ∷ None ∷ None ∷ []
unfolding target_of
forms = refl

-- the host is the target's name as written, and the listener's name has it escaped
listener : listener_of entries (codes "xds://a.example/x[1]")
    ≡ Ok record { key = record { kind = Kind.Listener; name = codes "xdstp://a.example/envoy.config.listener.v3.Listener/x%5B1%5D"; home = Home.At record { 0 = 1 } }; host = codes "x[1]" }
unfolding listener_of target_of template_for authority_of place_among filled escaped percent_encode_byte canonical_of parts_of home_of has_bad_escape
listener = refl

-- a target whose authority isn't there, and one that is itself a name without a home
faults : map (listener_of entries) (codes "xds://b/svc" ∷ codes "xds:xdstp:%" ∷ codes "dns:svc" ∷ [])
    ≡ Err (TargetFault.Name NameFault.UnknownAuthority) ∷ Err (TargetFault.Name NameFault.BadEscape) ∷ Err TargetFault.BadTarget ∷ []
unfolding listener_of target_of template_for authority_of place_among filled escaped percent_encode_byte canonical_of parts_of home_of has_bad_escape
faults = refl
