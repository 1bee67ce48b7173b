-- Lines 1 to 4 of the generated session.
use Rattle.std.proofs.Common.{◌≡◌, codes, refl, Ok}
use Rattle.std.specs.Fmt.{digits}
use Rattle.std.specs.Str.{chars, is_utf8}
use Rattle.std.specs.Str.Lossy.{utf8_valid_len}
use Rattle.std.proofs.Math.Utf8.{encode}
use Rattle.serde_json.proofs.OnLiterals.{serde_json_on_literals}
use Rattle.percent_encoding.specs.Percent.{percent_encode_byte}
use Rattle.xc_base.specs.Numbers.{number_of}
use Rattle.xds_bootstrap.specs.Authorities.{authority_of, place_among}
use Rattle.xds_bootstrap.specs.Document.{all_entries, document_of, entries_from, entry_of, node_of, object_member, read_bootstrap, servers_of, text_member}
use Rattle.xds_name.specs.Names.{canonical_of, has_bad_escape, home_of, parts_of}
use Rattle.xds_name.specs.Targets.{escaped, filled, listener_of, target_of, template_for}
use Rattle.session_lines.specs.Session.{boot_of, callers_of, header_of}
use Rattle.session_lines.specs.Session as head
use Rattle.session_lines.specs.WordValues.{number_up_to, number_within}
use Rattle.generated_law.specs.GeneratedSession.{generated_boot, generated_target}

pub header_is : header_of (codes "xds-session 1") ≡ Ok tt
unfolding header_of is_utf8 chars encode
header_is = refl

pub boot_is : boot_of (codes "boot {\"xds_servers\":[{\"server_uri\":\"ms:1\"}],\"node\":{\"id\":\"n\"}}") ≡ Ok generated_boot
unfolding boot_of is_utf8 chars encode utf8_valid_len read_bootstrap document_of servers_of node_of text_member object_member all_entries entries_from entry_of serde_json_on_literals
boot_is = refl

pub target_is : head.target_of generated_boot (codes "target xds:///svc") ≡ Ok generated_target
unfolding head.target_of is_utf8 chars encode listener_of target_of template_for authority_of place_among filled escaped percent_encode_byte canonical_of parts_of home_of has_bad_escape
target_is = refl

pub callers_is : callers_of (codes "callers 4") ≡ Ok 4
unfolding callers_of is_utf8 chars encode number_within number_up_to number_of digits
callers_is = refl
