use Rattle.std.proofs.Common.{refl}
use Rattle.hex.specs.Hex.{encode_with}
use Rattle.proto_wire.specs.Spelling.{number_field, spelled_within, text_field}
use Rattle.proto_discovery.specs.TypeUrls.{cluster_url, endpoint_url, listener_url, manager_url}
use Rattle.session_generator.specs.FirstLines.{first_lines}
use Rattle.session_generator.proofs.first_lines.first_lines.Goals as goal

pub returns : goal.returns
unfolding first_lines encode_with spelled_within text_field number_field cluster_url endpoint_url listener_url manager_url
returns c = refl
