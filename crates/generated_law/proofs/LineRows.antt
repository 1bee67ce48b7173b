-- Words of the generated session, read.
use Rattle.std.proofs.Common.{◌≡◌, [], codes, length, refl, Some, true}
use Rattle.std.specs.Fmt.{decimal, digits}
use Rattle.xc_base.specs.Addresses.{address_in, is_address, is_ipv4, is_number_up_to, is_port}
use Rattle.xc_base.specs.Numbers.{number_of}
use Rattle.xc_base.specs.declared.names.State.{State}
use Rattle.proto_wire.specs.Spelling.{number_field, spelled_within, text_field}
use Rattle.proto_discovery.specs.TypeUrls.{cluster_url, endpoint_url, listener_url, manager_url}
use Rattle.grpc_framing.specs.Framing.{frame}
use Rattle.session_lines.specs.WordValues.{all_fields, authority_in, default, fields_in, is_number, state_in}
use Rattle.session_generator.specs.FirstLines.{cluster_response, endpoint_response, listener_response}
use Rattle.generated_law.specs.GeneratedSession.{generated_boot}
use Rattle.generated_law.proofs.PlainTexts.{are_bytes}

-- ---- callers

pub caller_1 : is_number (decimal 1) ≡ true
unfolding is_number digits
caller_1 = refl

pub caller_2 : is_number (decimal 2) ≡ true
unfolding is_number digits
caller_2 = refl

pub caller_3 : is_number (decimal 3) ≡ true
unfolding is_number digits
caller_3 = refl

pub caller_4 : is_number (decimal 4) ≡ true
unfolding is_number digits
caller_4 = refl

pub no_fields : fields_in [] ≡ Some []
unfolding fields_in all_fields
no_fields = refl

-- ---- addresses and states

pub first_address : address_in (codes "10.0.0.1:80") ≡ Some (codes "10.0.0.1:80")
unfolding address_in is_address is_ipv4 is_number_up_to is_port number_of digits
first_address = refl

pub second_address : address_in (codes "10.0.0.2:80") ≡ Some (codes "10.0.0.2:80")
unfolding address_in is_address is_ipv4 is_number_up_to is_port number_of digits
second_address = refl

pub third_address : address_in (codes "10.0.1.1:80") ≡ Some (codes "10.0.1.1:80")
unfolding address_in is_address is_ipv4 is_number_up_to is_port number_of digits
third_address = refl

pub fourth_address : address_in (codes "10.0.1.2:80") ≡ Some (codes "10.0.1.2:80")
unfolding address_in is_address is_ipv4 is_number_up_to is_port number_of digits
fourth_address = refl

pub is_ready : state_in (codes "ready") ≡ Some State.Ready
unfolding state_in
is_ready = refl

pub is_failing : state_in (codes "failing") ≡ Some State.Failing
unfolding state_in
is_failing = refl

pub is_default : authority_in generated_boot.authorities (codes "-") ≡ Some default
unfolding authority_in
is_default = refl

-- ---- frames

pub listener_bytes : are_bytes (frame listener_response) ≡ true
unfolding spelled_within text_field number_field cluster_url endpoint_url listener_url manager_url
listener_bytes = refl

pub cluster_bytes : are_bytes (frame cluster_response) ≡ true
unfolding spelled_within text_field number_field cluster_url endpoint_url listener_url manager_url
cluster_bytes = refl

pub endpoint_bytes : are_bytes (frame endpoint_response) ≡ true
unfolding spelled_within text_field number_field cluster_url endpoint_url listener_url manager_url
endpoint_bytes = refl

pub listener_length : length (frame listener_response) ≡ 288
unfolding spelled_within text_field number_field cluster_url endpoint_url listener_url manager_url
listener_length = refl

pub cluster_length : length (frame cluster_response) ≡ 203
unfolding spelled_within text_field number_field cluster_url endpoint_url listener_url manager_url
cluster_length = refl

pub endpoint_length : length (frame endpoint_response) ≡ 334
unfolding spelled_within text_field number_field cluster_url endpoint_url listener_url manager_url
endpoint_length = refl
