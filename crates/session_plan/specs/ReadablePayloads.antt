-- Which payloads can be read as responses, and what of their fields tells it (Envoy's xDS transport).
use Rattle.std.specs.Prelude.{ℕ, ◌<◌, ◌^◌, List, length, Bool, ◌&&◌, is_ok, is_some}
use Rattle.std.specs.Result.{result_ok}
use Rattle.proto_wire.specs.Reading.{optional}
use Rattle.proto_wire.specs.FieldValues.{bytes_at, last_text, read_repeated, text_at}
use Rattle.proto_wire.specs.Wire.{WireField}
use Rattle.proto_discovery.specs.Any.{any_of}
use Rattle.proto_discovery.specs.Response.{response_of}

-- as the setting of a history reads payloads
abbrev pub is_response : List ℕ → Bool
is_response payload = is_some (result_ok (response_of payload))

-- short enough to be a message
abbrev pub IsShort : List ℕ → Type 0
IsShort payload = length payload < 2 ^ 32

-- ---- fields

-- what a field says of the number, if anything, is a text
abbrev pub is_text_in : ℕ → WireField → Bool
is_text_in number f = is_ok (text_at number f)

-- each occurrence of the number is a text
abbrev pub are_texts : ℕ → List WireField → Bool
are_texts number fs = is_ok (last_text number fs)

abbrev pub is_any : List ℕ → Bool
is_any bytes = is_ok (any_of bytes)

-- what a field holds is read as a resource, if it is one
abbrev pub is_resource : WireField → Bool
is_resource f = is_ok (optional any_of (bytes_at 2 f))

abbrev pub are_resources : List WireField → Bool
are_resources fs = is_ok (read_repeated any_of 2 fs)

-- the fields are those of a response
abbrev pub are_response_fields : List WireField → Bool
are_response_fields fs = are_texts 1 fs && are_texts 4 fs && are_texts 5 fs && are_resources fs
