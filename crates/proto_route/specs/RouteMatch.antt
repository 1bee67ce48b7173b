-- What the bytes of a RouteMatch say (envoy.config.route.v3: the test of the path is prefix 1, path 2 or
-- safe_regex 10; case_sensitive 4, headers 6, query_parameters 7, which stay unread, runtime_fraction 9).
use Rattle.std.specs.Prelude.{ℕ, List, [], ◌∷◌, option_map, Result, Ok}
use Rattle.proto_wire.specs.Oneof.{read_member, if_set, ◌or◌}
use Rattle.proto_wire.specs.Reading.{◌>>=◌}
use Rattle.proto_wire.specs.FieldValues.{last_text, repeated, occurrences, oneof_of, read_repeated, read_singular}
use Rattle.proto_wire.specs.Wire.{fields}
use Rattle.proto_wire.specs.Wrappers.{bool_value}
use Rattle.proto_wire.specs.declared.field.Member.TheVariants.{Bytes}
use Rattle.proto_route.specs.Fraction.{runtime_fraction_of}
use Rattle.proto_route.specs.HeaderMatcher.{header_matcher_of}
use Rattle.proto_route.specs.StringMatcher.{regex_matcher_of}
use Rattle.proto_route.specs.declared.route_match.RawRouteMatch.{RawRouteMatch}
use Rattle.proto_route.specs.declared.route_match.RawRouteMatchOne.TheVariants.{Prefix, Path, SafeRegex}

unfoldable pub route_match_of : List ℕ → Result RawRouteMatch ℕ
route_match_of bs = do
  fs ← fields bs
  tests ← Ok (occurrences (Bytes 1 ∷ Bytes 2 ∷ Bytes 10 ∷ []) fs)
  set ← Ok (oneof_of (1 ∷ 2 ∷ 10 ∷ []) tests)
  prefix ← last_text 1 fs
  path ← last_text 2 fs
  case_sensitive ← read_singular bool_value 4 fs
  headers ← read_repeated header_matcher_of 6 fs
  query_parameters ← Ok (repeated 7 fs)
  runtime_fraction ← read_singular runtime_fraction_of 9 fs
  safe_regex ← read_member regex_matcher_of 10 tests
  one ← Ok (if_set set 1 (Prefix prefix) or if_set set 2 (Path path) or option_map SafeRegex safe_regex)
  Ok (record {
    one = one;
    case_sensitive = case_sensitive;
    headers = headers;
    query_parameters = query_parameters;
    runtime_fraction = runtime_fraction;
  })
