-- What the bytes of a HeaderMatcher say (envoy.config.route.v3: name 1; the test is exact_match 4, range_match
-- 6, present_match 7, prefix_match 9, suffix_match 10, safe_regex_match 11, contains_match 12 or string_match
-- 13; invert_match 8), and those of its range (envoy.type.v3.Int64Range: start 1, end 2).
use Rattle.std.specs.Prelude.{ℕ, List, [], ◌∷◌, Option, option_map, Result, Ok}
use Rattle.proto_wire.specs.Oneof.{read_member, if_set, ◌or◌}
use Rattle.proto_wire.specs.Reading.{◌>>=◌}
use Rattle.proto_wire.specs.FieldValues.{last_text, last_bool, last_int64, occurrences, oneof_of}
use Rattle.proto_wire.specs.Wire.{WireField, fields}
use Rattle.proto_wire.specs.declared.field.Member.TheVariants.{Bytes, Varint}
use Rattle.proto_route.specs.StringMatcher.{regex_matcher_of, string_matcher_of}
use Rattle.proto_route.specs.declared.header_matcher.RawRange.{RawRange}
use Rattle.proto_route.specs.declared.header_matcher.RawHeaderMatcher.{RawHeaderMatcher}
use Rattle.proto_route.specs.declared.header_matcher.RawHeaderMatcherOne.{RawHeaderMatcherOne}
use Rattle.proto_route.specs.declared.header_matcher.RawHeaderMatcherOne.TheVariants.{ExactMatch, RangeMatch, PresentMatch, PrefixMatch, SuffixMatch, SafeRegexMatch, ContainsMatch, StringMatch}

unfoldable pub range_of : List ℕ → Result RawRange ℕ
range_of bs = do
  fs ← fields bs
  Ok (record { start = last_int64 1 fs; end = last_int64 2 fs })

-- the occurrences of the tests
abbrev pub header_tests : List WireField → List WireField
header_tests = occurrences (Bytes 4 ∷ Bytes 6 ∷ Varint 7 ∷ Bytes 9 ∷ Bytes 10 ∷ Bytes 11 ∷ Bytes 12 ∷ Bytes 13 ∷ [])

-- the test that is set, if one is
unfoldable pub header_test : List WireField → Result (Option RawHeaderMatcherOne) ℕ
header_test fs = do
  tests ← Ok (header_tests fs)
  set ← Ok (oneof_of (4 ∷ 6 ∷ 7 ∷ 9 ∷ 10 ∷ 11 ∷ 12 ∷ 13 ∷ []) tests)
  exact ← last_text 4 fs
  range ← read_member range_of 6 tests
  present ← Ok (last_bool 7 fs)
  prefix ← last_text 9 fs
  suffix ← last_text 10 fs
  regex ← read_member regex_matcher_of 11 tests
  contains ← last_text 12 fs
  string ← read_member string_matcher_of 13 tests
  Ok (if_set set 4 (ExactMatch exact) or option_map RangeMatch range or if_set set 7 (PresentMatch present)
      or if_set set 9 (PrefixMatch prefix) or if_set set 10 (SuffixMatch suffix) or option_map SafeRegexMatch regex
      or if_set set 12 (ContainsMatch contains) or option_map StringMatch string)

unfoldable pub header_matcher_of : List ℕ → Result RawHeaderMatcher ℕ
header_matcher_of bs = do
  fs ← fields bs
  name ← last_text 1 fs
  one ← header_test fs
  Ok (record { name = name; one = one; invert_match = last_bool 8 fs })
