-- What the bytes of a RegexMatcher and of a StringMatcher say (envoy.type.matcher.v3: regex 2; the test is
-- exact 1, prefix 2, suffix 3, safe_regex 5 or contains 7, and ignore_case 6).
use Rattle.std.specs.Prelude.{ℕ, List, [], ◌∷◌, option_map, Result, Ok}
use Rattle.proto_wire.specs.Oneof.{read_member, if_set, ◌or◌}
use Rattle.proto_wire.specs.Reading.{◌>>=◌}
use Rattle.proto_wire.specs.FieldValues.{last_text, last_bool, occurrences, oneof_of}
use Rattle.proto_wire.specs.Wire.{fields}
use Rattle.proto_wire.specs.declared.field.Member.TheVariants.{Bytes}
use Rattle.proto_route.specs.declared.string_matcher.RawRegexMatcher.{RawRegexMatcher}
use Rattle.proto_route.specs.declared.string_matcher.RawStringMatcher.{RawStringMatcher}
use Rattle.proto_route.specs.declared.string_matcher.RawStringMatcherOne.TheVariants.{Exact, Prefix, Suffix, SafeRegex, Contains}

unfoldable pub regex_matcher_of : List ℕ → Result RawRegexMatcher ℕ
regex_matcher_of bs = do
  fs ← fields bs
  regex ← last_text 2 fs
  Ok (record { regex = regex })

unfoldable pub string_matcher_of : List ℕ → Result RawStringMatcher ℕ
string_matcher_of bs = do
  fs ← fields bs
  tests ← Ok (occurrences (Bytes 1 ∷ Bytes 2 ∷ Bytes 3 ∷ Bytes 5 ∷ Bytes 7 ∷ []) fs)
  set ← Ok (oneof_of (1 ∷ 2 ∷ 3 ∷ 5 ∷ 7 ∷ []) tests)
  exact ← last_text 1 fs
  prefix ← last_text 2 fs
  suffix ← last_text 3 fs
  safe_regex ← read_member regex_matcher_of 5 tests
  contains ← last_text 7 fs
  one ← Ok (if_set set 1 (Exact exact) or if_set set 2 (Prefix prefix) or if_set set 3 (Suffix suffix)
      or option_map SafeRegex safe_regex or if_set set 7 (Contains contains))
  Ok (record { one = one; ignore_case = last_bool 6 fs })
