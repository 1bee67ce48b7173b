-- The checks of a header matcher (gRFC A28, Envoy's HeaderMatcher and StringMatcher). `refuses` tells which texts are
-- refused as patterns.
use Rattle.std.specs.Prelude.{ℕ, List, Bool, true, false, Option, Some, None, Result, Ok, Err}
use Rattle.xc_base.specs.declared.reason.Reason.TheVariants.{NoHeaderMatch}
use Rattle.header_match.specs.declared.rule.HeaderRule.{HeaderRule}
use Rattle.header_match.specs.declared.rule.HeaderTest.{HeaderTest}
use Rattle.header_match.specs.declared.rule.HeaderTest.TheVariants as test
use Rattle.header_match.specs.declared.rule.TextTest.{TextTest}
use Rattle.header_match.specs.declared.rule.TextTest.TheVariants as text
use Rattle.proto_route.specs.declared.header_matcher.RawHeaderMatcher.{RawHeaderMatcher}
use Rattle.proto_route.specs.declared.header_matcher.RawHeaderMatcherOne.{RawHeaderMatcherOne}
use Rattle.proto_route.specs.declared.header_matcher.RawHeaderMatcherOne.TheVariants.{ExactMatch, RangeMatch, PresentMatch, PrefixMatch, SuffixMatch, SafeRegexMatch, ContainsMatch, StringMatch}
use Rattle.proto_route.specs.declared.string_matcher.RawStringMatcherOne.{RawStringMatcherOne}
use Rattle.proto_route.specs.declared.string_matcher.RawStringMatcherOne.TheVariants.{Exact, Prefix, Suffix, SafeRegex, Contains}
use Rattle.check_steps.specs.declared.check_fault.Stop.{Stop}
use Rattle.check_steps.specs.declared.check_fault.Stop.TheVariants.{Because}
use Rattle.check_steps.specs.Asking.{pattern_of}
use Rattle.check_steps.specs.TableSteps.{◌>>=◌}

abbrev pub pattern_test : (List ℕ → Bool) → List ℕ → Result HeaderTest Stop
pattern_test refuses pattern = pattern_of refuses pattern >>= λ built. Ok (test.Pattern built)

-- with or without case
abbrev pub with_case : Bool → TextTest → HeaderTest
with_case true t = test.NoCase t
with_case false (text.Exact t) = test.Exact t
with_case false (text.Prefix t) = test.Prefix t
with_case false (text.Suffix t) = test.Suffix t
with_case false (text.Contains t) = test.Contains t

-- ignore_case doesn't apply to patterns
abbrev pub string_test : (List ℕ → Bool) → Bool → Option RawStringMatcherOne → Result HeaderTest Stop
string_test refuses ignore_case None = Err (Because NoHeaderMatch)
string_test refuses ignore_case (Some (Exact t)) = Ok (with_case ignore_case (text.Exact t))
string_test refuses ignore_case (Some (Prefix t)) = Ok (with_case ignore_case (text.Prefix t))
string_test refuses ignore_case (Some (Suffix t)) = Ok (with_case ignore_case (text.Suffix t))
string_test refuses ignore_case (Some (SafeRegex pattern)) = pattern_test refuses pattern.regex
string_test refuses ignore_case (Some (Contains t)) = Ok (with_case ignore_case (text.Contains t))

abbrev pub header_test : (List ℕ → Bool) → Option RawHeaderMatcherOne → Result HeaderTest Stop
header_test refuses None = Err (Because NoHeaderMatch)
header_test refuses (Some (ExactMatch t)) = Ok (test.Exact t)
header_test refuses (Some (RangeMatch range)) = Ok (test.Range range.start range.end)
header_test refuses (Some (PresentMatch b)) = Ok (test.Present b)
header_test refuses (Some (PrefixMatch t)) = Ok (test.Prefix t)
header_test refuses (Some (SuffixMatch t)) = Ok (test.Suffix t)
header_test refuses (Some (SafeRegexMatch pattern)) = pattern_test refuses pattern.regex
header_test refuses (Some (ContainsMatch t)) = Ok (test.Contains t)
header_test refuses (Some (StringMatch string)) = string_test refuses string.ignore_case string.one

unfoldable pub header_rule : (List ℕ → Bool) → RawHeaderMatcher → Result HeaderRule Stop
header_rule refuses raw = header_test refuses raw.one >>= λ test. Ok record { name = raw.name; test = test; invert = raw.invert_match }
