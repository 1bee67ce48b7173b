-- Which calls meet a header rule (gRFC A28, Envoy's HeaderMatcher and StringMatcher).
use Rattle.std.specs.Prelude.{ℕ, ◌^◌, ◌&&◌, nat_lt, List, [], ◌∷◌, map, filter, length, drop, codes, Bool, true, false, not, if◌then◌else◌, Option, Some, None, is_some, ℤ, pos, neg_ℤ}
use Rattle.std.specs.List.{join_with_byte}
use Rattle.std.specs.Str.{all_ascii_digits}
use Rattle.std.specs.Bool.{beq}
use Rattle.std.specs.Prelude.{int_lt}
use Rattle.std.specs.Str.Parse.{digits_value, starts_with_minus}
use Rattle.xc_base.specs.declared.call.Header.{Header}
use Rattle.xc_base.specs.declared.call.Call.{Call}
use Rattle.header_match.specs.declared.rule.HeaderRule.{HeaderRule}
use Rattle.header_match.specs.declared.rule.HeaderTest.{HeaderTest}
use Rattle.header_match.specs.declared.rule.HeaderTest.TheVariants.{Exact, Range, Present, Prefix, Suffix, Contains, Pattern, NoCase}
use Rattle.header_match.specs.declared.rule.TextTest.{TextTest}
use Rattle.header_match.specs.declared.rule.TextTest.TheVariants.{Exact as ExactText, Prefix as PrefixText, Suffix as SuffixText, Contains as ContainsText}
use Rattle.header_match.specs.Texts.{is_same, begins_with, ends_with, contains}
use Rattle.header_match.specs.Meets.{meets}

-- the values of the headers of a name, in their order; names are compared without ASCII case
abbrev pub values_of : List ℕ → List Header → List (List ℕ)
values_of name headers = map (λ h. h.value) (filter (λ h. is_same true h.name name) headers)

-- several values of one name are one, with a comma between each two
abbrev pub joined : List (List ℕ) → Option (List ℕ)
joined [] = None
joined (v ∷ vs) = Some (join_with_byte 44 (v ∷ vs))

-- the value that a rule of this name sees: none of a binary header, and one content type for all calls
abbrev pub header_value : List ℕ → List Header → Option (List ℕ)
header_value name headers =
    if ends_with true name (codes "-bin") then None
    else if is_same true name (codes "content-type") then Some (codes "application/grpc")
    else joined (values_of name headers)

-- what follows the `-` of a number, where it has one
abbrev pub digits_of : List ℕ → List ℕ
digits_of text = if starts_with_minus text then drop 1 text else text

-- an optional `-`, and decimal digits
abbrev pub is_number : List ℕ → Bool
is_number text = nat_lt 0 (length (digits_of text)) && all_ascii_digits (digits_of text)

-- the number that such a text writes
abbrev pub number_of : List ℕ → ℤ
number_of text =
    if starts_with_minus text then neg_ℤ (pos (digits_value 10 (digits_of text)))
    else pos (digits_value 10 (digits_of text))

-- a signed number of 64 bits
abbrev pub fits_64 : ℤ → Bool
fits_64 z = not (int_lt z (neg_ℤ (pos (2 ^ 63)))) && int_lt z (pos (2 ^ 63))

-- the text writes a signed number of 64 bits that is at least start and below end
abbrev pub is_in_range : ℤ → ℤ → List ℕ → Bool
is_in_range start end text =
    is_number text && fits_64 (number_of text) && not (int_lt (number_of text) start) && int_lt (number_of text) end

-- whether a value meets a test of text without ASCII case
abbrev pub no_case_met : TextTest → List ℕ → Bool
no_case_met (ExactText text) value = is_same true value text
no_case_met (PrefixText text) value = begins_with true value text
no_case_met (SuffixText text) value = ends_with true value text
no_case_met (ContainsText text) value = contains true value text

-- whether a value that is there meets a test
abbrev pub value_met : HeaderTest → List ℕ → Bool
value_met (Exact text) value = is_same false value text
value_met (Range start end) value = is_in_range start end value
value_met (Present there) value = there
value_met (Prefix text) value = begins_with false value text
value_met (Suffix text) value = ends_with false value text
value_met (Contains text) value = contains false value text
value_met (Pattern pattern) value = meets pattern value
value_met (NoCase test) value = no_case_met test value

-- the other way round where it is inverted
abbrev pub turned : Bool → Bool → Bool
turned invert holds = if invert then not holds else holds

-- Whether a header meets a test, inverted or not. An absent header meets no test but that of its presence.
abbrev pub test_met : Bool → HeaderTest → Option (List ℕ) → Bool
test_met invert (Present there) value = turned invert (beq there (is_some value))
test_met invert test None = false
test_met invert test (Some value) = turned invert (value_met test value)

abbrev pub header_met : HeaderRule → Call → Bool
header_met rule call = test_met rule.invert rule.test (header_value rule.name call.headers)
