-- Header rules, computed by the definitions.
use Rattle.std.specs.Prelude.{◌≡◌, refl, ◌^◌, ℕ, List, [], ◌∷◌, map, Bool, true, false, codes, pos, neg_ℤ}
use Rattle.xc_base.specs.declared.call.Header.{Header}
use Rattle.xc_base.specs.declared.call.Call.{Call}
use Rattle.header_match.specs.declared.rule.HeaderRule.{HeaderRule}
use Rattle.header_match.specs.declared.rule.HeaderTest.{HeaderTest}
use Rattle.header_match.specs.declared.rule.TextTest.{TextTest}
use Rattle.header_match.specs.Headers.{header_met}

abbrev header : List ℕ → List ℕ → Header
header name value = record { name = name; value = value }

-- a call with these headers
abbrev call : List Header → Call
call headers = record { id = record { 0 = 0 }; path = []; headers = headers; word = 0 }

-- a rule on the header `x`
abbrev rule : Bool → HeaderTest → HeaderRule
rule invert test = record { name = codes "x"; test = test; invert = invert }

-- whether a value of the header `x` meets a test
abbrev met : HeaderTest → List ℕ → Bool
met test value = header_met (rule false test) (call (header (codes "x") value ∷ []))

-- whether a call without the header meets a test, inverted or not
abbrev absent_met : Bool → HeaderTest → Bool
absent_met invert test = header_met (rule invert test) (call (header (codes "y") (codes "abc") ∷ []))

exact : map (met (HeaderTest.Exact (codes "abc"))) (codes "abc" ∷ codes "ABC" ∷ codes "abcd" ∷ []) ≡ true ∷ false ∷ false ∷ []
exact = refl

-- the whole value may be the prefix, the suffix or the part
prefix : map (met (HeaderTest.Prefix (codes "ab"))) (codes "abc" ∷ codes "ab" ∷ codes "a" ∷ codes "ABc" ∷ []) ≡ true ∷ true ∷ false ∷ false ∷ []
prefix = refl

suffix : map (met (HeaderTest.Suffix (codes "bc"))) (codes "abc" ∷ codes "bc" ∷ codes "bcd" ∷ []) ≡ true ∷ true ∷ false ∷ []
suffix = refl

part : map (met (HeaderTest.Contains (codes "bc"))) (codes "abcd" ∷ codes "bc" ∷ codes "ab,cd" ∷ []) ≡ true ∷ true ∷ false ∷ []
part = refl

without_case : map (met (HeaderTest.NoCase (TextTest.Contains (codes "BC")))) (codes "abcd" ∷ codes "aBcd" ∷ codes "acbd" ∷ []) ≡ true ∷ true ∷ false ∷ []
without_case = refl

-- the end isn't in a range, a plus sign or other text makes no number, and zeros may stand before one
range : map (met (HeaderTest.Range (pos 10) (pos 20))) (codes "9" ∷ codes "10" ∷ codes "19" ∷ codes "20" ∷ codes "0015" ∷ codes "+15" ∷ codes "15a" ∷ codes "" ∷ [])
    ≡ false ∷ true ∷ true ∷ false ∷ true ∷ false ∷ false ∷ false ∷ []
range = refl

negative : map (met (HeaderTest.Range (neg_ℤ (pos 5)) (pos 0))) (codes "-5" ∷ codes "-6" ∷ codes "-0" ∷ codes "-" ∷ []) ≡ true ∷ false ∷ false ∷ false ∷ []
negative = refl

-- numbers beyond 64 bits are in no range
least : map (met (HeaderTest.Range (neg_ℤ (pos (2 ^ 63))) (pos 0))) (codes "-9223372036854775808" ∷ codes "-9223372036854775809" ∷ []) ≡ true ∷ false ∷ []
least = refl

-- of an absent header only its presence can be met, also where the rule is inverted
absent : map (λ test. absent_met false test) (HeaderTest.Exact (codes "abc") ∷ HeaderTest.Range (pos 10) (pos 20) ∷ HeaderTest.Present false ∷ HeaderTest.Present true ∷ []) ≡ false ∷ false ∷ true ∷ false ∷ []
absent = refl

absent_inverted : map (λ test. absent_met true test) (HeaderTest.Exact (codes "abc") ∷ HeaderTest.Range (pos 10) (pos 20) ∷ HeaderTest.Present false ∷ HeaderTest.Present true ∷ []) ≡ false ∷ false ∷ false ∷ true ∷ []
absent_inverted = refl

inverted : map (λ value. header_met (rule true (HeaderTest.Exact (codes "abc"))) (call (header (codes "x") value ∷ []))) (codes "abc" ∷ codes "abd" ∷ []) ≡ false ∷ true ∷ []
inverted = refl

-- values of one name, without case, are one value with commas, in their order
joined : map (λ text. header_met (rule false (HeaderTest.Exact text)) (call (header (codes "x") (codes "a") ∷ header (codes "y") (codes "c") ∷ header (codes "X") (codes "b") ∷ [])))
    (codes "a,b" ∷ codes "b,a" ∷ codes "a" ∷ []) ≡ true ∷ false ∷ false ∷ []
joined = refl

-- a binary header is absent, and `content-type` is the same for all calls
binary : header_met record { name = codes "X-Bin"; test = HeaderTest.Present false; invert = false } (call (header (codes "x-bin") (codes "a") ∷ [])) ≡ true
binary = refl

content_type : map (λ text. header_met record { name = codes "Content-Type"; test = HeaderTest.Exact text; invert = false } (call (header (codes "content-type") (codes "text") ∷ [])))
    (codes "text" ∷ codes "application/grpc" ∷ []) ≡ false ∷ true ∷ []
content_type = refl
