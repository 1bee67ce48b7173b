-- The values of the headers of one name.
use Rattle.std.proofs.Common.{◌≡◌, ℕ, ◌+◌, List, [], ◌∷◌, ◌++◌, drop, get_or, map, filter, Bool, true, false, cond, Option, Some, None, refl, sym, ap, subst, ◌∙◌, append-nil}
use Rattle.std.specs.List.{join_with_byte, flat_map}
use Rattle.std.specs.Prelude.{position, codes, Result, IfOk}
use Rattle.xc_base.specs.declared.call.Header.{Header}
use Rattle.header_match.specs.Texts.{is_same, ends_with}
use Rattle.header_match.specs.Headers.{values_of, header_value, test_met}
use Rattle.header_match.specs.declared.rule.HeaderTest.{HeaderTest}
use Rattle.header_match.proofs.Filters.{filter_none, filter_first}

-- what a header adds to a value of a name that stands before it
abbrev pub next_value : List ℕ → Header → List ℕ
next_value name header = cond (is_same true header.name name) (44 ∷ header.value) []

joined_values : (first : List ℕ) (vs : List (List ℕ)) → first ++ flat_map (λ v. 44 ∷ v) vs ≡ join_with_byte 44 (first ∷ vs)
joined_values first [] = append-nil first
joined_values first (v ∷ vs) = ap (λ (t : List ℕ). first ++ (44 ∷ t)) (joined_values v vs)

next_by : (b : Bool) (h : Header) (t : List ℕ) (kept : List Header) → t ≡ flat_map (λ v. 44 ∷ v) (map (λ h. h.value) kept) → cond b (44 ∷ h.value) [] ++ t ≡ flat_map (λ v. 44 ∷ v) (map (λ h. h.value) (cond b (h ∷ kept) kept))
next_by true h t kept e = ap (λ (s : List ℕ). 44 ∷ (h.value ++ s)) e
next_by false h t kept e = e

next_values : (name : List ℕ) (hs : List Header) → flat_map (next_value name) hs ≡ flat_map (λ v. 44 ∷ v) (values_of name hs)
next_values name [] = refl
next_values name (h ∷ hs) = next_by (is_same true h.name name) h (flat_map (next_value name) hs) (filter (λ h. is_same true h.name name) hs) (next_values name hs)

-- what all headers add to a first value are the other values of the name
pub joined_is : (first name : List ℕ) (hs : List Header) → first ++ flat_map (next_value name) hs ≡ join_with_byte 44 (first ∷ values_of name hs)
joined_is first name hs = ap (λ (t : List ℕ). first ++ t) (next_values name hs) ∙ joined_values first (values_of name hs)

abbrev pub has_name : List ℕ → Header → Bool
has_name name h = is_same true h.name name

-- what a rule sees: a fixed value, none, one, or several that are joined
pub fixed_value : (name : List ℕ) (hs : List Header) → false ≡ ends_with true name (codes "-bin") → true ≡ is_same true name (codes "content-type") → Some (codes "application/grpc") ≡ header_value name hs
fixed_value name hs binary fixed = rw (← binary, ← fixed) refl

pub no_value : (name : List ℕ) (hs : List Header) → false ≡ ends_with true name (codes "-bin") → false ≡ is_same true name (codes "content-type") → None ≡ position (has_name name) hs → None ≡ header_value name hs
no_value name hs binary fixed none = rw (← binary, ← fixed, filter_none (has_name name) hs (sym none)) refl

pub one_value : (name value : List ℕ) (hs rest : List Header) (i : ℕ) (h : Header) → false ≡ ends_with true name (codes "-bin") → false ≡ is_same true name (codes "content-type")
    → Some i ≡ position (has_name name) hs → rest ≡ drop (i + 1) hs → None ≡ position (has_name name) rest → value ≡ (get_or hs i h).value → Some value ≡ header_value name hs
one_value name value hs rest i h binary fixed first after none is =
    rw (← binary, ← fixed, filter_first (has_name name) hs i h (sym first), ← after, filter_none (has_name name) rest (sym none)) (ap Some is)

pub many_values : (name value text : List ℕ) (hs rest : List Header) (i : ℕ) (h : Header) → false ≡ ends_with true name (codes "-bin") → false ≡ is_same true name (codes "content-type")
    → Some i ≡ position (has_name name) hs → rest ≡ drop (i + 1) hs → value ≡ (get_or hs i h).value → text ≡ join_with_byte 44 (value ∷ values_of name rest) → Some text ≡ header_value name hs
many_values name value text hs rest i h binary fixed first after is joins =
    rw (← binary, ← fixed, filter_first (has_name name) hs i h (sym first), ← after) (ap Some (joins ∙ ap (λ (v : List ℕ). join_with_byte 44 (v ∷ values_of name rest)) is))

-- a test of a value that is the header's is the rule
pub rule_met : {E : Type 0} (r : Result Bool E) (invert : Bool) (test : HeaderTest) (own name : List ℕ) (those hs : List Header) (v : Option (List ℕ)) → own ≡ name → those ≡ hs → v ≡ header_value own those
    → IfOk r (λ met. met ≡ test_met invert test v) → IfOk r (λ met. met ≡ test_met invert test (header_value name hs))
rule_met r invert test own name those hs v is same seen h =
    subst (λ o. IfOk r (λ met. met ≡ test_met invert test o)) (seen ∙ (ap (λ (n : List ℕ). header_value n those) is ∙ ap (λ (l : List Header). header_value name l) same)) h
