-- What of a payload's fields tells whether it can be read.
use Rattle.std.proofs.Common.{◌≡◌, ◌≤◌, ◌<◌, ◌+◌, ℕ, zero, suc, drop, List, [], ◌∷◌, length, get_or, Bool, true, false, cond, Option, Some, None, Result, Ok, Err, refl, sym, ap, ◌∙◌, subst, arith}
use Rattle.std.specs.Prelude.{◌&&◌, is_ok, is_some, unwrap_or}
use Rattle.std.specs.List.{cons_option, last_or, list_all}
use Rattle.std.specs.Result.{result_ok}
use Rattle.proto_wire.specs.Reading.{◌>>=◌, gathered, optional}
use Rattle.proto_wire.specs.FieldValues.{as_text, bytes_at, delimited_len, is_text, last_bytes, last_text, payload_len, read_repeated, text_at, texts}
use Rattle.proto_wire.specs.View.{view, views}
use Rattle.proto_wire.specs.Wire.{WireField, fields}
use Rattle.proto_wire.specs.declared.field.Field.{Field}
use Rattle.proto_wire.proofs.LenLemmas.{bytes_at-within, delimited_len-cons}
use Rattle.proto_wire.proofs.Lists.{map_drop_more}
use Rattle.std.proofs.lemmas.List.{drop_all}
use Rattle.proto_discovery.specs.Any.{any_of}
use Rattle.proto_discovery.specs.Response.{response_of}
use Rattle.proto_discovery.specs.declared.any.AnyValue.{AnyValue}
use Rattle.proto_discovery.specs.declared.response.Response.{Response}
use Rattle.session_plan.specs.ReadablePayloads.{are_resources, are_response_fields, are_texts, is_any, is_resource, is_response, is_text_in}

-- ---- steps

both_ok : {A : Type 0} (r : Result (Option A) ℕ) (rs : Result (List A) ℕ) → is_ok (r >>= λ y. rs >>= λ ys. Ok (cons_option y ys)) ≡ (is_ok r && is_ok rs)
both_ok (Ok y) (Ok ys) = refl
both_ok (Ok y) (Err at) = refl
both_ok (Err at) rs = refl

then_ok : {A B : Type 0} (r : Result A ℕ) (f : A → B) → is_ok r ≡ is_ok (r >>= λ x. Ok (f x))
then_ok (Ok x) f = refl
then_ok (Err at) f = refl

-- ---- texts

abbrev text_by : Bool → ℕ → List ℕ → Result (Option (List ℕ)) ℕ
text_by t at bytes = cond t (Ok (Some bytes)) (Err at)

as_ok : (t : Bool) (at : ℕ) (bytes : List ℕ) → t ≡ is_ok (text_by t at bytes)
as_ok true at bytes = refl
as_ok false at bytes = refl

pub text_there : (number : ℕ) (f : WireField) (bytes : List ℕ) → Some bytes ≡ bytes_at number f → is_text bytes ≡ is_text_in number f
text_there number f bytes is = subst (λ (o : Option (List ℕ)). is_text bytes ≡ is_ok (as_text f.at o)) is (as_ok (is_text bytes) f.at bytes)

pub text_absent : (number : ℕ) (f : WireField) → None ≡ bytes_at number f → true ≡ is_text_in number f
text_absent number f is = subst (λ (o : Option (List ℕ)). true ≡ is_ok (as_text f.at o)) is refl

no_texts : (number : ℕ) → is_ok (texts number []) ≡ true
unfolding texts gathered
no_texts number = refl

texts_more : (number : ℕ) (f : WireField) (fs : List WireField) → is_ok (texts number (f ∷ fs)) ≡ (is_text_in number f && is_ok (texts number fs))
unfolding texts gathered
texts_more number f fs = both_ok (text_at number f) (texts number fs)

each_text : (number : ℕ) (fs : List Field) → list_all (λ f. is_text_in number (view f)) fs ≡ is_ok (texts number (views fs))
each_text number [] = sym (no_texts number)
each_text number (f ∷ fs) = ap (λ (b : Bool). is_text_in number (view f) && b) (each_text number fs) ∙ sym (texts_more number (view f) (views fs))

last_text_ok : (number : ℕ) (fs : List WireField) → is_ok (last_text number fs) ≡ is_ok (texts number fs)
unfolding last_text
last_text_ok number fs = sym (then_ok (texts number fs) (λ ts. unwrap_or (last_or None ts) []))

pub texts_are : (number : ℕ) (fs : List Field) → list_all (λ f. is_text_in number (view f)) fs ≡ are_texts number (views fs)
texts_are number fs = each_text number fs ∙ sym (last_text_ok number (views fs))

-- ---- an Any

abbrev any_with : List ℕ → List ℕ → AnyValue
any_with value type_url = record { type_url = type_url; value = value }

pub any_is : (bytes : List ℕ) (fs : List WireField) → fields bytes ≡ Ok fs → are_texts 1 fs ≡ is_any bytes
unfolding any_of
any_is bytes fs is = rw is (then_ok (last_text 1 fs) (any_with (last_bytes 2 fs)))

pub no_any : (bytes : List ℕ) (at : ℕ) → fields bytes ≡ Err at → false ≡ is_any bytes
unfolding any_of
no_any bytes at is = rw is refl

-- ---- resources

pub resource_there : (f : WireField) (bytes : List ℕ) → Some bytes ≡ bytes_at 2 f → is_any bytes ≡ is_resource f
unfolding optional
resource_there f bytes is = subst (λ (o : Option (List ℕ)). is_any bytes ≡ is_ok (optional any_of o)) is (then_ok (any_of bytes) (λ (x : AnyValue). Some x))

pub resource_absent : (f : WireField) → None ≡ bytes_at 2 f → true ≡ is_resource f
unfolding optional
resource_absent f is = subst (λ (o : Option (List ℕ)). true ≡ is_ok (optional any_of o)) is refl

pub no_resources : are_resources [] ≡ true
unfolding read_repeated gathered
no_resources = refl

pub resources_more : (f : WireField) (fs : List WireField) → are_resources (f ∷ fs) ≡ (is_resource f && are_resources fs)
unfolding read_repeated gathered
resources_more f fs = both_ok (optional any_of (bytes_at 2 f)) (read_repeated any_of 2 fs)

-- field by field: whether all resources can be read that come before a field, and those from it on
pub resources_step : (fs : List Field) (i : ℕ) (d : Field) (all now : Bool) → i < length fs → now ≡ (all && is_resource (view (get_or fs i d)))
    → (now && are_resources (views (drop (i + 1) fs))) ≡ (all && are_resources (views (drop i fs)))
resources_step fs i d all now lt is =
    ap (λ (b : Bool). b && are_resources (views (drop (i + 1) fs))) is
    ∙ (both_more all (is_resource (view (get_or fs i d))) (are_resources (views (drop (i + 1) fs)))
    ∙ ap (λ (b : Bool). all && b) (sym (ap are_resources (map_drop_more view fs i d lt) ∙ resources_more (view (get_or fs i d)) (views (drop (i + 1) fs)))))
  where
    both_more : (a b c : Bool) → ((a && b) && c) ≡ (a && (b && c))
    both_more true b c = refl
    both_more false b c = refl

pub resources_end : (fs : List Field) (i : ℕ) (all : Bool) → length fs ≤ i → (all && are_resources (views (drop i fs))) ≡ are_resources (views fs) → all ≡ are_resources (views fs)
resources_end fs i all le is = sym (ap (λ (b : Bool). all && b) (ap (λ (gs : List Field). are_resources (views gs)) (drop_all i fs le) ∙ no_resources) ∙ both_true all) ∙ is
  where
    both_true : (a : Bool) → (a && true) ≡ a
    both_true true = refl
    both_true false = refl

-- what a field holds is no longer than what all of them hold
field-within : (fs : List Field) (i : ℕ) (d : Field) → i < length fs → payload_len (view (get_or fs i d)).payload ≤ delimited_len (views fs)
field-within [] i d lt = absurd (omega arith)
field-within (f ∷ fs) zero d lt = rw (delimited_len-cons (view f) (views fs)) (omega arith)
field-within (f ∷ fs) (suc i) d lt = let h = field-within fs i d (omega arith) in rw (delimited_len-cons (view f) (views fs)) (omega arith)

pub field_fits : (fs : List Field) (i : ℕ) (d : Field) (most : ℕ) → i < length fs → delimited_len (views fs) < most → payload_len (view (get_or fs i d)).payload < most
field_fits fs i d most lt less = let h = field-within fs i d lt in omega (arith, h, less)

pub resource_fits : (f : WireField) (bytes : List ℕ) (most : ℕ) → Some bytes ≡ bytes_at 2 f → payload_len f.payload < most → length bytes < most
resource_fits f bytes most is less = let h = bytes_at-within 2 f bytes (sym is) in omega (arith, h, less)

-- ---- a response

abbrev response_with : List ℕ → List AnyValue → List ℕ → List ℕ → Response
response_with version resources type_url nonce = record { version = version; nonce = nonce; type_url = type_url; resources = resources }

all_ok : (version type_url nonce : Result (List ℕ) ℕ) (resources : Result (List AnyValue) ℕ) → (is_ok version && is_ok type_url && is_ok nonce && is_ok resources)
    ≡ is_some (result_ok (version >>= λ v. resources >>= λ r. type_url >>= λ t. nonce >>= λ n. Ok (response_with v r t n)))
all_ok (Err at) t n r = refl
all_ok (Ok v) (Ok t) (Ok n) (Ok r) = refl
all_ok (Ok v) (Ok t) (Ok n) (Err at) = refl
all_ok (Ok v) (Ok t) (Err at) (Ok r) = refl
all_ok (Ok v) (Ok t) (Err at) (Err other) = refl
all_ok (Ok v) (Err at) n (Ok r) = refl
all_ok (Ok v) (Err at) n (Err other) = refl

pub response_is : (bytes : List ℕ) (fs : List WireField) → fields bytes ≡ Ok fs → are_response_fields fs ≡ is_response bytes
unfolding response_of
response_is bytes fs is = rw is (all_ok (last_text 1 fs) (last_text 4 fs) (last_text 5 fs) (read_repeated any_of 2 fs))

pub no_response : (bytes : List ℕ) (at : ℕ) → fields bytes ≡ Err at → false ≡ is_response bytes
unfolding response_of
no_response bytes at is = rw is refl
