-- Bytes that are text, and those that aren't.
use Rattle.std.proofs.Common.{◌≡◌, ℕ, Bool, true, false, List, Bor, Option, Some, None, Ok, Err, MatchOption, drop, ap, ◌∙◌, ◌++◌, refl, sym}
use Rattle.std.specs.Str.{IsUtf8, is_utf8}
use Rattle.std.proofs.lemmas.Str.{IsUtf8-from_is_utf8, is_utf8-from_IsUtf8}
use Rattle.std.specs.Str.Pattern.{FindsTextPrefix, StripsPrefix}
use Rattle.xds_name.specs.NameTexts.{after, seen}
use Rattle.xds_name.proofs.TextLemmas.{after_none, after_some}
use Rattle.percent_encoding.specs.Percent.{percent_decode}
use Rattle.std.specs.Option.{ok_or}
use Rattle.session_lines.specs.WordValues.{decoded}
use Rattle.session_lines.specs.declared.cause.Cause.TheVariants as cause

pub is_text : (bytes : List ℕ) → IsUtf8 bytes → true ≡ is_utf8 bytes
is_text bytes h = sym (is_utf8-from_IsUtf8 bytes h)

no_text : (bytes : List ℕ) (b : Bool) → is_utf8 bytes ≡ b → (IsUtf8 bytes → ⊥) → false ≡ is_utf8 bytes
no_text bytes true e h = absurd (h (IsUtf8-from_is_utf8 bytes e))
no_text bytes false e h = sym e

pub isnt_text : (bytes : List ℕ) → (IsUtf8 bytes → ⊥) → false ≡ is_utf8 bytes
isnt_text bytes h = no_text bytes (is_utf8 bytes) refl h

pub stripped : (front text : List ℕ) (r : Option (Bor (List ℕ))) → MatchOption r (FindsTextPrefix front text None) (λ x. StripsPrefix (FindsTextPrefix front) text x.now) → seen r ≡ after front text
stripped front text None h = after_none front text h
stripped front text (Some x) h = after_some front text x.now (h.1.1 ∙ ap (λ k. front ++ drop k text) h.1.0) (h.2 ∙ ap (λ k. drop k text) h.1.0)

pub decoded_is : (value text : List ℕ) → IsUtf8 (percent_decode value) → text ≡ percent_decode value → ok_or (decoded value) cause.Field ≡ Ok text
unfolding decoded
decoded_is value text h e = rw (is_utf8-from_IsUtf8 (percent_decode value) h, e) refl

pub decoded_fails : (value : List ℕ) → (IsUtf8 (percent_decode value) → ⊥) → ok_or (decoded value) cause.Field ≡ Err cause.Field
unfolding decoded
decoded_fails value h = rw (← isnt_text (percent_decode value) h) refl
