-- Patterns are read line by line.
use Rattle.std.proofs.Common.{◌≡◌, ℕ, Bool, true, false, List, [], ◌∷◌, ◌++◌, Option, Some, None, refl, sym, ap, ◌∙◌, append_assoc, append-nil}
use Rattle.std.specs.Str.{IsUtf8, is_utf8}
use Rattle.std.proofs.lemmas.Str.{IsUtf8-from_is_utf8, is_utf8-from_IsUtf8}
use Rattle.percent_encoding.specs.Percent.{percent_decode}
use Rattle.session_lines.specs.Lines.{lines_of}
use Rattle.session_lines.specs.WordValues.{decoded}
use Rattle.xds_name.specs.NameTexts.{after}
use Rattle.listed_patterns.specs.ListedPatterns.{and_listed, listed_first, listed_from, listed_in, pattern_front}

-- ---- one text

pub decoded_is : (spelled text : List ℕ) → IsUtf8 (percent_decode spelled) → text ≡ percent_decode spelled → Some text ≡ decoded spelled
unfolding decoded
decoded_is spelled text h e = rw (is_utf8-from_IsUtf8 (percent_decode spelled) h, e) refl

no_text : (b : Bool) (spelled : List ℕ) → is_utf8 (percent_decode spelled) ≡ b → (IsUtf8 (percent_decode spelled) → ⊥) → None ≡ decoded spelled
unfolding decoded
no_text true spelled is h = absurd (h (IsUtf8-from_is_utf8 (percent_decode spelled) is))
no_text false spelled is h = rw is refl

pub decoded_fails : (spelled : List ℕ) → (IsUtf8 (percent_decode spelled) → ⊥) → None ≡ decoded spelled
decoded_fails spelled h = no_text (is_utf8 (percent_decode spelled)) spelled refl h

-- ---- line by line

-- texts that were read before others
abbrev pub onto : List (List ℕ) → Option (List (List ℕ)) → Option (List (List ℕ))
onto found None = None
onto found (Some texts) = Some (found ++ texts)

-- what is listed in all, where these are found and those bytes are left
abbrev pub IsUnderWay : List ℕ → List ℕ → List (List ℕ) → Type 0
IsUnderWay bytes rest found = onto found (listed_from (lines_of rest)) ≡ listed_in bytes

onto_none : (o : Option (List (List ℕ))) → onto [] o ≡ o
onto_none None = refl
onto_none (Some texts) = refl

pub at_first : (bytes : List ℕ) → IsUnderWay bytes bytes []
unfolding listed_in
at_first bytes = onto_none (listed_from (lines_of bytes))

onto_more : (found : List (List ℕ)) (text : List ℕ) (o : Option (List (List ℕ))) → onto found (and_listed (Some text) o) ≡ onto (found ++ text ∷ []) o
onto_more found text None = refl
onto_more found text (Some texts) = ap Some (sym (append_assoc found (text ∷ []) texts))

-- what is left is a line and bytes behind it
by_line : (bytes rest line behind : List ℕ) (found : List (List ℕ)) (o : Option (List ℕ)) → IsUnderWay bytes rest found → lines_of rest ≡ line ∷ lines_of behind
    → after pattern_front line ≡ o → onto found (listed_first o (listed_from (lines_of behind))) ≡ listed_in bytes
by_line bytes rest line behind found o h cut is =
    ap (λ x. onto found (listed_first x (listed_from (lines_of behind)))) (sym is) ∙ (ap (λ lines. onto found (listed_from lines)) (sym cut) ∙ h)

pub goes_on : (bytes rest line behind spelled text : List ℕ) (found : List (List ℕ)) → IsUnderWay bytes rest found → lines_of rest ≡ line ∷ lines_of behind
    → after pattern_front line ≡ Some spelled → decoded spelled ≡ Some text → IsUnderWay bytes behind (found ++ text ∷ [])
goes_on bytes rest line behind spelled text found h cut is reads =
    sym (onto_more found text (listed_from (lines_of behind)))
    ∙ (ap (λ x. onto found (and_listed x (listed_from (lines_of behind)))) (sym reads) ∙ by_line bytes rest line behind found (Some spelled) h cut is)

-- a line that spells no text, one of another form, and no line
pub fails : (bytes rest line behind spelled : List ℕ) (found : List (List ℕ)) → IsUnderWay bytes rest found → lines_of rest ≡ line ∷ lines_of behind
    → after pattern_front line ≡ Some spelled → decoded spelled ≡ None → None ≡ listed_in bytes
fails bytes rest line behind spelled found h cut is reads =
    ap (λ x. onto found (and_listed x (listed_from (lines_of behind)))) (sym reads) ∙ by_line bytes rest line behind found (Some spelled) h cut is

pub ends : (bytes rest line behind : List ℕ) (found : List (List ℕ)) → IsUnderWay bytes rest found → lines_of rest ≡ line ∷ lines_of behind
    → after pattern_front line ≡ None → Some found ≡ listed_in bytes
ends bytes rest line behind found h cut is = ap Some (sym (append-nil found)) ∙ by_line bytes rest line behind found None h cut is

pub all_read : (bytes rest : List ℕ) (found : List (List ℕ)) → IsUnderWay bytes rest found → rest ≡ [] → Some found ≡ listed_in bytes
unfolding lines_of
all_read bytes rest found h is =
    ap Some (sym (append-nil found)) ∙ (ap (λ x. onto found (listed_from (lines_of x))) (sym is) ∙ h)
