-- Header fields are read one after another.
use Rattle.std.proofs.Common.{◌≡◌, ◌≤◌, ◌<◌, ◌+◌, ℕ, Bool, true, false, ltb, List, [], ◌∷◌, ◌++◌, length, Option, Some, None, Ok, Err, refl, sym, ap, ◌∙◌, arith, append_assoc, append-nil, length-append}
use Rattle.std.proofs.lemmas.Bool.Decides.{nat_tests}
use Rattle.xc_base.specs.declared.call.Header.{Header}
use Rattle.std.specs.Option.{ok_or}
use Rattle.session_lines.specs.Works.{FailsLine}
use Rattle.session_lines.specs.declared.cause.Cause.{Cause}
use Rattle.session_lines.specs.declared.cause.Cause.TheVariants as cause
use Rattle.session_lines.specs.declared.cause.LineFault.{LineFault}
use Rattle.session_lines.specs.declared.cause.LineFault.TheVariants as line
use Rattle.session_lines.specs.WordValues.{all_fields, and_fields, field_in, fields_in}

-- fields that were read before others
abbrev pub onto : List Header → Option (List Header) → Option (List Header)
onto found None = None
onto found (Some fields) = Some (found ++ fields)

pub record AreUnderWay (words rest : List (List ℕ)) (found : List Header) : Type 0 where
  pub all : onto found (all_fields rest) ≡ all_fields words
  pub count : length found + length rest ≡ length words
  pub few : length found ≤ 64

onto_none : (o : Option (List Header)) → onto [] o ≡ o
onto_none None = refl
onto_none (Some fields) = refl

pub at_first : (words : List (List ℕ)) → AreUnderWay words words []
at_first words = record { all = onto_none (all_fields words); count = omega arith; few = omega arith }

onto_more : (found : List Header) (field : Header) (o : Option (List Header)) → onto found (and_fields (Some field) o) ≡ onto (found ++ field ∷ []) o
onto_more found field None = refl
onto_more found field (Some fields) = ap Some (simp append_assoc)

-- one more field
pub goes_on : (words after : List (List ℕ)) (word : List ℕ) (field : Header) (found : List Header) → AreUnderWay words (word ∷ after) found → length found < 64
    → field_in word ≡ Some field → AreUnderWay words after (found ++ field ∷ [])
unfolding all_fields
goes_on words after word field found h lt is = record {
  all = sym (onto_more found field (all_fields after)) ∙ (ap (λ o. onto found (and_fields o (all_fields after))) (sym is) ∙ h.all);
  count = let one : length (found ++ field ∷ []) ≡ length found + 1 = length-append found (field ∷ []) in let two = h.count in omega (arith, one, two);
  few = let one : length (found ++ field ∷ []) ≡ length found + 1 = length-append found (field ∷ []) in omega (arith, one, lt);
}

-- a word that is no field
pub refused : (words after : List (List ℕ)) (word : List ℕ) (found : List Header) → AreUnderWay words (word ∷ after) found → field_in word ≡ None → fields_in words ≡ None
unfolding all_fields fields_in
refused words after word found h is = by_count (ltb 64 (length words)) refl
  where
    none : all_fields words ≡ None
    none = sym h.all ∙ ap (λ o. onto found (and_fields o (all_fields after))) is

    by_count : (b : Bool) → ltb 64 (length words) ≡ b → fields_in words ≡ None
    by_count true e = rw e refl
    by_count false e = rw (e, none) refl

pub is_some : (o : Option Header) (field : Header) → ok_or o cause.Field ≡ Ok field → o ≡ Some field
is_some None field h = cc
is_some (Some x) field h = cc

refused_or : (c : Cause) (o : Option Header) (words after : List (List ℕ)) (word : List ℕ) (found : List Header) → AreUnderWay words (word ∷ after) found
    → field_in word ≡ o → ok_or o cause.Field ≡ Err c → ok_or (fields_in words) cause.Field ≡ Err c
refused_or c None words after word found h is e =
    let same : cause.Field ≡ c = cc in
    ap (λ o. ok_or o cause.Field) (refused words after word found h is) ∙ ap Err same
refused_or c (Some x) words after word found h is e = cc

pub fails : (e : LineFault) (words after : List (List ℕ)) (word : List ℕ) (found : List Header) → AreUnderWay words (word ∷ after) found
    → FailsLine e (ok_or (field_in word) cause.Field) → FailsLine e (ok_or (fields_in words) cause.Field)
fails line.Memory words after word found h e = tt
fails (line.Because c) words after word found h e = refused_or c (field_in word) words after word found h refl e

-- the 65th
pub too_many : (words after : List (List ℕ)) (word : List ℕ) (found : List Header) → AreUnderWay words (word ∷ after) found → length found ≡ 64 → fields_in words ≡ None
unfolding fields_in
too_many words after word found h is =
    let more : ltb 64 (length words) ≡ true = let c = h.count in grind (arith, nat_tests) in
    rw more refl

-- no word is left
pub at_end : (words : List (List ℕ)) (found : List Header) → AreUnderWay words [] found → fields_in words ≡ Some found
unfolding all_fields fields_in
at_end words found h =
    let few : ltb 64 (length words) ≡ false = let c = h.count in let d = h.few in grind (arith, nat_tests) in
    rw few (sym h.all ∙ ap Some (append-nil found))
