-- Parts of texts.
use Rattle.std.proofs.Common.{◌≡◌, ◌≢◌, ℕ, List, ◌++◌, length, take, drop, Bool, true, false, cond, Some, None, refl, sym, ap, ◌∙◌, take-append-drop}
use Rattle.std.proofs.Math.Seq.{take-append_seam}
use Rattle.std.proofs.lemmas.Slice.Eq.{bytes_eq-Decides}
use Rattle.std.specs.Prelude.{bytes_eq}
use Rattle.xds_name.specs.NameTexts.{after}

-- what `strip_prefix` gives, in the word `after`
begins : (t : Bool) (front text : List ℕ) → t ≡ bytes_eq (take (length front) text) front → t ≡ true → text ≡ front ++ drop (length front) text
begins t front text is e =
    sym (take-append-drop (length front) text) ∙ ap (λ xs. xs ++ drop (length front) text) ((bytes_eq-Decides (take (length front) text) front).0 (sym is ∙ e))

none_after : (t : Bool) (front text : List ℕ) → t ≡ bytes_eq (take (length front) text) front → ((rest : List ℕ) → text ≢ front ++ rest)
    → None ≡ cond t (Some (drop (length front) text)) None
none_after true front text is h = absurd (h (drop (length front) text) (begins true front text is refl))
none_after false front text is h = refl

pub after_none : (front text : List ℕ) → ((rest : List ℕ) → text ≢ front ++ rest) → None ≡ after front text
after_none front text h = none_after (bytes_eq (take (length front) text) front) front text refl h

pub after_some : (front text : List ℕ) (x : List ℕ) → text ≡ front ++ drop (length front) text → x ≡ drop (length front) text → Some x ≡ after front text
after_some front text x is e =
    let front_is : take (length front) text ≡ front = ap (take (length front)) is ∙ take-append_seam front (drop (length front) text) in
    rw ((bytes_eq-Decides (take (length front) text) front).1 front_is) (ap Some e)
