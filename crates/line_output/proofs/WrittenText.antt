-- What several writes do together to known bytes, where one of them fails.
use Rattle.std.proofs.Common.{◌≡◌, ℕ, List, ◌++◌, take, drop, Option, sym, ap, ◌∙◌, append_assoc, Result, Ok, Err, OnErr}
use Rattle.std.proofs.lemmas.List.{take-append-drop}
use Rattle.std.specs.Io.KnownBytes.{Appends}
use Rattle.xc_base.specs.Outside.{AppendsPrefix}
use Rattle.xc_base.proofs.StreamLemmas.{prefix_of_all, prefix_after, prefix_then}

-- what was written, then a prefix of the next piece, of a text that has more behind
pub prefix_of_next : (a b c : Option (List ℕ)) (before piece after text : List ℕ) → text ≡ (before ++ piece) ++ after → Appends a b before → AppendsPrefix b c piece → AppendsPrefix a c text
prefix_of_next a b c before piece after text is all prefix =
    rw is (prefix_then a c (before ++ piece) after (prefix_after a b c before piece all prefix))

-- what was written is a prefix of a text that has more behind
pub prefix_so_far : (a b : Option (List ℕ)) (before after text : List ℕ) → text ≡ before ++ after → Appends a b before → AppendsPrefix a b text
prefix_so_far a b before after text is all = rw is (prefix_of_all a b before after all)

pub on_err_of : {T E P : Type 0} (r : Result T E) → P → OnErr r P
on_err_of (Ok x) p = tt
on_err_of (Err e) p = p

-- a text is what stands before a place, so many bytes from there, and the others
pub cut_twice : (text : List ℕ) (at n : ℕ) → text ≡ (take at text ++ take n (drop at text)) ++ drop n (drop at text)
cut_twice text at n =
    sym (take-append-drop at text)
    ∙ (ap (λ (t : List ℕ). take at text ++ t) (sym (take-append-drop n (drop at text)))
    ∙ sym (append_assoc (take at text) (take n (drop at text)) (drop n (drop at text))))
