-- What several writes and reads do together to known bytes.
use Rattle.std.proofs.Common.{◌≡◌, ◌≤◌, ℕ, ◌+◌, List, ◌++◌, length, take, drop, Option, Some, None, refl, sym, ap, ◌∙◌, append_assoc, IfSome, append-nil}
use Rattle.std.proofs.Math.Seq.{take-add}
use Rattle.std.proofs.lemmas.List.{take-append-drop, take_at, take_all}
use Rattle.std.proofs.KnownBytes.{Appends-trans}
use Rattle.std.specs.Io.KnownBytes.{Appends, Consumes, Keeps, IsAtEnd}
use Rattle.xc_base.specs.Outside.{AppendsPrefix}

-- a further write of what comes next
pub appends_more : (a b c : Option (List ℕ)) (text : List ℕ) (at n : ℕ) → Appends a b (take at text) → Appends b c (take n (drop at text)) → Appends a c (take (at + n) text)
appends_more a b c text at n first next = rw take-add (Appends-trans a b c (take at text) (take n (drop at text)) first next)

-- a write that failed leaves what was written
pub prefix_kept : (a b c : Option (List ℕ)) (text : List ℕ) (at : ℕ) → Appends a b (take at text) → Keeps b c → AppendsPrefix a c text
prefix_kept None b c text at first keeps = tt
prefix_kept (Some xs) None c text at first keeps = absurd first
prefix_kept (Some xs) (Some ys) None text at first keeps = absurd keeps
prefix_kept (Some xs) (Some ys) (Some zs) text at first keeps =
    (take at text, drop at text, sym (take-append-drop at text), keeps ∙ first)

-- all that was left was read
pub read_all_left : (a b : Option (List ℕ)) (bytes : List ℕ) (most : ℕ) → Consumes a b bytes → IsAtEnd b → length bytes ≤ most → IfSome a (λ xs. bytes ≡ take most xs)
read_all_left None b bytes most took end le = tt
read_all_left (Some xs) None bytes most took end le = absurd took
read_all_left (Some xs) (Some ys) bytes most took end le =
    let e : xs ≡ bytes = took ∙ (ap (λ (r : List ℕ). bytes ++ r) end ∙ append-nil bytes) in
    rw (e, take_all most bytes le) refl

-- as many as were wanted were read
pub read_prefix : (a b : Option (List ℕ)) (bytes : List ℕ) (most : ℕ) → Consumes a b bytes → length bytes ≡ most → IfSome a (λ xs. bytes ≡ take most xs)
read_prefix None b bytes most took e = tt
read_prefix (Some xs) None bytes most took e = absurd took
read_prefix (Some xs) (Some ys) bytes most took e = rw took (sym (take_at bytes ys most e))

pub prefix_then : (a b : Option (List ℕ)) (x y : List ℕ) → AppendsPrefix a b x → AppendsPrefix a b (x ++ y)
prefix_then None b x y h = tt
prefix_then (Some xs) None x y h = absurd h
prefix_then (Some xs) (Some ys) x y h = (h.0, h.1 ++ y, ap (λ (t : List ℕ). t ++ y) h.2 ∙ append_assoc h.0 h.1 y, h.3)

pub prefix_after : (a b c : Option (List ℕ)) (x y : List ℕ) → Appends a b x → AppendsPrefix b c y → AppendsPrefix a c (x ++ y)
prefix_after None b c x y all h = tt
prefix_after (Some xs) None c x y all h = absurd all
prefix_after (Some xs) (Some ys) None x y all h = absurd h
prefix_after (Some xs) (Some ys) (Some zs) x y all h =
    (x ++ h.0, h.1, ap (λ (t : List ℕ). x ++ t) h.2 ∙ sym (append_assoc x h.0 h.1), h.3 ∙ (ap (λ (t : List ℕ). t ++ h.0) all ∙ append_assoc xs x h.0))

pub prefix_of_all : (a b : Option (List ℕ)) (x y : List ℕ) → Appends a b x → AppendsPrefix a b (x ++ y)
prefix_of_all None b x y all = tt
prefix_of_all (Some xs) None x y all = absurd all
prefix_of_all (Some xs) (Some ys) x y all = (x, y, refl, all)
