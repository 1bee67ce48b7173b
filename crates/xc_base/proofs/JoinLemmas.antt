-- Texts that are parts joined by a byte, and tests of all their bytes.
use Rattle.std.proofs.Common.{◌≡◌, ◌<◌, ℕ, List, [], ◌∷◌, length, get_or, Bool, true, false, ◌&&◌, ◌||◌, eqb, refl, sym, ap, ◌∙◌, arith, eqb-true}
use Rattle.std.proofs.lemmas.Bool.Decides.{nat_tests}
use Rattle.std.proofs.lemmas.List.Folds.{list_all-append, list_any-append, list_any_none}
use Rattle.std.proofs.lemmas.List.Splits.{slice_split_none, slice_split_at, join_with_byte-slice_split}
use Rattle.std.proofs.lemmas.List.Sums.{AllPass-from_list_all, list_all-from_AllPass}
use Rattle.std.specs.List.{All, list_all, list_any, slice_split, join_with_byte}
use Rattle.xc_base.specs.Addresses.{IsJoined, parts_at}

pub and_true : (a b : Bool) → (a && b) ≡ true → (a ≡ true) × (b ≡ true)
and_true true b e = (refl, e)
and_true false b e = absurd (cc)

pub true_and : (a b : Bool) → a ≡ true → b ≡ true → (a && b) ≡ true
true_and a b h k = rw (h, k) refl

pub or_true : (a : Bool) → (a || true) ≡ true
or_true true = refl
or_true false = refl

pub or_false : (a b : Bool) → (a || b) ≡ false → (a ≡ false) × (b ≡ false)
or_false true b e = absurd (cc)
or_false false b e = (refl, e)

pub same_bool : (a b : Bool) → (a ≡ true → b ≡ true) → (b ≡ true → a ≡ true) → a ≡ b
same_bool true b h k = sym (h refl)
same_bool false true h k = k refl
same_bool false false h k = refl

pub eqb_refl : (n : ℕ) → eqb n n ≡ true
eqb_refl n = grind (arith, nat_tests)

-- a weaker test passes too
pub list_all_weaken : {X : Type 0} (p q : X → Bool) (xs : List X) → ((x : X) → p x ≡ true → q x ≡ true) → list_all p xs ≡ true → list_all q xs ≡ true
list_all_weaken p q [] h e = refl
list_all_weaken p q (x ∷ xs) h e =
    let both = and_true (p x) (list_all p xs) e in true_and (q x) (list_all q xs) (h x both.0) (list_all_weaken p q xs h both.1)

differs : (q : ℕ → Bool) (b c : ℕ) (t : Bool) → eqb b c ≡ t → q b ≡ true → q c ≡ false → eqb b c ≡ false
differs q b c true e held out = absurd (let same : b ≡ c = eqb-true b c e in let both = ap q same in cc)
differs q b c false e held out = e

pub other_byte : (q : ℕ → Bool) (b c : ℕ) → q b ≡ true → q c ≡ false → eqb b c ≡ false
other_byte q b c held out = differs q b c (eqb b c) refl held out

-- what passes a test that a byte fails lacks the byte
pub lacks_byte : (q : ℕ → Bool) (c : ℕ) (text : List ℕ) → q c ≡ false → list_all q text ≡ true → All (λ b. eqb b c ≡ false) text
lacks_byte q c text out e = λ k d lt. other_byte q (get_or text k d) c (AllPass-from_list_all q text e k d lt) out

pub lacks_any : (q : ℕ → Bool) (c : ℕ) (text : List ℕ) → q c ≡ false → list_all q text ≡ true → list_any (λ b. eqb b c) text ≡ false
lacks_any q c text out e = list_any_none (λ b. eqb b c) text (lacks_byte q c text out e)

-- parts that lack the byte are found again
pub split_joined : (c : ℕ) (q : ℕ → Bool) → q c ≡ false → (parts : List (List ℕ)) → 0 < length parts → list_all (list_all q) parts ≡ true → slice_split (λ b. eqb b c) (join_with_byte c parts) ≡ parts
split_joined c q out [] some e = absurd (omega arith)
split_joined c q out (x ∷ []) some e = slice_split_none (λ b. eqb b c) x (lacks_byte q c x out (and_true (list_all q x) true e).0)
split_joined c q out (x ∷ y ∷ parts) some e =
    let both = and_true (list_all q x) (list_all (list_all q) (y ∷ parts)) e in
    slice_split_at (λ b. eqb b c) x c (join_with_byte c (y ∷ parts)) (lacks_byte q c x out both.0) (eqb_refl c)
    ∙ ap (λ ps. x ∷ ps) (split_joined c q out (y ∷ parts) (omega arith) both.1)

-- a test that each part and the byte pass
pub list_all-join : (c : ℕ) (q : ℕ → Bool) → q c ≡ true → (parts : List (List ℕ)) → list_all (list_all q) parts ≡ true → list_all q (join_with_byte c parts) ≡ true
list_all-join c q held [] e = refl
list_all-join c q held (x ∷ []) e = (and_true (list_all q x) true e).0
list_all-join c q held (x ∷ y ∷ parts) e =
    let both = and_true (list_all q x) (list_all (list_all q) (y ∷ parts)) e in
    list_all-append q x (c ∷ join_with_byte c (y ∷ parts))
    ∙ true_and (list_all q x) (q c && list_all q (join_with_byte c (y ∷ parts))) both.0 (true_and (q c) _ held (list_all-join c q held (y ∷ parts) both.1))

-- two parts or more have the byte between them
pub list_any-join : (c : ℕ) (parts : List (List ℕ)) → 1 < length parts → list_any (λ b. eqb b c) (join_with_byte c parts) ≡ true
list_any-join c [] more = absurd (omega arith)
list_any-join c (x ∷ []) more = absurd (omega arith)
list_any-join c (x ∷ y ∷ parts) more =
    list_any-append (λ b. eqb b c) x (c ∷ join_with_byte c (y ∷ parts)) ∙ rw (eqb_refl c) (or_true (list_any (λ b. eqb b c) x))

-- the parts that a text has pass the test
pub IsJoined-parts_at : (c : ℕ) (test : List ℕ → Bool) (n : ℕ) (text : List ℕ) → length (parts_at c text) ≡ n → list_all test (parts_at c text) ≡ true → IsJoined c test n text
IsJoined-parts_at c test n text count passes = record {
  parts = parts_at c text;
  count = count;
  passes = AllPass-from_list_all test (parts_at c text) passes;
  spelled = sym (join_with_byte-slice_split c text);
}

module _ (c : ℕ) (test : List ℕ → Bool) (q : ℕ → Bool) (each : (part : List ℕ) → test part ≡ true → list_all q part ≡ true) (n : ℕ) (text : List ℕ) (j : IsJoined c test n text) where
  passing : list_all test j.parts ≡ true
  passing = list_all-from_AllPass test j.parts j.passes

  clean : list_all (list_all q) j.parts ≡ true
  clean = list_all_weaken test (list_all q) j.parts each passing

  -- the parts of a text that is joined of some
  pub parts_at-joined : q c ≡ false → 0 < n → parts_at c text ≡ j.parts
  parts_at-joined out some = ap (parts_at c) j.spelled ∙ split_joined c q out j.parts (let count = j.count in omega arith) clean

  -- a test of all bytes of such a text
  pub list_all-joined : q c ≡ true → list_all q text ≡ true
  list_all-joined held = ap (list_all q) j.spelled ∙ list_all-join c q held j.parts clean
