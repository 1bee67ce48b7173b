-- That canonical names stay.
use Rattle.std.proofs.Common.{◌≡◌, ◌<◌, ◌+◌, ℕ, List, [], ◌∷◌, ◌++◌, length, take, drop, Bool, true, false, not, ◌&&◌, ◌||◌, cond, eqb, ltb, Option, Some, None, refl, sym, ap, ◌∙◌, arith}
use Rattle.std.proofs.lemmas.Bool.Decides.{nat_tests}
use Rattle.std.proofs.lemmas.List.Elements.{All-cons, All-tail}
use Rattle.std.proofs.lemmas.List.Sorted.{length_permutation, list_any-IsPermutation, IsPermutation-refl, All-permutation}
use Rattle.std.proofs.lemmas.List.Splits.{slice_split_none, slice_split_at, join_with_byte-slice_split, length-slice_split}
use Rattle.std.specs.Char.{is_digit}
use Rattle.std.specs.List.{list_any, onto_first, join_with_byte, position_or_len}
use Rattle.std.specs.Prelude.{codes, is_some, option_map, option_and_then, unwrap_or, All}
use Rattle.xc_base.specs.declared.names.Kind.{Kind}
use Rattle.xds_bootstrap.specs.declared.bootstrap.AuthorityEntry.{AuthorityEntry}
use Rattle.xds_name.proofs.CutLemmas.{cuts_as, cut_joined, lacks_first, after_is}
use Rattle.xds_name.proofs.OrderLemmas.{in_order_same, in_order_ascends, in_order_only}
use Rattle.xds_name.specs.Names.{head_of, parts_of, canonical_of, with_sorted, begins_with_digits, has_bad_escape, parts_from, home_of, is_xdstp}
use Rattle.xds_name.specs.Parameters.{in_order}
use Rattle.xds_name.specs.NameTexts.{after, cut_at, lacks, parts_at}

-- ---- parts and the text that they make

-- no part has the byte
abbrev AreClean : ℕ → List (List ℕ) → Type 0
AreClean byte [] = Unit {0}
AreClean byte (p ∷ ps) = (lacks byte p ≡ true) × AreClean byte ps

clean_first : (byte x : ℕ) (ps : List (List ℕ)) → eqb x byte ≡ false → AreClean byte ps → AreClean byte (onto_first x ps)
clean_first byte x [] other h = (rw other refl, tt)
clean_first byte x (p ∷ ps) other h = (rw other h.0, h.1)

clean_at : (t : Bool) (byte x : ℕ) (ps : List (List ℕ)) → eqb x byte ≡ t → AreClean byte ps → AreClean byte (cond t ([] ∷ ps) (onto_first x ps))
clean_at true byte x ps is h = (refl, h)
clean_at false byte x ps is h = clean_first byte x ps is h

parts_clean : (byte : ℕ) (text : List ℕ) → AreClean byte (parts_at byte text)
parts_clean byte [] = (refl, tt)
parts_clean byte (x ∷ xs) = clean_at (eqb x byte) byte x (parts_at byte xs) refl (parts_clean byte xs)

clean_all : (byte : ℕ) (ps : List (List ℕ)) → AreClean byte ps → All (λ p. lacks byte p ≡ true) ps
clean_all byte [] h = λ k d lt. absurd (omega arith)
clean_all byte (p ∷ ps) h = All-cons (λ q. lacks byte q ≡ true) p ps h.0 (clean_all byte ps h.1)

all_clean : (byte : ℕ) (ps : List (List ℕ)) → All (λ p. lacks byte p ≡ true) ps → AreClean byte ps
all_clean byte [] h = tt
all_clean byte (p ∷ ps) h = (h 0 p (omega arith), all_clean byte ps (All-tail (λ q. lacks byte q ≡ true) p ps h))

each_other : (byte : ℕ) (p : List ℕ) → lacks byte p ≡ true → All (λ b. eqb b byte ≡ false) p
each_other byte [] h = λ k d lt. absurd (omega arith)
each_other byte (b ∷ bs) h =
    let first = lacks_first (eqb b byte) byte b bs refl h in All-cons (λ c. eqb c byte ≡ false) b bs first.0 (each_other byte bs first.1)

same_byte : (n : ℕ) → eqb n n ≡ true
same_byte n = grind (arith, nat_tests)

-- parts that lack the byte are found again
split_joined : (byte : ℕ) (ps : List (List ℕ)) → 0 < length ps → AreClean byte ps → parts_at byte (join_with_byte byte ps) ≡ ps
split_joined byte [] some h = absurd (omega arith)
split_joined byte (p ∷ []) some h = slice_split_none (λ b. eqb b byte) p (each_other byte p h.0)
split_joined byte (p ∷ q ∷ ps) some h =
    slice_split_at (λ b. eqb b byte) p byte (join_with_byte byte (q ∷ ps)) (each_other byte p h.0) (same_byte byte)
    ∙ ap (λ rest. p ∷ rest) (split_joined byte (q ∷ ps) (omega arith) h.1)

some_parts : (byte : ℕ) (text : List ℕ) → 0 < length (parts_at byte text)
some_parts byte text = let count = length-slice_split (λ b. eqb b byte) text in omega arith

-- parameters in order stay so
ordered_clean : (text : List ℕ) → AreClean 38 (in_order (parts_at 38 text))
ordered_clean text =
    all_clean 38 (in_order (parts_at 38 text)) (All-permutation (λ p. lacks 38 p ≡ true) (parts_at 38 text) (in_order (parts_at 38 text)) (in_order_same (parts_at 38 text)) (clean_all 38 (parts_at 38 text) (parts_clean 38 text)))

ordered_some : (text : List ℕ) → 0 < length (in_order (parts_at 38 text))
ordered_some text =
    let count = length_permutation (parts_at 38 text) (in_order (parts_at 38 text)) (in_order_same (parts_at 38 text)) in
    let some = some_parts 38 text in
    omega arith

order_stays : (ps : List (List ℕ)) → in_order (in_order ps) ≡ in_order ps
order_stays ps = sym (in_order_only (in_order ps) (in_order ps) (IsPermutation-refl (in_order ps)) (in_order_ascends ps))

abbrev sorted_text : List ℕ → List ℕ
sorted_text parameters = join_with_byte 38 (in_order (parts_at 38 parameters))

sorted_stays : (parameters : List ℕ) → sorted_text (sorted_text parameters) ≡ sorted_text parameters
sorted_stays parameters =
    ap (λ ps. join_with_byte 38 (in_order ps)) (split_joined 38 (in_order (parts_at 38 parameters)) (ordered_some parameters) (ordered_clean parameters))
    ∙ ap (join_with_byte 38) (order_stays (parts_at 38 parameters))

-- ---- the head stays

before_at : (t : Bool) (text head rest : List ℕ) (n : ℕ) → t ≡ ltb n (length text) → option_map {T = ℕ} {U = List ℕ × List ℕ} (λ i. (take i text, drop (i + 1) text)) (cond t (Some n) None) ≡ Some (head, rest)
    → take n text ≡ head
before_at true text head rest n is e = ap (λ o. (unwrap_or {T = List ℕ × List ℕ} o (head, rest)).0) e
before_at false text head rest n is e = absurd (let none = ap is_some e in cc)

-- what stands before the parameters
head_cut : (text head rest : List ℕ) → cut_at 63 text ≡ Some (head, rest) → head_of text ≡ head
head_cut text head rest e = before_at (ltb (position_or_len (λ b. eqb b 63) text) (length text)) text head rest (position_or_len (λ b. eqb b 63) text) refl e

parts_alike : (text other : List ℕ) → head_of text ≡ head_of other → parts_of text ≡ parts_of other
unfolding parts_of
parts_alike text other e = ap (λ h. option_and_then parts_from (after (codes "xdstp://") h)) e

-- the canonical text of a name with parameters
abbrev made : List ℕ × List ℕ → List ℕ
made p = p.0 ++ 63 ∷ sorted_text p.1

made_cut : (p : List ℕ × List ℕ) → lacks 63 p.0 ≡ true → cut_at 63 (made p) ≡ Some (p.0, sorted_text p.1)
made_cut p clean = cut_joined 63 p.0 (sorted_text p.1) clean

made_parts : (text : List ℕ) (p : List ℕ × List ℕ) → cut_at 63 text ≡ Some p → parts_of (made p) ≡ parts_of text
made_parts text p is =
    parts_alike (made p) text (head_cut (made p) p.0 (sorted_text p.1) (made_cut p (cuts_as 63 text (Some p) is).1) ∙ sym (head_cut text p.0 p.1 is))

made_stays : (text : List ℕ) (p : List ℕ × List ℕ) → is_some (parts_of text) ≡ true → cut_at 63 text ≡ Some p → canonical_of (made p) ≡ made p
unfolding canonical_of
made_stays text p has is =
    rw (made_parts text p is, has, made_cut p (cuts_as 63 text (Some p) is).1) (ap (λ xs. p.0 ++ 63 ∷ xs) (sorted_stays p.1))

plain_stays : (text : List ℕ) → is_some (parts_of text) ≡ false → canonical_of text ≡ text
unfolding canonical_of
plain_stays text is = rw is refl

bare_stays : (text : List ℕ) → is_some (parts_of text) ≡ true → cut_at 63 text ≡ None → canonical_of text ≡ text
unfolding canonical_of
bare_stays text has is = rw (has, is) refl

stays_at : (t : Bool) (found : Option (List ℕ × List ℕ)) (text : List ℕ) → is_some (parts_of text) ≡ t → cut_at 63 text ≡ found
    → canonical_of (cond t (with_sorted text found) text) ≡ cond t (with_sorted text found) text
stays_at false found text has is = plain_stays text has
stays_at true None text has is = bare_stays text has is
stays_at true (Some p) text has is = made_stays text p has is

pub canonical_stays : (text : List ℕ) → canonical_of (canonical_of text) ≡ canonical_of text
unfolding canonical_of
canonical_stays text = stays_at (is_some (parts_of text)) (cut_at 63 text) text refl refl

-- ---- the home stays

abbrev is_hex : ℕ → Bool
is_hex b = is_digit b 16

and_false : (t : Bool) → (t && false) ≡ false
and_false true = refl
and_false false = refl

-- a byte that is no digit ends what could be an escape
digits_end : (a : List ℕ) (x : ℕ) (b : List ℕ) → is_hex x ≡ false → begins_with_digits (a ++ x ∷ b) ≡ begins_with_digits a
digits_end [] x b none = rw none refl
digits_end (d ∷ []) x b none = rw none refl
digits_end (d ∷ e ∷ more) x b none = refl

or_assoc : (a b c : Bool) → (a || (b || c)) ≡ ((a || b) || c)
or_assoc true b c = refl
or_assoc false b c = refl

bad_joined : (a : List ℕ) (x : ℕ) (b : List ℕ) → is_hex x ≡ false → eqb x 37 ≡ false → has_bad_escape (a ++ x ∷ b) ≡ (has_bad_escape a || has_bad_escape b)
unfolding has_bad_escape
bad_joined [] x b none other = rw other refl
bad_joined (c ∷ cs) x b none other =
    rw (digits_end cs x b none)
    (ap (λ t. (eqb c 37 && not (begins_with_digits cs)) || t) (bad_joined cs x b none other)
    ∙ or_assoc (eqb c 37 && not (begins_with_digits cs)) (has_bad_escape cs) (has_bad_escape b))

or_nothing : (t : Bool) → t ≡ (t || false)
or_nothing true = refl
or_nothing false = refl

bad_none : has_bad_escape [] ≡ false
unfolding has_bad_escape
bad_none = refl

bad_parts : (ps : List (List ℕ)) → has_bad_escape (join_with_byte 38 ps) ≡ list_any has_bad_escape ps
bad_parts [] = bad_none
bad_parts (p ∷ []) = or_nothing (has_bad_escape p)
bad_parts (p ∷ q ∷ ps) = bad_joined p 38 (join_with_byte 38 (q ∷ ps)) refl refl ∙ ap (λ t. has_bad_escape p || t) (bad_parts (q ∷ ps))

bad_sorted : (parameters : List ℕ) → has_bad_escape (sorted_text parameters) ≡ has_bad_escape parameters
bad_sorted parameters =
    bad_parts (in_order (parts_at 38 parameters))
    ∙ sym (list_any-IsPermutation has_bad_escape (parts_at 38 parameters) (in_order (parts_at 38 parameters)) (in_order_same (parts_at 38 parameters)))
    ∙ sym (bad_parts (parts_at 38 parameters))
    ∙ ap has_bad_escape (join_with_byte-slice_split 38 parameters)

bad_made : (text : List ℕ) (p : List ℕ × List ℕ) → text ≡ p.0 ++ 63 ∷ p.1 → has_bad_escape (made p) ≡ has_bad_escape text
bad_made text p is =
    bad_joined p.0 63 (sorted_text p.1) refl refl
    ∙ ap (λ t. has_bad_escape p.0 || t) (bad_sorted p.1)
    ∙ sym (bad_joined p.0 63 p.1 refl refl)
    ∙ ap has_bad_escape (sym is)

xdstp_head : (head path more : List ℕ) → head ≡ codes "xdstp://" ++ path → is_xdstp (head ++ more) ≡ true
xdstp_head head path more is = rw is refl

path_of : (text : List ℕ) (found : Option (List ℕ)) → after (codes "xdstp://") (head_of text) ≡ found → is_some (option_and_then parts_from found) ≡ true
    → (path : List ℕ) × (head_of text ≡ codes "xdstp://" ++ path)
path_of text None is has = absurd (cc)
path_of text (Some path) is has = (path, after_is (codes "xdstp://") (head_of text) path is)

head_path : (text : List ℕ) → is_some (parts_of text) ≡ true → (path : List ℕ) × (head_of text ≡ codes "xdstp://" ++ path)
unfolding parts_of
head_path text has = path_of text (after (codes "xdstp://") (head_of text)) refl has

xdstp_made : (text : List ℕ) (p : List ℕ × List ℕ) → is_some (parts_of text) ≡ true → cut_at 63 text ≡ Some p → is_xdstp (made p) ≡ is_xdstp text
xdstp_made text p has is =
    let path = head_path text has in
    let head = sym (head_cut text p.0 p.1 is) ∙ path.1 in
    xdstp_head p.0 path.0 (63 ∷ sorted_text p.1) head
    ∙ sym (xdstp_head p.0 path.0 (63 ∷ p.1) head)
    ∙ ap is_xdstp (sym (cuts_as 63 text (Some p) is).0)

made_home : (entries : List AuthorityEntry) (kind : Kind) (text : List ℕ) (p : List ℕ × List ℕ) → is_some (parts_of text) ≡ true → cut_at 63 text ≡ Some p
    → home_of entries kind (made p) ≡ home_of entries kind text
unfolding home_of
made_home entries kind text p has is =
    rw (xdstp_made text p has is, bad_made text p (cuts_as 63 text (Some p) is).0, made_parts text p is) refl

home_at : (t : Bool) (found : Option (List ℕ × List ℕ)) (entries : List AuthorityEntry) (kind : Kind) (text : List ℕ) → is_some (parts_of text) ≡ t → cut_at 63 text ≡ found
    → home_of entries kind (cond t (with_sorted text found) text) ≡ home_of entries kind text
home_at false found entries kind text has is = refl
home_at true None entries kind text has is = refl
home_at true (Some p) entries kind text has is = made_home entries kind text p has is

pub home_stays : (entries : List AuthorityEntry) (kind : Kind) (text : List ℕ) → home_of entries kind (canonical_of text) ≡ home_of entries kind text
unfolding canonical_of
home_stays entries kind text = home_at (is_some (parts_of text)) (cut_at 63 text) entries kind text refl refl
