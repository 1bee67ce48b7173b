-- IPv6 text as a test.
use Rattle.std.proofs.Common.{◌≡◌, ◌≤◌, ◌<◌, inl, inr, ℕ, ◌+◌, List, [], ◌∷◌, ◌++◌, length, get_or, drop, Bool, true, false, ◌&&◌, ◌||◌, not, eqb, cond, Option, Some, None, refl, sym, ap, ◌∙◌, arith, append_assoc, append-nil, eqb-true}
use Rattle.std.proofs.lemmas.Bool.Decides.{nat_tests}
use Rattle.std.proofs.lemmas.List.Folds.{list_all-append, list_any-append}
use Rattle.std.proofs.lemmas.List.Sums.{AllPass-from_list_all, list_all-from_AllPass}
use Rattle.std.specs.Char.{is_digit}
use Rattle.std.specs.List.{list_all, list_any, join_with_byte}
use Rattle.std.specs.Option.{option_map_or}
use Rattle.std.specs.Prelude.{codes, nat_le, nat_lt}
use Rattle.xc_base.proofs.JoinLemmas.{and_true, true_and, or_true, list_all_weaken, list_any-join, IsJoined-parts_at, parts_at-joined, list_all-joined}
use Rattle.xc_base.specs.Addresses.{AreGroups, IsIpv6, is_ipv6, is_group, groups_of, parts_at, around_elision, with_first, are_few_groups, are_eight_groups}

abbrev hex : ℕ → Bool
hex b = is_digit b 16

-- a group's bytes are hexadecimal digits
pub group_digits : (part : List ℕ) → is_group part ≡ true → list_all (λ b. is_digit b 16) part ≡ true
group_digits part e = (and_true (nat_lt 0 (length part) && nat_le (length part) 4) (list_all (λ b. is_digit b 16) part) e).1

pub group_length : (part : List ℕ) → is_group part ≡ true → (0 < length part) × (length part ≤ 4)
group_length part e =
    let sized = (and_true (nat_lt 0 (length part) && nat_le (length part) 4) (list_all (λ b. is_digit b 16) part) e).0 in
    let both = and_true (nat_lt 0 (length part)) (nat_le (length part) 4) sized in
    (grind (arith, nat_tests), grind (arith, nat_tests))

-- a byte that isn't a colon stands first
begins_apart : List ℕ → Bool
begins_apart [] = false
begins_apart (b ∷ bs) = not (eqb b 58)

-- each colon is followed by a byte that isn't one
apart : List ℕ → Bool
apart [] = true
apart (b ∷ bs) = cond (eqb b 58) (begins_apart bs) true && apart bs

not_first : (b : ℕ) (bs rest : List ℕ) → cond (eqb b 58) (begins_apart bs) true ≡ true → (eqb b 58 && eqb (get_or (bs ++ rest) 0 0) 58) ≡ false
unfolding begins_apart
not_first b [] rest e = first_alone (eqb b 58) e where
  first_alone : (t : Bool) → cond t false true ≡ true → (t && eqb (get_or rest 0 0) 58) ≡ false
  first_alone true e = absurd (cc)
  first_alone false e = refl
not_first b (c ∷ bs) rest e = first_two (eqb b 58) (eqb c 58) e where
  first_two : (t u : Bool) → cond t (not u) true ≡ true → (t && u) ≡ false
  first_two true true e = absurd (cc)
  first_two true false e = refl
  first_two false u e = refl

-- the first `::` stands after a text whose colons are apart
around_elision_at : (before after : List ℕ) → apart before ≡ true → around_elision (before ++ 58 ∷ 58 ∷ after) ≡ Some (before, after)
unfolding apart
around_elision_at [] after e = refl
around_elision_at (b ∷ bs) after e =
    let both = and_true (cond (eqb b 58) (begins_apart bs) true) (apart bs) e in
    rw (not_first b bs (58 ∷ 58 ∷ after) both.0, around_elision_at bs after both.1) refl

around_elision_none : (host : List ℕ) → apart host ≡ true → around_elision host ≡ None
unfolding apart
around_elision_none [] e = refl
around_elision_none (b ∷ bs) e =
    let both = and_true (cond (eqb b 58) (begins_apart bs) true) (apart bs) e in
    let first : (eqb b 58 && eqb (get_or bs 0 0) 58) ≡ false = rw append-nil at (not_first b bs [] both.0) in
    rw (first, around_elision_none bs both.1) refl

-- no colon at all in front
apart_after : (x rest : List ℕ) → list_all hex x ≡ true → apart rest ≡ true → apart (x ++ rest) ≡ true
unfolding apart
apart_after [] rest e h = h
apart_after (b ∷ bs) rest e h =
    let both = and_true (is_digit b 16) (list_all (λ c. is_digit c 16) bs) e in
    let not_colon : eqb b 58 ≡ false = grind (arith, nat_tests) in
    rw not_colon (apart_after bs rest both.1 h)

begins_with_digit : (x rest : List ℕ) → 0 < length x → list_all hex x ≡ true → begins_apart (x ++ rest) ≡ true
unfolding begins_apart
begins_with_digit [] rest some e = absurd (omega arith)
begins_with_digit (b ∷ bs) rest some e =
    let both = and_true (is_digit b 16) (list_all (λ c. is_digit c 16) bs) e in
    let not_colon : eqb b 58 ≡ false = grind (arith, nat_tests) in
    rw not_colon refl

begins_joined : (parts : List (List ℕ)) → 0 < length parts → list_all is_group parts ≡ true → begins_apart (join_with_byte 58 parts) ≡ true
begins_joined [] some e = absurd (omega arith)
begins_joined (x ∷ []) some e =
    let is = (and_true (is_group x) true e).0 in
    rw append-nil at (begins_with_digit x [] (group_length x is).0 (group_digits x is))
begins_joined (x ∷ y ∷ parts) some e =
    let is = (and_true (is_group x) (list_all is_group (y ∷ parts)) e).0 in
    begins_with_digit x (58 ∷ join_with_byte 58 (y ∷ parts)) (group_length x is).0 (group_digits x is)

-- the colons of joined groups are apart
apart_joined : (parts : List (List ℕ)) → list_all is_group parts ≡ true → apart (join_with_byte 58 parts) ≡ true
unfolding apart
apart_joined [] e = refl
apart_joined (x ∷ []) e =
    let is = (and_true (is_group x) true e).0 in
    rw append-nil at (apart_after x [] (group_digits x is) refl)
apart_joined (x ∷ y ∷ parts) e =
    let both = and_true (is_group x) (list_all is_group (y ∷ parts)) e in
    apart_after x (58 ∷ join_with_byte 58 (y ∷ parts)) (group_digits x both.0)
    (true_and (begins_apart (join_with_byte 58 (y ∷ parts))) (apart (join_with_byte 58 (y ∷ parts))) (begins_joined (y ∷ parts) (omega arith) both.1) (apart_joined (y ∷ parts) both.1))

apart_groups : (n : ℕ) (text : List ℕ) → AreGroups n text → apart text ≡ true
apart_groups n text j = ap apart j.spelled ∙ apart_joined j.parts (list_all-from_AllPass is_group j.parts j.passes)

starts_with_colon : (bs : List ℕ) → eqb (get_or bs 0 0) 58 ≡ true → bs ≡ 58 ∷ drop 1 bs
starts_with_colon [] e = absurd (cc)
starts_with_colon (b ∷ bs) e = ap (λ x. x ∷ bs) (eqb-true b 58 e)

abbrev Parts : Type 0
Parts = List ℕ × List ℕ

abbrev around : Parts → List ℕ
around p = p.0 ++ 58 ∷ 58 ∷ p.1

by_first : (b : ℕ) (bs : List ℕ) (p : Parts) (t u : Bool) (o : Option Parts) → eqb b 58 ≡ t → eqb (get_or bs 0 0) 58 ≡ u → ((q : Parts) → o ≡ Some q → bs ≡ around q) → cond (t && u) (Some ([], drop 1 bs)) (with_first b o) ≡ Some p → b ∷ bs ≡ around p
by_first b bs p true true o et eu later found =
    let same : ([], drop 1 bs) ≡ p = cc in
    ap (λ x. x ∷ bs) (eqb-true b 58 et) ∙ (ap (λ xs. 58 ∷ xs) (starts_with_colon bs eu) ∙ ap around same)
by_first b bs p true false None et eu later found = absurd (cc)
by_first b bs p true false (Some q) et eu later found =
    let same : (b ∷ q.0, q.1) ≡ p = cc in ap (λ xs. b ∷ xs) (later q refl) ∙ ap around same
by_first b bs p false u None et eu later found = absurd (cc)
by_first b bs p false u (Some q) et eu later found =
    let same : (b ∷ q.0, q.1) ≡ p = cc in ap (λ xs. b ∷ xs) (later q refl) ∙ ap around same

-- what stands round `::` gives the text
around_elision_is : (host : List ℕ) (p : Parts) → around_elision host ≡ Some p → host ≡ around p
around_elision_is [] p e = absurd (cc)
around_elision_is (b ∷ bs) p e = by_first b bs p (eqb b 58) (eqb (get_or bs 0 0) 58) (around_elision bs) refl refl (around_elision_is bs) e

groups_of_parts : (text : List ℕ) (parts : List (List ℕ)) → list_all is_group parts ≡ true → text ≡ join_with_byte 58 parts → groups_of text ≡ parts
unfolding begins_apart
groups_of_parts [] [] e spelled = refl
groups_of_parts (b ∷ bs) [] e spelled = absurd (cc)
groups_of_parts [] (x ∷ parts) e spelled =
    absurd (let begins : begins_apart [] ≡ true = ap begins_apart spelled ∙ begins_joined (x ∷ parts) (omega arith) e in cc)
groups_of_parts (b ∷ bs) (x ∷ parts) e spelled =
    let j : AreGroups (length (x ∷ parts)) (b ∷ bs) = record { parts = x ∷ parts; count = refl; passes = AllPass-from_list_all is_group (x ∷ parts) e; spelled = spelled } in
    parts_at-joined 58 is_group hex group_digits (length (x ∷ parts)) (b ∷ bs) j refl (omega arith)

-- the groups of a text
groups_of-joined : (n : ℕ) (text : List ℕ) (j : AreGroups n text) → groups_of text ≡ j.parts
groups_of-joined n text j = groups_of_parts text j.parts (list_all-from_AllPass is_group j.parts j.passes) j.spelled

AreGroups-groups_of : (text : List ℕ) → list_all is_group (groups_of text) ≡ true → AreGroups (length (groups_of text)) text
AreGroups-groups_of [] e = record { parts = []; count = refl; passes = AllPass-from_list_all is_group [] refl; spelled = refl }
AreGroups-groups_of (b ∷ bs) e = IsJoined-parts_at 58 is_group (length (parts_at 58 (b ∷ bs))) (b ∷ bs) refl e

-- the test finds just what the definition says
IsIpv6-by_elision : (host : List ℕ) (o : Option Parts) → around_elision host ≡ o → option_map_or are_few_groups o (are_eight_groups host) ≡ true → IsIpv6 host
IsIpv6-by_elision host None at e =
    let both = and_true (eqb (length (parts_at 58 host)) 8) (list_all is_group (parts_at 58 host)) e in
    inl (IsJoined-parts_at 58 is_group 8 host (eqb-true _ 8 both.0) both.1)
IsIpv6-by_elision host (Some p) at e =
    let all = and_true (nat_le (length (groups_of p.0) + length (groups_of p.1)) 7 && list_all is_group (groups_of p.0)) (list_all is_group (groups_of p.1)) e in
    let most = and_true (nat_le (length (groups_of p.0) + length (groups_of p.1)) 7) (list_all is_group (groups_of p.0)) all.0 in
    inr (record {
      before = p.0;
      after = p.1;
      m = length (groups_of p.0);
      n = length (groups_of p.1);
      few = grind (arith, nat_tests);
      before_groups = AreGroups-groups_of p.0 most.1;
      after_groups = AreGroups-groups_of p.1 all.1;
      spelled = around_elision_is host p at ∙ sym (append_assoc p.0 (codes "::") p.1);
    })

pub IsIpv6-from_test : (host : List ℕ) → is_ipv6 host ≡ true → IsIpv6 host
unfolding is_ipv6
IsIpv6-from_test host e = IsIpv6-by_elision host (around_elision host) refl e

pub is_ipv6-from_IsIpv6 : (host : List ℕ) → IsIpv6 host → is_ipv6 host ≡ true
unfolding is_ipv6
is_ipv6-from_IsIpv6 host (inl j) =
    let none = around_elision_none host (apart_groups 8 host j) in
    let same = parts_at-joined 58 is_group hex group_digits 8 host j refl (omega arith) in
    rw (none, same, j.count) (list_all-from_AllPass is_group j.parts j.passes)
is_ipv6-from_IsIpv6 host (inr h) =
    let found = around_elision_at h.before h.after (apart_groups h.m h.before h.before_groups) in
    let at : around_elision host ≡ Some (h.before, h.after) = ap around_elision (h.spelled ∙ append_assoc h.before (codes "::") h.after) ∙ found in
    let first = groups_of-joined h.m h.before h.before_groups in
    let second = groups_of-joined h.n h.after h.after_groups in
    let few : nat_le (h.m + h.n) 7 ≡ true = let le = h.few in grind (arith, nat_tests) in
    rw (at, first, second, h.before_groups.count, h.after_groups.count, few, list_all-from_AllPass is_group h.before_groups.parts h.before_groups.passes, list_all-from_AllPass is_group h.after_groups.parts h.after_groups.passes) refl

abbrev hex_or_colon : ℕ → Bool
hex_or_colon b = is_digit b 16 || eqb b 58

groups_bytes : (n : ℕ) (text : List ℕ) → AreGroups n text → list_all hex_or_colon text ≡ true
groups_bytes n text j = list_all-joined 58 is_group hex_or_colon (λ part e. list_all_weaken hex hex_or_colon part (λ b h. rw h refl) (group_digits part e)) n text j refl

-- its bytes are hexadecimal digits and colons
pub ipv6_bytes : (host : List ℕ) → IsIpv6 host → list_all (λ b. is_digit b 16 || eqb b 58) host ≡ true
ipv6_bytes host (inl j) = groups_bytes 8 host j
ipv6_bytes host (inr h) =
    let front = groups_bytes h.m h.before h.before_groups in
    let back = groups_bytes h.n h.after h.after_groups in
    ap (list_all hex_or_colon) (h.spelled ∙ append_assoc h.before (codes "::") h.after)
    ∙ (list_all-append hex_or_colon h.before (58 ∷ 58 ∷ h.after) ∙ rw (front, back) refl)

-- and a colon is among them
pub ipv6_colon : (host : List ℕ) → IsIpv6 host → list_any (λ b. eqb b 58) host ≡ true
ipv6_colon host (inl j) = ap (list_any (λ b. eqb b 58)) j.spelled ∙ list_any-join 58 j.parts (let count = j.count in omega arith)
ipv6_colon host (inr h) =
    ap (list_any (λ b. eqb b 58)) (h.spelled ∙ append_assoc h.before (codes "::") h.after)
    ∙ (list_any-append (λ b. eqb b 58) h.before (58 ∷ 58 ∷ h.after) ∙ or_true (list_any (λ b. eqb b 58) h.before))
