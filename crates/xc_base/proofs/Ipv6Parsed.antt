-- IPv6 text as std reads it, which also takes an IPv4 tail.
use Rattle.std.proofs.Common.{◌≡◌, ◌≤◌, ◌<◌, inl, inr, ℕ, suc, ◌-◌, List, [], ◌∷◌, ◌++◌, length, map, Bool, true, false, ◌||◌, eqb, Result, Ok, Err, refl, sym, ap, ◌∙◌, arith, append_assoc, append-nil, subst}
use Rattle.std.proofs.lemmas.Bool.Decides.{nat_tests}
use Rattle.std.proofs.lemmas.List.{length-map}
use Rattle.std.proofs.lemmas.List.Folds.{list_any-append}
use Rattle.std.proofs.lemmas.List.Sums.{AllPass-from_list_all, list_all-from_AllPass}
use Rattle.std.specs.Char.{is_digit}
use Rattle.std.specs.Fmt.{decimal}
use Rattle.std.specs.List.{list_all, list_any, join_with_byte}
use Rattle.std.specs.Net.Grammar.{IsDotted, IsGroups, IsGroupsAfter, IsIpv6Text, Parses}
use Rattle.std.specs.Prelude.{codes, nat_lt, nat_le, replicate, is_ok}
use Rattle.std.specs.Str.Parse.{AllDigits, digits_value}
use Rattle.std.specs.declared.net.ipv6_addr.Ipv6Addr.{Ipv6Addr}
use Rattle.xc_base.proofs.Ipv6Lemmas.{group_digits, group_length, ipv6_bytes, IsIpv6-from_test, is_ipv6-from_IsIpv6}
use Rattle.xc_base.proofs.JoinLemmas.{and_true, true_and, or_true, or_false, same_bool, lacks_any}
use Rattle.xc_base.specs.Addresses.{AreGroups, IsIpv6, is_ipv6, is_group}

abbrev pub has_dot : List ℕ → Bool
has_dot text = list_any (λ b. eqb b 46) text

-- groups, the first after `lead` and each other after a colon
abbrev led_by : List ℕ → List (List ℕ) → List ℕ
led_by lead [] = []
led_by lead (g ∷ gs) = lead ++ g ++ led_by (codes ":") gs

joined_led : (gs : List (List ℕ)) → join_with_byte 58 gs ≡ led_by [] gs
joined_led [] = refl
joined_led (g ∷ []) = sym (append-nil g)
joined_led (g ∷ h ∷ gs) = ap (λ t. g ++ 58 ∷ t) (joined_led (h ∷ gs))

digits_of_group : (part : List ℕ) → list_all (λ b. is_digit b 16) part ≡ true → AllDigits 16 part
digits_of_group [] e = tt
digits_of_group (b ∷ bs) e = let both = and_true (is_digit b 16) (list_all (λ b. is_digit b 16) bs) e in (grind (arith, nat_tests), digits_of_group bs both.1)

group_of_digits : (part : List ℕ) → AllDigits 16 part → list_all (λ b. is_digit b 16) part ≡ true
group_of_digits [] h = refl
group_of_digits (b ∷ bs) h = true_and (is_digit b 16) (list_all (λ b. is_digit b 16) bs) (grind (arith, nat_tests)) (group_of_digits bs h.1)

-- std reads the groups
groups_read : (ipv4 : Bool) (lead : List ℕ) (gs : List (List ℕ)) → list_all is_group gs ≡ true → IsGroupsAfter ipv4 lead (led_by lead gs) (map (digits_value 16) gs)
groups_read ipv4 lead [] e = refl
groups_read ipv4 lead (g ∷ gs) e =
    let both = and_true (is_group g) (list_all is_group gs) e in
    let sized = group_length g both.0 in
    inl (g, led_by (codes ":") gs, refl, (((sized.0, digits_of_group g (group_digits g both.0)), refl), sized.1), groups_read ipv4 (codes ":") gs both.1)

dotted_has_dot : (text octets : List ℕ) → IsDotted text octets → has_dot text ≡ true
dotted_has_dot text octets h =
    let rest = decimal h.b ++ codes "." ++ decimal h.c ++ codes "." ++ decimal h.d in
    let cut : text ≡ decimal h.a ++ 46 ∷ (decimal h.b ++ codes "." ++ decimal h.c ++ codes "." ++ decimal h.d) = h.spelled ∙ simp append_assoc in
    ap has_dot cut ∙ (list_any-append (λ b. eqb b 46) (decimal h.a) (46 ∷ rest) ∙ or_true (has_dot (decimal h.a)))

pub is_group_of : (part : List ℕ) → 0 < length part → length part ≤ 4 → list_all (λ b. is_digit b 16) part ≡ true → is_group part ≡ true
is_group_of part some few digits =
    let is_some : nat_lt 0 (length part) ≡ true = grind (arith, nat_tests) in
    let is_few : nat_le (length part) 4 ≡ true = grind (arith, nat_tests) in
    rw (is_some, is_few) digits

-- what std reads without a dot are groups
groups_of_read : (ipv4 : Bool) (lead : List ℕ) (segments text : List ℕ) → IsGroupsAfter ipv4 lead text segments → has_dot text ≡ false → (gs : List (List ℕ)) × (list_all is_group gs ≡ true) × (text ≡ led_by lead gs) × (length gs ≡ length segments)
groups_of_read ipv4 lead [] text h out = ([], refl, h, refl)
groups_of_read ipv4 lead (s ∷ segments) text (inl h) out =
    let no_dot : has_dot h.1 ≡ false = (or_false (has_dot (lead ++ h.0)) (has_dot h.1) (sym (list_any-append (λ b. eqb b 46) (lead ++ h.0) h.1) ∙ (sym (ap has_dot h.2) ∙ out))).1 in
    let more = groups_of_read ipv4 (codes ":") segments h.1 h.4 no_dot in
    let group : is_group h.0 ≡ true = is_group_of h.0 h.3.0.0.0 h.3.1 (group_of_digits h.0 h.3.0.0.1) in
    (h.0 ∷ more.0, true_and (is_group h.0) (list_all is_group more.0) group more.1, h.2 ∙ ap (λ t. lead ++ h.0 ++ t) more.2, ap suc more.3)
groups_of_read ipv4 lead (s ∷ segments) text (inr h) out =
    let dot = dotted_has_dot h.0 h.1 h.4 in
    let whole : has_dot text ≡ true = ap has_dot h.3 ∙ (list_any-append (λ b. eqb b 46) lead h.0 ∙ rw dot (or_true (has_dot lead))) in
    absurd (cc)

without_ipv4 : (ipv4 : Bool) (n : ℕ) (segments text : List ℕ) → IsGroups ipv4 text segments → length segments ≡ n → has_dot text ≡ false → AreGroups n text
without_ipv4 ipv4 n segments text h count out =
    let found = groups_of_read ipv4 [] segments text h out in
    record { parts = found.0; count = found.3 ∙ count; passes = AllPass-from_list_all is_group found.0 found.1; spelled = found.2 ∙ sym (joined_led found.0) }

groups_are_read : (ipv4 : Bool) (n : ℕ) (text : List ℕ) (j : AreGroups n text) → IsGroups ipv4 text (map (digits_value 16) j.parts)
groups_are_read ipv4 n text j =
    subst (λ (t : List ℕ). IsGroupsAfter ipv4 [] t (map (digits_value 16) j.parts)) (sym (j.spelled ∙ joined_led j.parts))
    (groups_read ipv4 [] j.parts (list_all-from_AllPass is_group j.parts j.passes))

segments_count : (n : ℕ) (text : List ℕ) (j : AreGroups n text) → length (map (digits_value 16) j.parts) ≡ n
segments_count n text j = length-map j.parts (digits_value 16) ∙ j.count

-- std reads groups, and makes zeros of `::`
pub ipv6_read : (host : List ℕ) → IsIpv6 host → (a : Ipv6Addr) × IsIpv6Text host a
ipv6_read host (inl j) = (record { segments = map (digits_value 16) j.parts }, inl (groups_are_read true 8 host j, segments_count 8 host j))
ipv6_read host (inr h) =
    let head = map (digits_value 16) h.before_groups.parts in
    let tail = map (digits_value 16) h.after_groups.parts in
    let head_count : length head ≡ h.m = segments_count h.m h.before h.before_groups in
    let tail_count : length tail ≡ h.n = segments_count h.n h.after h.after_groups in (
      record { segments = head ++ replicate (8 - length head - length tail) 0 ++ tail },
      inr (record {
        head_text = h.before;
        tail_text = h.after;
        head = head;
        tail = tail;
        spelled = h.spelled;
        head_groups = groups_are_read false h.m h.before h.before_groups;
        tail_groups = groups_are_read true h.n h.after h.after_groups;
        room = let few = h.few in omega arith;
        value = refl;
      }),
    )

parted : (a b c : List ℕ) → has_dot (a ++ b ++ c) ≡ false → (has_dot a ≡ false) × (has_dot c ≡ false)
parted a b c out =
    let last = or_false (has_dot (a ++ b)) (has_dot c) (sym (list_any-append (λ x. eqb x 46) (a ++ b) c) ∙ out) in
    let first = or_false (has_dot a) (has_dot b) (sym (list_any-append (λ x. eqb x 46) a b) ∙ last.0) in
    (first.0, last.1)

pub IsIpv6-from_read : (host : List ℕ) (a : Ipv6Addr) → IsIpv6Text host a → has_dot host ≡ false → IsIpv6 host
IsIpv6-from_read host a (inl h) out = inl (without_ipv4 true 8 a.segments host h.0 h.1 out)
IsIpv6-from_read host a (inr h) out =
    let both = parted h.head_text (codes "::") h.tail_text (sym (ap has_dot h.spelled) ∙ out) in
    inr (record {
      before = h.head_text;
      after = h.tail_text;
      m = length h.head;
      n = length h.tail;
      few = let room = h.room in omega arith;
      before_groups = without_ipv4 false (length h.head) h.head h.head_text h.head_groups refl both.0;
      after_groups = without_ipv4 true (length h.tail) h.tail h.tail_text h.tail_groups refl both.1;
      spelled = h.spelled;
    })

-- so std's parser decides it where there is no dot
pub ipv6_parsed : {E : Type 0} (host : List ℕ) (r : Result Ipv6Addr E) → Parses IsIpv6Text host r → has_dot host ≡ false → is_ok r ≡ is_ipv6 host
ipv6_parsed host (Ok a) h out = sym (is_ipv6-from_IsIpv6 host (IsIpv6-from_read host a h out))
ipv6_parsed host (Err e) h out = same_bool false (is_ipv6 host) (λ x. absurd (cc)) (λ x. let read = ipv6_read host (IsIpv6-from_test host x) in absurd (h read.0 read.1))

-- and with a dot it is none
pub ipv6_dotted : (host : List ℕ) → has_dot host ≡ true → is_ipv6 host ≡ false
ipv6_dotted host dot = same_bool (is_ipv6 host) false (λ x.
    let none = lacks_any (λ b. is_digit b 16 || eqb b 58) 46 host refl (ipv6_bytes host (IsIpv6-from_test host x)) in absurd (cc)) (λ x. absurd (cc))
