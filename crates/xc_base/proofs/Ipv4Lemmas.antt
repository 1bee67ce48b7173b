-- IPv4 text: as a test, and as std reads it.
use Rattle.std.proofs.Common.{◌≡◌, ◌≤◌, ◌<◌, ℕ, ◌^◌, List, [], ◌∷◌, ◌++◌, length, true, false, ◌||◌, eqb, Option, Some, None, Result, Ok, Err, refl, sym, ap, ◌∙◌, arith, append_assoc, eqb-true}
use Rattle.std.proofs.lemmas.Bool.Decides.{nat_tests}
use Rattle.std.proofs.lemmas.Fmt.{decimal_is_IsNumeral}
use Rattle.std.proofs.lemmas.List.Sums.{AllPass-from_list_all, list_all-from_AllPass}
use Rattle.std.specs.Char.{is_digit}
use Rattle.std.specs.Fmt.{decimal}
use Rattle.std.specs.List.{list_all, join_with_byte}
use Rattle.std.specs.Net.Grammar.{IsDotted, IsIpv4Text, Parses}
use Rattle.std.specs.Net.Text.{dotted_text}
use Rattle.std.specs.Option.{option_map_or}
use Rattle.std.specs.Prelude.{codes, nat_le, is_ok}
use Rattle.std.specs.Str.Parse.{AllDigits}
use Rattle.std.specs.declared.net.ipv4_addr.Ipv4Addr.{Ipv4Addr}
use Rattle.xc_base.proofs.JoinLemmas.{and_true, true_and, same_bool, list_all_weaken, IsJoined-parts_at, parts_at-joined, list_all-joined}
use Rattle.xc_base.proofs.NumberLemmas.{number_of-decimal, decimal-number_of}
use Rattle.xc_base.specs.Addresses.{IsIpv4, is_ipv4, is_number_up_to, parts_at}
use Rattle.xc_base.specs.Numbers.{number_of}

up_to : (most : ℕ) (o : Option ℕ) → option_map_or (λ n. nat_le n most) o false ≡ true → (n : ℕ) × (o ≡ Some n) × (n ≤ most)
up_to most None e = absurd (cc)
up_to most (Some n) e = (n, refl, grind (arith, nat_tests))

-- such a text is the decimal text of a number up to that one
pub number_up_to : (most : ℕ) (text : List ℕ) → is_number_up_to most text ≡ true → (n : ℕ) × (text ≡ decimal n) × (n < 2 ^ 64) × (n ≤ most)
unfolding is_number_up_to
number_up_to most text e =
    let found = up_to most (number_of text) e in
    let is = decimal-number_of text found.0 found.1 in
    (found.0, is.0, is.1, found.2)

pub is_number_up_to-decimal : (most n : ℕ) (text : List ℕ) → text ≡ decimal n → n < 2 ^ 64 → n ≤ most → is_number_up_to most text ≡ true
unfolding is_number_up_to
is_number_up_to-decimal most n text e lt le = rw (number_of-decimal text n e lt) (grind (arith, nat_tests))

pub all_digits : (radix : ℕ) (text : List ℕ) → AllDigits radix text → list_all (λ b. is_digit b radix) text ≡ true
all_digits radix [] h = refl
all_digits radix (b ∷ bs) h = true_and (is_digit b radix) _ (grind (arith, nat_tests)) (all_digits radix bs h.1)

-- its bytes are decimal digits
pub number_digits : (most : ℕ) (text : List ℕ) → is_number_up_to most text ≡ true → list_all (λ b. is_digit b 10) text ≡ true
number_digits most text e =
    let found = number_up_to most text e in
    ap (list_all (λ b. is_digit b 10)) found.1 ∙ all_digits 10 (decimal found.0) (decimal_is_IsNumeral found.0 found.2).0.1

-- the test finds just what the definition says
pub IsIpv4-from_test : (host : List ℕ) → is_ipv4 host ≡ true → IsIpv4 host
unfolding is_ipv4
IsIpv4-from_test host e =
    let both = and_true (eqb (length (parts_at 46 host)) 4) (list_all (is_number_up_to 255) (parts_at 46 host)) e in
    IsJoined-parts_at 46 (is_number_up_to 255) 4 host (eqb-true _ 4 both.0) both.1

pub is_ipv4-from_IsIpv4 : (host : List ℕ) → IsIpv4 host → is_ipv4 host ≡ true
unfolding is_ipv4
is_ipv4-from_IsIpv4 host j =
    let same = parts_at-joined 46 (is_number_up_to 255) (λ b. is_digit b 10) (number_digits 255) 4 host j refl (omega arith) in
    rw (same, j.count) (list_all-from_AllPass (is_number_up_to 255) j.parts j.passes)

-- its bytes are decimal digits and dots
pub ipv4_bytes : (host : List ℕ) → IsIpv4 host → list_all (λ b. is_digit b 10 || eqb b 46) host ≡ true
ipv4_bytes host j = list_all-joined 46 (is_number_up_to 255) (λ b. is_digit b 10 || eqb b 46) (λ part e. list_all_weaken (λ b. is_digit b 10) (λ b. is_digit b 10 || eqb b 46) part (λ b h. rw h refl) (number_digits 255 part e)) 4 host j refl

four_joined : (a b c d : List ℕ) → join_with_byte 46 (a ∷ b ∷ c ∷ d ∷ []) ≡ a ++ codes "." ++ b ++ codes "." ++ c ++ codes "." ++ d
four_joined a b c d = simp append_assoc

four_spelled : (a b c d : List ℕ) (i j k l : ℕ) → a ≡ decimal i → b ≡ decimal j → c ≡ decimal k → d ≡ decimal l → join_with_byte 46 (a ∷ b ∷ c ∷ d ∷ []) ≡ dotted_text i j k l
four_spelled a b c d i j k l is_a is_b is_c is_d = four_joined a b c d ∙ rw (is_a, is_b, is_c, is_d) refl

dotted : (parts : List (List ℕ)) (host : List ℕ) → length parts ≡ 4 → list_all (is_number_up_to 255) parts ≡ true → host ≡ join_with_byte 46 parts → (octets : List ℕ) × IsDotted host octets
dotted (a ∷ b ∷ c ∷ d ∷ []) host count e spelled =
    let at_a = and_true (is_number_up_to 255 a) (list_all (is_number_up_to 255) (b ∷ c ∷ d ∷ [])) e in
    let at_b = and_true (is_number_up_to 255 b) (list_all (is_number_up_to 255) (c ∷ d ∷ [])) at_a.1 in
    let at_c = and_true (is_number_up_to 255 c) (list_all (is_number_up_to 255) (d ∷ [])) at_b.1 in
    let at_d = and_true (is_number_up_to 255 d) true at_c.1 in
    let na = number_up_to 255 a at_a.0 in
    let nb = number_up_to 255 b at_b.0 in
    let nc = number_up_to 255 c at_c.0 in
    let nd = number_up_to 255 d at_d.0 in (
      na.0 ∷ nb.0 ∷ nc.0 ∷ nd.0 ∷ [],
      record {
        a = na.0;
        b = nb.0;
        c = nc.0;
        d = nd.0;
        fit = (omega (arith, na.3), omega (arith, nb.3), omega (arith, nc.3), omega (arith, nd.3));
        value = refl;
        spelled = spelled ∙ four_spelled a b c d na.0 nb.0 nc.0 nd.0 na.1 nb.1 nc.1 nd.1;
      },
    )
dotted [] host count e spelled = absurd (omega arith)
dotted (a ∷ []) host count e spelled = absurd (omega arith)
dotted (a ∷ b ∷ []) host count e spelled = absurd (omega arith)
dotted (a ∷ b ∷ c ∷ []) host count e spelled = absurd (omega arith)
dotted (a ∷ b ∷ c ∷ d ∷ p ∷ ps) host count e spelled = absurd (omega arith)

-- std reads it
pub ipv4_read : (host : List ℕ) → IsIpv4 host → (a : Ipv4Addr) × IsIpv4Text host a
ipv4_read host j =
    let found = dotted j.parts host j.count (list_all-from_AllPass (is_number_up_to 255) j.parts j.passes) j.spelled in
    (record { octets = found.0 }, found.1)

octet : (n : ℕ) → n < 256 → is_number_up_to 255 (decimal n) ≡ true
octet n lt = is_number_up_to-decimal 255 n (decimal n) refl (omega arith) (omega arith)

pub IsIpv4-from_read : (host : List ℕ) (a : Ipv4Addr) → IsIpv4Text host a → IsIpv4 host
IsIpv4-from_read host a h = record {
  parts = decimal h.a ∷ decimal h.b ∷ decimal h.c ∷ decimal h.d ∷ [];
  count = refl;
  passes = AllPass-from_list_all (is_number_up_to 255) (decimal h.a ∷ decimal h.b ∷ decimal h.c ∷ decimal h.d ∷ [])
      (rw (octet h.a h.fit.0, octet h.b h.fit.1, octet h.c h.fit.2, octet h.d h.fit.3) refl);
  spelled = h.spelled ∙ sym (four_joined (decimal h.a) (decimal h.b) (decimal h.c) (decimal h.d));
}

-- so std's parser decides it
pub ipv4_parsed : {E : Type 0} (host : List ℕ) (r : Result Ipv4Addr E) → Parses IsIpv4Text host r → is_ok r ≡ is_ipv4 host
ipv4_parsed host (Ok a) h = sym (is_ipv4-from_IsIpv4 host (IsIpv4-from_read host a h))
ipv4_parsed host (Err e) h = same_bool false (is_ipv4 host) (λ x. absurd (cc)) (λ x. let read = ipv4_read host (IsIpv4-from_test host x) in absurd (h read.0 read.1))
