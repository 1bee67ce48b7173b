-- An address in lower case is an address.
use Rattle.std.proofs.Common.{◌≡◌, ◌<◌, inl, inr, ℕ, ◌^◌, List, [], ◌∷◌, ◌++◌, map, Bool, true, false, ◌&&◌, ◌||◌, eqb, cond, Some, None, refl, sym, ap, ◌∙◌, subst, arith}
use Rattle.std.proofs.lemmas.Bool.Decides.{nat_tests}
use Rattle.std.proofs.lemmas.Fmt.{decimal_is_IsNumeral}
use Rattle.std.proofs.lemmas.List.{length-map, map-append}
use Rattle.std.proofs.lemmas.List.Folds.{list_all-map}
use Rattle.std.proofs.lemmas.List.Sums.{AllPass-from_list_all, list_all-from_AllPass}
use Rattle.std.specs.Char.{to_ascii_lowercase, is_digit}
use Rattle.std.specs.Fmt.{decimal}
use Rattle.std.specs.List.{list_all, join_with_byte}
use Rattle.std.specs.Prelude.{codes}
use Rattle.std.specs.Str.{str_to_ascii_lowercase}
use Rattle.xc_base.proofs.AddressLemmas.{IsNumericHost-from_test, is_numeric_host-from_IsNumericHost, IsPort-from_range, IsAddress-from_test, is_address-from_IsAddress, is_address-text, text_plain, text_bracketed, ipv4_colon}
use Rattle.xc_base.proofs.Ipv4Lemmas.{ipv4_bytes, all_digits}
use Rattle.xc_base.proofs.Ipv6Lemmas.{group_digits, group_length, ipv6_colon}
use Rattle.xc_base.proofs.Ipv6Parsed.{is_group_of}
use Rattle.xc_base.proofs.JoinLemmas.{and_true, list_all_weaken}
use Rattle.xc_base.proofs.LowerLemmas.{lower-lower}
use Rattle.xc_base.specs.Addresses.{AreGroups, IsIpv4, IsIpv6, IsNumericHost, IsPort, AddressesAreNumeric, address_text, is_group, is_numeric_host, is_in_port_range, is_address, address_in, address_of}

abbrev lower : List ℕ → List ℕ
lower text = str_to_ascii_lowercase text

-- a text without letters stays
without_letters : (q : ℕ → Bool) → ((b : ℕ) → q b ≡ true → to_ascii_lowercase b ≡ b) → (text : List ℕ) → list_all q text ≡ true → lower text ≡ text
without_letters q kept [] e = refl
without_letters q kept (b ∷ bs) e =
    let both = and_true (q b) (list_all q bs) e in rw (kept b both.0, without_letters q kept bs both.1) refl

digit_kept : (b : ℕ) → is_digit b 10 ≡ true → to_ascii_lowercase b ≡ b
digit_kept b e = grind (arith, nat_tests)

dotted_kept : (b : ℕ) → (is_digit b 10 || eqb b 46) ≡ true → to_ascii_lowercase b ≡ b
dotted_kept b e = grind (arith, nat_tests)

lower_decimal : (n : ℕ) → n < 2 ^ 64 → lower (decimal n) ≡ decimal n
lower_decimal n lt = without_letters (λ b. is_digit b 10) digit_kept (decimal n) (all_digits 10 (decimal n) (decimal_is_IsNumeral n lt).0.1)

hex_lower : (b : ℕ) → is_digit b 16 ≡ true → is_digit (to_ascii_lowercase b) 16 ≡ true
hex_lower b e = grind (arith, nat_tests)

group_lower : (part : List ℕ) → is_group part ≡ true → is_group (lower part) ≡ true
group_lower part e =
    let sized = group_length part e in
    let same = length-map part to_ascii_lowercase in
    is_group_of (lower part) (omega arith) (omega arith)
    (list_all-map (λ b. is_digit b 16) to_ascii_lowercase part ∙ list_all_weaken (λ b. is_digit b 16) (λ b. is_digit (to_ascii_lowercase b) 16) part hex_lower (group_digits part e))

lower_join : (parts : List (List ℕ)) → lower (join_with_byte 58 parts) ≡ join_with_byte 58 (map lower parts)
lower_join [] = refl
lower_join (x ∷ []) = refl
lower_join (x ∷ y ∷ parts) = map-append to_ascii_lowercase x (58 ∷ join_with_byte 58 (y ∷ parts)) ∙ ap (λ t. lower x ++ 58 ∷ t) (lower_join (y ∷ parts))

groups_lower : (n : ℕ) (text : List ℕ) → AreGroups n text → AreGroups n (lower text)
groups_lower n text j = record {
  parts = map lower j.parts;
  count = length-map j.parts lower ∙ j.count;
  passes = AllPass-from_list_all is_group (map lower j.parts)
      (list_all-map is_group lower j.parts ∙ list_all_weaken is_group (λ part. is_group (lower part)) j.parts group_lower (list_all-from_AllPass is_group j.parts j.passes));
  spelled = ap lower j.spelled ∙ lower_join j.parts;
}

ipv6_lower : (host : List ℕ) → IsIpv6 host → IsIpv6 (lower host)
ipv6_lower host (inl j) = inl (groups_lower 8 host j)
ipv6_lower host (inr h) = inr (record {
  before = lower h.before;
  after = lower h.after;
  m = h.m;
  n = h.n;
  few = h.few;
  before_groups = groups_lower h.m h.before h.before_groups;
  after_groups = groups_lower h.n h.after h.after_groups;
  spelled = ap lower h.spelled ∙ (map-append to_ascii_lowercase (h.before ++ codes "::") h.after
      ∙ ap (λ t. t ++ lower h.after) (map-append to_ascii_lowercase h.before (codes "::")));
})

plain_lower : (host : List ℕ) (port : ℕ) → IsIpv4 host → IsPort port → lower (address_text host port) ≡ address_text host port
plain_lower host port h p =
    let digits = lower_decimal port (let high = p.1 in omega arith) in
    let host_kept = without_letters (λ b. is_digit b 10 || eqb b 46) dotted_kept host (ipv4_bytes host h) in
    ap lower (text_plain host port (ipv4_colon host h))
    ∙ (map-append to_ascii_lowercase host (58 ∷ decimal port) ∙ (rw (host_kept, digits) refl ∙ sym (text_plain host port (ipv4_colon host h))))

bracketed_lower : (host : List ℕ) (port : ℕ) → IsIpv6 host → IsPort port → lower (address_text host port) ≡ address_text (lower host) port
bracketed_lower host port h p =
    let digits = lower_decimal port (let high = p.1 in omega arith) in
    ap lower (text_bracketed host port (ipv6_colon host h))
    ∙ (ap (λ t. 91 ∷ t) (map-append to_ascii_lowercase host (93 ∷ 58 ∷ decimal port) ∙ ap (λ t. lower host ++ 93 ∷ 58 ∷ t) digits)
    ∙ sym (text_bracketed (lower host) port (ipv6_colon (lower host) (ipv6_lower host h))))

text_lower : (host : List ℕ) (port : ℕ) → IsNumericHost host → IsPort port → is_address (lower (address_text host port)) ≡ true
text_lower host port (inl h) p = ap is_address (plain_lower host port h p) ∙ is_address-text host port (inl h) p
text_lower host port (inr h) p = ap is_address (bracketed_lower host port h p) ∙ is_address-text (lower host) port (inr (ipv6_lower host h)) p

-- so a text's address reads as itself

reads : (text : List ℕ) → is_address (lower text) ≡ true → address_in (lower text) ≡ Some (lower text)
unfolding address_in
reads text e = rw e (ap Some (lower-lower text))

address_lower : (text : List ℕ) → is_address text ≡ true → is_address (lower text) ≡ true
address_lower text e = let h = IsAddress-from_test text e in ap (λ t. is_address (lower t)) h.spelled ∙ text_lower h.host h.port h.numeric h.in_range

pub address_reads : (text : List ℕ) → is_address text ≡ true → address_in (str_to_ascii_lowercase text) ≡ Some (str_to_ascii_lowercase text)
address_reads text e = reads text (address_lower text e)

pub made_reads : (host : List ℕ) (port : ℕ) → is_numeric_host host ≡ true → is_in_port_range port ≡ true → address_in (str_to_ascii_lowercase (address_text host port)) ≡ Some (str_to_ascii_lowercase (address_text host port))
made_reads host port h p = reads (address_text host port) (text_lower host port (IsNumericHost-from_test host h) (IsPort-from_range port p))

some_of : (t : Bool) (x a : List ℕ) → cond t (Some x) None ≡ Some a → (t ≡ true) × (x ≡ a)
some_of true x a e = (refl, cc)
some_of false x a e = absurd (cc)

pub stays : (text address : List ℕ) → address_in text ≡ Some address → address_in address ≡ Some address
unfolding address_in
stays text address e =
    let found = some_of (is_address text) (lower text) address e in
    subst (λ (a : List ℕ). address_in a ≡ Some a) found.1 (address_reads text found.0)

pub made : (host : List ℕ) (port : ℕ) (address : List ℕ) → address_of host port ≡ Some address → address_in address ≡ Some address
unfolding address_of
made host port address e =
    let found = some_of (is_numeric_host host && is_in_port_range port) (lower (address_text host port)) address e in
    let both = and_true (is_numeric_host host) (is_in_port_range port) found.0 in
    subst (λ (a : List ℕ). address_in a ≡ Some a) found.1 (made_reads host port both.0 both.1)

pub addresses_are_numeric : AddressesAreNumeric
addresses_are_numeric = record {
  hosts = λ host. (IsNumericHost-from_test host, is_numeric_host-from_IsNumericHost host);
  addresses = λ text. (IsAddress-from_test text, is_address-from_IsAddress text);
  stays = stays;
  made = made;
}
