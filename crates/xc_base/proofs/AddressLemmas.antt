-- Addresses as a test, and in lower case.
use Rattle.std.proofs.Common.{◌≡◌, ◌≢◌, ◌<◌, inl, inr, ℕ, ◌+◌, ◌^◌, List, [], ◌∷◌, ◌++◌, length, drop, get_or, Bool, true, false, ◌&&◌, ◌||◌, eqb, cond, Option, Some, None, refl, sym, ap, ◌∙◌, arith, append_assoc, eqb-true}
use Rattle.std.proofs.Math.Seq.{take-append_seam, drop-append-add}
use Rattle.std.proofs.lemmas.Bool.Decides.{nat_tests}
use Rattle.std.proofs.lemmas.Fmt.{decimal_nonempty}
use Rattle.std.proofs.lemmas.List.{drop_all, length-drop}
use Rattle.std.proofs.lemmas.List.Sums.{split_at_first, passes_at_first}
use Rattle.std.specs.Char.{is_digit}
use Rattle.std.specs.Fmt.{decimal}
use Rattle.std.specs.List.{list_all, list_any, position_or_len, before_first, after_first}
use Rattle.std.specs.Option.{option_map_or}
use Rattle.std.specs.Prelude.{codes, nat_lt, nat_le}
use Rattle.xc_base.proofs.Ipv4Lemmas.{IsIpv4-from_test, is_ipv4-from_IsIpv4, ipv4_bytes}
use Rattle.xc_base.proofs.Ipv6Lemmas.{IsIpv6-from_test, is_ipv6-from_IsIpv6, ipv6_bytes, ipv6_colon}
use Rattle.xc_base.proofs.JoinLemmas.{and_true, true_and, or_true, same_bool, other_byte, lacks_any, eqb_refl}
use Rattle.xc_base.proofs.NumberLemmas.{number_of-decimal, decimal-number_of}
use Rattle.xc_base.specs.Addresses.{IsIpv4, IsIpv6, IsNumericHost, IsPort, IsAddress, address_text, is_ipv4, is_ipv6, is_numeric_host, is_port, is_in_port_range, is_colon_port, is_ipv4_with_port, is_ipv6_with_port, is_address}
use Rattle.xc_base.specs.Numbers.{number_of}

-- hosts

pub IsNumericHost-from_test : (host : List ℕ) → is_numeric_host host ≡ true → IsNumericHost host
IsNumericHost-from_test host e = by_first (is_ipv4 host) (is_ipv6 host) refl refl e where
  by_first : (a b : Bool) → is_ipv4 host ≡ a → is_ipv6 host ≡ b → (a || b) ≡ true → IsNumericHost host
  by_first true b ea eb e = inl (IsIpv4-from_test host ea)
  by_first false true ea eb e = inr (IsIpv6-from_test host eb)
  by_first false false ea eb e = absurd (cc)

pub is_numeric_host-from_IsNumericHost : (host : List ℕ) → IsNumericHost host → is_numeric_host host ≡ true
is_numeric_host-from_IsNumericHost host (inl h) = rw (is_ipv4-from_IsIpv4 host h) refl
is_numeric_host-from_IsNumericHost host (inr h) = rw (is_ipv6-from_IsIpv6 host h) (or_true (is_ipv4 host))

-- an IPv4 host has no colon
pub ipv4_colon : (host : List ℕ) → IsIpv4 host → list_any (λ b. eqb b 58) host ≡ false
ipv4_colon host h = lacks_any (λ b. is_digit b 10 || eqb b 46) 58 host refl (ipv4_bytes host h)

-- ports

pub IsPort-from_range : (port : ℕ) → is_in_port_range port ≡ true → IsPort port
IsPort-from_range port e = let both = and_true (nat_lt 0 port) (nat_le port 65535) e in (grind (arith, nat_tests), grind (arith, nat_tests))

pub range-from_IsPort : (port : ℕ) → IsPort port → is_in_port_range port ≡ true
range-from_IsPort port h =
    let low = h.0 in let high = h.1 in
    true_and (nat_lt 0 port) (nat_le port 65535) (grind (arith, nat_tests)) (grind (arith, nat_tests))

port_of : (o : Option ℕ) → option_map_or is_in_port_range o false ≡ true → (n : ℕ) × (o ≡ Some n) × IsPort n
port_of None e = absurd (cc)
port_of (Some n) e = (n, refl, IsPort-from_range n e)

port_text : (text : List ℕ) → is_port text ≡ true → (n : ℕ) × (text ≡ decimal n) × IsPort n
unfolding is_port
port_text text e =
    let found = port_of (number_of text) e in
    (found.0, (decimal-number_of text found.0 found.1).0, found.2)

is_port-decimal : (n : ℕ) → IsPort n → is_port (decimal n) ≡ true
unfolding is_port
is_port-decimal n h =
    let small : n < 2 ^ 64 = let high = h.1 in omega arith in
    rw (number_of-decimal (decimal n) n refl small) (range-from_IsPort n h)

-- a port isn't empty
port_some : (text : List ℕ) → is_port text ≡ true → 0 < length text
port_some text e =
    let found = port_text text e in
    let small : found.0 < 2 ^ 64 = let high = found.2.1 in omega arith in
    let some = decimal_nonempty found.0 small in
    let same = ap length found.1 in omega arith

pub is_port-empty : is_port [] ≡ false
is_port-empty = same_bool (is_port []) false (λ e. absurd (let some = port_some [] e in omega arith)) (λ e. absurd (cc))

-- cuts at a byte

abbrev at : ℕ → ℕ → Bool
at c b = eqb b c

first_place : (c : ℕ) (q : ℕ → Bool) (x rest : List ℕ) → q c ≡ false → list_all q x ≡ true → position_or_len (at c) (x ++ c ∷ rest) ≡ length x
first_place c q [] rest out e = rw (eqb_refl c) refl
first_place c q (b ∷ bs) rest out e =
    let both = and_true (q b) (list_all q bs) e in
    rw (other_byte q b c both.0 out, first_place c q bs rest out both.1) (omega arith)

cut_at : (c : ℕ) (q : ℕ → Bool) (x rest : List ℕ) → q c ≡ false → list_all q x ≡ true → (before_first (at c) (x ++ c ∷ rest) ≡ x) × (after_first (at c) (x ++ c ∷ rest) ≡ rest)
cut_at c q x rest out e =
    let place = first_place c q x rest out e in
    (rw (place, take-append_seam x (c ∷ rest)) refl, rw (place, drop-append-add x (c ∷ rest) 1) refl)

-- where something stands after it, the byte is there
cut_text : (c : ℕ) (text : List ℕ) → 0 < length (after_first (at c) text) → text ≡ before_first (at c) text ++ c ∷ after_first (at c) text
cut_text c text some =
    let within : position_or_len (at c) text < length text = omega (arith, length-drop (position_or_len (at c) text + 1) text) in
    let same : get_or text (position_or_len (at c) text) 0 ≡ c = eqb-true _ c (passes_at_first (at c) text 0 within) in
    split_at_first (at c) text 0 within ∙ ap (λ b. before_first (at c) text ++ b ∷ after_first (at c) text) same

-- where it isn't, nothing stands after it
pub after_none : (c : ℕ) (text : List ℕ) → position_or_len (at c) text ≡ length text → after_first (at c) text ≡ []
after_none c text e = drop_all (position_or_len (at c) text + 1) text (omega arith)

-- the text of a host and a port
pub text_plain : (host : List ℕ) (port : ℕ) → list_any (λ b. eqb b 58) host ≡ false → address_text host port ≡ host ++ 58 ∷ decimal port
text_plain host port e = rw e (append_assoc host (codes ":") (decimal port))

pub text_bracketed : (host : List ℕ) (port : ℕ) → list_any (λ b. eqb b 58) host ≡ true → address_text host port ≡ 91 ∷ (host ++ 93 ∷ 58 ∷ decimal port)
text_bracketed host port e = rw e (simp append_assoc)

begins_with : (c : ℕ) (text : List ℕ) → 0 < c → eqb (get_or text 0 0) c ≡ true → text ≡ c ∷ drop 1 text
begins_with c [] some e = absurd (let same = eqb-true 0 c e in omega arith)
begins_with c (b ∷ bs) some e = ap (λ x. x ∷ bs) (eqb-true b c e)

-- IPv4 and a port

ipv4_address : (text : List ℕ) → is_ipv4_with_port text ≡ true → IsAddress text
ipv4_address text e =
    let both = and_true (is_ipv4 (before_first (at 58) text)) (is_port (after_first (at 58) text)) e in
    let host = IsIpv4-from_test (before_first (at 58) text) both.0 in
    let port = port_text (after_first (at 58) text) both.1 in
    record {
      host = before_first (at 58) text;
      port = port.0;
      numeric = inl host;
      in_range = port.2;
      spelled = cut_text 58 text (port_some (after_first (at 58) text) both.1)
          ∙ (ap (λ t. before_first (at 58) text ++ 58 ∷ t) port.1 ∙ sym (text_plain (before_first (at 58) text) port.0 (ipv4_colon (before_first (at 58) text) host)));
    }

ipv4_with_port : (host : List ℕ) (port : ℕ) → IsIpv4 host → IsPort port → is_ipv4_with_port (host ++ 58 ∷ decimal port) ≡ true
ipv4_with_port host port h p =
    let cut = cut_at 58 (λ b. is_digit b 10 || eqb b 46) host (decimal port) refl (ipv4_bytes host h) in
    rw (cut.0, cut.1, is_ipv4-from_IsIpv4 host h, is_port-decimal port p) refl

-- IPv6 in brackets and a port

ipv6_address : (text rest : List ℕ) → text ≡ 91 ∷ rest → is_ipv6_with_port rest ≡ true → IsAddress text
ipv6_address text rest begun e =
    let both = and_true (is_ipv6 (before_first (at 93) rest)) (is_colon_port (after_first (at 93) rest)) e in
    let after = and_true (eqb (get_or (after_first (at 93) rest) 0 0) 58) (is_port (drop 1 (after_first (at 93) rest))) both.1 in
    let host = IsIpv6-from_test (before_first (at 93) rest) both.0 in
    let port = port_text (drop 1 (after_first (at 93) rest)) after.1 in
    let colon = begins_with 58 (after_first (at 93) rest) (omega arith) after.0 in
    let some : 0 < length (after_first (at 93) rest) = let long = ap length colon in omega arith in
    record {
      host = before_first (at 93) rest;
      port = port.0;
      numeric = inr host;
      in_range = port.2;
      spelled = begun ∙ (ap (λ t. 91 ∷ t) (cut_text 93 rest some ∙ ap (λ t. before_first (at 93) rest ++ 93 ∷ t) (colon ∙ ap (λ t. 58 ∷ t) port.1))
          ∙ sym (text_bracketed (before_first (at 93) rest) port.0 (ipv6_colon (before_first (at 93) rest) host)));
    }

ipv6_with_port : (host : List ℕ) (port : ℕ) → IsIpv6 host → IsPort port → is_ipv6_with_port (host ++ 93 ∷ 58 ∷ decimal port) ≡ true
ipv6_with_port host port h p =
    let cut = cut_at 93 (λ b. is_digit b 16 || eqb b 58) host (58 ∷ decimal port) refl (ipv6_bytes host h) in
    rw (cut.0, cut.1, is_ipv6-from_IsIpv6 host h, is_port-decimal port p) refl

-- the test finds just what the definition says

pub IsAddress-from_test : (text : List ℕ) → is_address text ≡ true → IsAddress text
unfolding is_address
IsAddress-from_test text e = by_first (eqb (get_or text 0 0) 91) refl e where
  by_first : (t : Bool) → eqb (get_or text 0 0) 91 ≡ t → cond t (is_ipv6_with_port (drop 1 text)) (is_ipv4_with_port text) ≡ true → IsAddress text
  by_first true first e = ipv6_address text (drop 1 text) (begins_with 91 text (omega arith) first) e
  by_first false first e = ipv4_address text e

digit_first : (host rest : List ℕ) → IsIpv4 host → eqb (get_or (host ++ 58 ∷ rest) 0 0) 91 ≡ false
digit_first host rest h = by_bytes host (ipv4_bytes host h) where
  by_bytes : (x : List ℕ) → list_all (λ b. is_digit b 10 || eqb b 46) x ≡ true → eqb (get_or (x ++ 58 ∷ rest) 0 0) 91 ≡ false
  by_bytes [] e = refl
  by_bytes (b ∷ bs) e = other_byte (λ b. is_digit b 10 || eqb b 46) b 91 (and_true (is_digit b 10 || eqb b 46) (list_all (λ b. is_digit b 10 || eqb b 46) bs) e).0 refl

pub is_address-text : (host : List ℕ) (port : ℕ) → IsNumericHost host → IsPort port → is_address (address_text host port) ≡ true
unfolding is_address
is_address-text host port (inl h) p =
    ap is_address (text_plain host port (ipv4_colon host h))
    ∙ rw (digit_first host (decimal port) h) (ipv4_with_port host port h p)
is_address-text host port (inr h) p =
    ap is_address (text_bracketed host port (ipv6_colon host h)) ∙ ipv6_with_port host port h p

pub is_address-from_IsAddress : (text : List ℕ) → IsAddress text → is_address text ≡ true
is_address-from_IsAddress text h = ap is_address h.spelled ∙ is_address-text h.host h.port h.numeric h.in_range

-- what the functions find at each way out

not_begun : (c : ℕ) (text : List ℕ) → 0 < c → ((rest : List ℕ) → text ≢ c ∷ rest) → eqb (get_or text 0 0) c ≡ false
not_begun c [] some h = grind (arith, nat_tests)
not_begun c (b ∷ bs) some h = same_bool (eqb b c) false (λ e. absurd (h bs (ap (λ x. x ∷ bs) (eqb-true b c e)))) (λ e. absurd (cc))

pub no_colon_port : (text : List ℕ) → ((rest : List ℕ) → text ≢ 58 ∷ rest) → false ≡ is_colon_port text
no_colon_port text h = rw (not_begun 58 text (omega arith) h) refl

and_false : (a : Bool) → (a && false) ≡ false
and_false true = refl
and_false false = refl

pub no_ipv4_port : (text : List ℕ) → position_or_len (λ b. eqb b 58) text ≡ length text → false ≡ is_ipv4_with_port text
no_ipv4_port text e = sym (rw (after_none 58 text e, is_port-empty) (and_false (is_ipv4 (before_first (at 58) text))))

pub is_address-bracketed : (text rest : List ℕ) → text ≡ 91 ∷ rest → is_ipv6_with_port rest ≡ is_address text
unfolding is_address
is_address-bracketed text rest e = rw e refl

pub is_address-plain : (text : List ℕ) → ((rest : List ℕ) → text ≢ 91 ∷ rest) → is_ipv4_with_port text ≡ is_address text
unfolding is_address
is_address-plain text h = rw (not_begun 91 text (omega arith) h) refl

pub host_tested : (host : List ℕ) (found : Bool) → found ≡ is_numeric_host host → (found ≡ true → IsNumericHost host) × (IsNumericHost host → found ≡ true)
host_tested host found e = (λ h. IsNumericHost-from_test host (sym e ∙ h), λ h. e ∙ is_numeric_host-from_IsNumericHost host h)

pub address_tested : (text : List ℕ) (found : Bool) → found ≡ is_address text → (found ≡ true → IsAddress text) × (IsAddress text → found ≡ true)
address_tested text found e = (λ h. IsAddress-from_test text (sym e ∙ h), λ h. e ∙ is_address-from_IsAddress text h)
