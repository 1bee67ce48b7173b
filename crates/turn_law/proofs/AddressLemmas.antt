-- The text of an address has no line feed.
use Rattle.std.proofs.Common.{◌≡◌, ℕ, List, [], ◌∷◌, ◌++◌, All, Bool, true, false, cond, eqb, ◌&&◌, inl, inr, Option, Some, None, codes, refl, sym, ap, ◌∙◌, subst, arith}
use Rattle.std.specs.Char.{is_digit}
use Rattle.std.specs.List.{join_with_byte, list_all, list_any}
use Rattle.std.specs.Option.{option_map_or}
use Rattle.std.specs.Prelude.{nat_le}
use Rattle.std.proofs.lemmas.Bool.Decides.{nat_tests}
use Rattle.std.proofs.lemmas.List.Elements.{All-head, All-tail, All-weaker}
use Rattle.xc_base.specs.Addresses.{AreGroups, IsAddress, IsIpv6, IsJoined, IsNumericHost, address_in, is_address, is_group, is_number_up_to}
use Rattle.xc_base.specs.Numbers.{number_of}
use Rattle.xc_base.proofs.LowerAddress.{addresses_are_numeric}
use Rattle.xc_base.proofs.NumberLemmas.{numbers_are_decimal}
use Rattle.text_law.proofs.Texts.{lacks}
use Rattle.turn_law.proofs.FeedLemmas.{NoFeed, ◌⊕◌, literal, nothing, number}

-- ---- parts

number_by : (most : ℕ) (text : List ℕ) (found : Option ℕ) → number_of text ≡ found → option_map_or (λ n. nat_le n most) found false ≡ true → NoFeed text
number_by most text None e h = absurd (cc h)
number_by most text (Some n) e h = subst NoFeed (sym ((numbers_are_decimal text n).0 e).0) (number n)

number_part : (most : ℕ) (text : List ℕ) → is_number_up_to most text ≡ true → NoFeed text
unfolding is_number_up_to
number_part most text h = number_by most text (number_of text) refl h

digit_by : (t : Bool) (b : ℕ) → eqb b 10 ≡ t → is_digit b 16 ≡ true → eqb b 10 ≡ false
digit_by false b e h = e
digit_by true b e h =
    let same : b ≡ 10 = grind (arith, nat_tests, e) in
    let none : true ≡ false = sym h ∙ ap (λ c. is_digit c 16) same in
    absurd (cc none)

first_and : (a b : Bool) → a && b ≡ true → (a ≡ true) × (b ≡ true)
first_and true b h = (refl, h)
first_and false b h = absurd (cc h)

digits : (text : List ℕ) → list_all (λ b. is_digit b 16) text ≡ true → lacks 10 text ≡ true
digits [] h = refl
digits (b ∷ bs) h =
    let both = first_and (is_digit b 16) (list_all (λ c. is_digit c 16) bs) h in
    let other : eqb b 10 ≡ false = digit_by (eqb b 10) b refl both.0 in
    let more : lacks 10 bs ≡ true = digits bs both.1 in
    grind (arith, other, more)

group_part : (text : List ℕ) → is_group text ≡ true → NoFeed text
group_part text h = let all : list_all (λ b. is_digit b 16) text ≡ true = grind (arith, h) in literal text (digits text all)

-- ---- hosts

join : (byte : ℕ) (parts : List (List ℕ)) → eqb byte 10 ≡ false → All NoFeed parts → NoFeed (join_with_byte byte parts)
join byte [] other are = nothing
join byte (x ∷ []) other are = All-head NoFeed x [] are
join byte (x ∷ y ∷ xs) other are =
    let one : NoFeed (byte ∷ []) = literal (byte ∷ []) (grind (arith, other)) in
    All-head NoFeed x (y ∷ xs) are ⊕ (one ⊕ join byte (y ∷ xs) other (All-tail NoFeed x (y ∷ xs) are))

joined : (byte : ℕ) (test : List ℕ → Bool) (n : ℕ) (text : List ℕ) → eqb byte 10 ≡ false → ((part : List ℕ) → test part ≡ true → NoFeed part) → IsJoined byte test n text → NoFeed text
joined byte test n text other part h = subst NoFeed (sym h.spelled) (join byte h.parts other (All-weaker (λ p. test p ≡ true) NoFeed part h.parts h.passes))

groups : (n : ℕ) (text : List ℕ) → AreGroups n text → NoFeed text
groups n text h = joined 58 is_group n text refl group_part h

ipv6 : (host : List ℕ) → IsIpv6 host → NoFeed host
ipv6 host (inl h) = groups 8 host h
ipv6 host (inr h) = subst NoFeed (sym h.spelled) (groups h.m h.before h.before_groups ⊕ literal (codes "::") refl ⊕ groups h.n h.after h.after_groups)

numeric : (host : List ℕ) → IsNumericHost host → NoFeed host
numeric host (inl h) = joined 46 (is_number_up_to 255) 4 host refl (number_part 255) h
numeric host (inr h) = ipv6 host h

-- ---- addresses

bracketed : (b : Bool) (host : List ℕ) → NoFeed host → NoFeed (cond b (codes "[" ++ host ++ codes "]") host)
bracketed true host h = literal (codes "[") refl ⊕ h ⊕ literal (codes "]") refl
bracketed false host h = h

spelled : (text : List ℕ) → IsAddress text → NoFeed text
spelled text h = subst NoFeed (sym h.spelled) (bracketed (list_any (λ b. eqb b 58) h.host) h.host (numeric h.host h.numeric) ⊕ literal (codes ":") refl ⊕ number h.port)

passed : (b : Bool) (one other : List ℕ) → cond b (Some one) None ≡ Some other → b ≡ true
passed true one other e = refl
passed false one other e = absurd (cc e)

address_by : (address : List ℕ) → address_in address ≡ Some address → NoFeed address
unfolding address_in
address_by address e = spelled address ((addresses_are_numeric.addresses address).0 (passed (is_address address) _ address e))

-- the address that a word spells
pub address_feed : (word address : List ℕ) → address_in word ≡ Some address → NoFeed address
address_feed word address e = address_by address (addresses_are_numeric.stays word address e)
