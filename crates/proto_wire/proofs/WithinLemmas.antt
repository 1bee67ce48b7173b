-- What is read of a message is no longer than its bytes.
use Rattle.std.proofs.Common.{◌≡◌, ◌≤◌, ℕ, ◌+◌, List, [], ◌∷◌, length, Option, Some, None, Result, Ok, Err, refl, ap, subst, ◌∙◌, arith}
use Rattle.std.specs.Prelude.{unwrap_or, All, IfSome}
use Rattle.std.specs.List.{concat, cons_option, last_or, AllByRecursion}
use Rattle.std.proofs.lemmas.List.{length-append}
use Rattle.std.proofs.lemmas.List.Elements.{All-from_recursion}
use Rattle.proto_wire.specs.Reading.{◌>>=◌, gathered, optional}
use Rattle.proto_wire.specs.Spells.{SpellsPayload, SpellsField, SpellFrom}
use Rattle.proto_wire.specs.FieldValues.{bytes_at, delimited_len, joined, last_bytes, payload_len, read_repeated, read_singular, repeated}
use Rattle.proto_wire.specs.Wire.{Payload, WireField, varint, eight, bytes, four, fields}
use Rattle.proto_wire.proofs.LenLemmas.{all-within, bytes_at-within, delimited_len-cons, delimited_len-none, joined-within}
use Rattle.proto_wire.proofs.ListSpelling.{all_spelled}

payload-within : (payload : Payload) (bs : List ℕ) → SpellsPayload payload bs → payload_len payload ≤ length bs
payload-within (varint v) bs h = omega arith
payload-within (eight v) bs h = omega arith
payload-within (bytes b) bs h = let e = ap length h.2 ∙ length-append h.0 b in omega (arith, e)
payload-within (four v) bs h = omega arith

field-within : (number : ℕ) (payload : Payload) (bs : List ℕ) → SpellsField number payload bs → payload_len payload ≤ length bs
field-within number payload bs h =
    let e = ap length h.split ∙ length-append h.tag h.body in
    let le = payload-within payload h.body h.behind in
    omega (arith, e, le)

spelled-within : (fs : List WireField) (at : ℕ) (bs : List ℕ) → SpellFrom at fs bs → delimited_len fs ≤ length bs
spelled-within [] at bs h = rw delimited_len-none (omega arith)
spelled-within (f ∷ fs) at bs h =
    let e = ap length h.2 ∙ length-append h.0 h.1 in
    let first = field-within f.number f.payload h.0 h.4 in
    let others = spelled-within fs (at + length h.0) h.1 h.5 in
    rw delimited_len-cons (omega (arith, e, first, others))

-- what the fields of bytes hold lies in the bytes
pub fields-within : (bs : List ℕ) (fs : List WireField) → fields bs ≡ Ok fs → delimited_len fs ≤ length bs
fields-within bs fs e = spelled-within fs 0 bs (all_spelled bs fs e)

last-within : (o : Option (List ℕ)) (bs : List (List ℕ)) (n : ℕ) → length (unwrap_or o []) ≤ n → length (concat bs) ≤ n → length (unwrap_or (last_or o bs) []) ≤ n
last-within o [] n h g = h
last-within o (b ∷ bs) n h g = let e = length-append b (concat bs) in last-within (Some b) bs n (omega (arith, e, g)) (omega (arith, e, g))

pub last_bytes-within : (number : ℕ) (fs : List WireField) → length (last_bytes number fs) ≤ delimited_len fs
unfolding last_bytes
last_bytes-within number fs = last-within None (repeated number fs) (delimited_len fs) (omega arith) (all-within number fs)

-- two steps of a reading that gave a value
pub both_ok : {A B C : Type 0} (r : Result A ℕ) (g : A → Result B ℕ) (z : B) → (r >>= g) ≡ Ok z → ((x : A) → r ≡ Ok x → g x ≡ Ok z → C) → C
both_ok (Ok x) g z e k = k x refl e
both_ok (Err at) g z e k = absurd (cc)

-- what is read has at most the size of its bytes
abbrev pub IsBounded : {A : Type 0} → (List ℕ → Result A ℕ) → (A → ℕ) → Type 0
IsBounded {A} reading size = (bs : List ℕ) (x : A) → reading bs ≡ Ok x → size x ≤ length bs

item : {A : Type 0} (reading : List ℕ → Result A ℕ) (size : A → ℕ) → IsBounded reading size → (o : Option (List ℕ)) (most : ℕ) → ((b : List ℕ) → o ≡ Some b → length b ≤ most)
    → (y : Option A) → optional reading o ≡ Ok y → (x : A) → y ≡ Some x → size x ≤ most
unfolding optional
item reading size h None most le y e x is = absurd (cc)
item {A} reading size h (Some b) most le y e x is =
    both_ok (reading b) (λ (z : A). Ok (Some z)) y e (λ z reads e'.
    let same : z ≡ x = cc in
    let sized = ap size same in
    let bound = h b z reads in
    let short = le b refl in
    omega (arith, sized, bound, short))

one_more : {A : Type 0} (size : A → ℕ) (most : ℕ) (y : Option A) (ys : List A) → ((x : A) → y ≡ Some x → size x ≤ most) → AllByRecursion (λ x. size x ≤ most) ys
    → AllByRecursion (λ x. size x ≤ most) (cons_option y ys)
one_more size most None ys h g = g
one_more size most (Some x) ys h g = (h x refl, g)

all_bounded : {A : Type 0} (reading : List ℕ → Result A ℕ) (size : A → ℕ) → IsBounded reading size → (number most : ℕ) (fs : List WireField) (xs : List A) → delimited_len fs ≤ most
    → gathered (λ f. optional reading (bytes_at number f)) fs ≡ Ok xs → AllByRecursion (λ x. size x ≤ most) xs
unfolding gathered
all_bounded {A} reading size h number most [] xs le e = let none : [] ≡ xs = cc in subst (λ (l : List A). AllByRecursion (λ x. size x ≤ most) l) none tt
all_bounded {A} reading size h number most (f ∷ fs) xs le e =
    let len = delimited_len-cons f fs in
    both_ok (optional reading (bytes_at number f)) (λ (y : Option A). gathered (λ g. optional reading (bytes_at number g)) fs >>= λ (ys : List A). Ok (cons_option y ys)) xs e (λ y is e'.
    both_ok (gathered (λ g. optional reading (bytes_at number g)) fs) (λ (ys : List A). Ok (cons_option y ys)) xs e' (λ ys are e''.
    let same : cons_option y ys ≡ xs = cc in
    let short : (x : A) → y ≡ Some x → size x ≤ most = item reading size h (bytes_at number f) most (λ b at. let w = bytes_at-within number f b at in omega (arith, w, len, le)) y is in
    subst (λ (l : List A). AllByRecursion (λ x. size x ≤ most) l) same
    (one_more size most y ys short (all_bounded reading size h number most fs ys (omega (arith, len, le)) are))))

-- each of the repeated messages of a number, where the fields lie in so many bytes
pub read_repeated-within : {A : Type 0} (reading : List ℕ → Result A ℕ) (size : A → ℕ) → IsBounded reading size → (number most : ℕ) (fs : List WireField) (xs : List A) → delimited_len fs ≤ most
    → read_repeated reading number fs ≡ Ok xs → All (λ x. size x ≤ most) xs
unfolding read_repeated
read_repeated-within reading size h number most fs xs le e = All-from_recursion (λ x. size x ≤ most) xs (all_bounded reading size h number most fs xs le e)

held : (o : Option (List ℕ)) (n : ℕ) → IfSome o (λ b. length b ≤ n) → (b : List ℕ) → o ≡ Some b → length b ≤ n
held None n h b e = absurd (cc)
held (Some a) n h b e = let same : a ≡ b = cc in omega (arith, h, ap length same)

given : {A : Type 0} (size : A → ℕ) (most : ℕ) (y : Option A) → ((x : A) → y ≡ Some x → size x ≤ most) → IfSome y (λ x. size x ≤ most)
given size most None h = tt
given size most (Some x) h = h x refl

-- the singular message of a number
pub read_singular-within : {A : Type 0} (reading : List ℕ → Result A ℕ) (size : A → ℕ) → IsBounded reading size → (number most : ℕ) (fs : List WireField) (y : Option A) → delimited_len fs ≤ most
    → read_singular reading number fs ≡ Ok y → IfSome y (λ x. size x ≤ most)
read_singular-within reading size h number most fs y le e =
    given size most y (item reading size h (joined number fs) most (λ b is. let w = held (joined number fs) (delimited_len fs) (joined-within number fs) b is in omega (arith, w, le)) y e)
