-- How many bytes the length-delimited payloads have.
use Rattle.std.proofs.Common.{◌≡◌, ◌≤◌, ◌<◌, ℕ, zero, suc, ◌+◌, List, [], ◌∷◌, ◌++◌, length, drop, get_or, Bool, true, false, cond, Option, Some, None, refl, ap, sym, arith, eqb}
use Rattle.std.specs.Prelude.{filter, IfSome}
use Rattle.std.specs.List.{filter_map, concat, cons_option}
use Rattle.std.proofs.lemmas.List.{length-append}
use Rattle.std.proofs.lemmas.List.Sums.{sum_by-cons, sum_by_push}
use Rattle.proto_wire.specs.declared.field.Field.{Field}
use Rattle.proto_wire.specs.View.{view, views}
use Rattle.proto_wire.specs.Wire.{WireField, Payload, varint, eight, bytes, four}
use Rattle.proto_wire.specs.FieldValues.{delimited_len, payload_len, bytes_at, bytes_of, repeated, joined, joined_of}

pub delimited_len-none : delimited_len [] ≡ 0
unfolding delimited_len
delimited_len-none = refl

pub delimited_len-cons : (f : WireField) (fs : List WireField) → delimited_len (f ∷ fs) ≡ payload_len f.payload + delimited_len fs
unfolding delimited_len
delimited_len-cons f fs = sum_by-cons (λ (g : WireField). payload_len g.payload) f fs

pub delimited_len-push : (fs : List WireField) (f : WireField) → delimited_len (fs ++ f ∷ []) ≡ delimited_len fs + payload_len f.payload
unfolding delimited_len
delimited_len-push fs f = sum_by_push (λ (g : WireField). payload_len g.payload) fs f

pub delimited_len-drop : (n : ℕ) (fs : List WireField) → delimited_len (drop n fs) ≤ delimited_len fs
delimited_len-drop zero fs = omega arith
delimited_len-drop (suc n) [] = omega arith
delimited_len-drop (suc n) (f ∷ fs) = let h = delimited_len-drop n fs in rw delimited_len-cons (omega arith)

kept : (f : WireField) (fs gs : List WireField) (b : Bool) → delimited_len gs ≤ delimited_len fs → delimited_len (cond b (f ∷ gs) gs) ≤ delimited_len (f ∷ fs)
kept f fs gs true h = rw (delimited_len-cons f gs, delimited_len-cons f fs) (omega arith)
kept f fs gs false h = rw delimited_len-cons (omega arith)

pub delimited_len-filter : (p : WireField → Bool) (fs : List WireField) → delimited_len (filter p fs) ≤ delimited_len fs
delimited_len-filter p [] = omega arith
delimited_len-filter p (f ∷ fs) = kept f fs (filter p fs) (p f) (delimited_len-filter p fs)

held : (p : Payload) (b : List ℕ) → bytes_of p ≡ Some b → length b ≤ payload_len p
held (varint v) b e = cc
held (eight v) b e = cc
held (bytes a) b e = let same : a ≡ b = cc in omega (arith, ap length same)
held (four v) b e = cc

chosen : (t : Bool) (o : Option (List ℕ)) (b : List ℕ) → cond t o None ≡ Some b → o ≡ Some b
chosen true o b e = e
chosen false o b e = cc

pub bytes_at-within : (number : ℕ) (f : WireField) (b : List ℕ) → bytes_at number f ≡ Some b → length b ≤ payload_len f.payload
bytes_at-within number f b e = held f.payload b (chosen (eqb f.number number) (bytes_of f.payload) b e)

-- the bytes of one of the fields
pub item-within : (number : ℕ) (fs : List Field) (i : ℕ) (d : Field) (b : List ℕ) → i < length fs → Some b ≡ bytes_at number (view (get_or fs i d)) → length b ≤ delimited_len (views fs)
item-within number [] i d b lt e = absurd (omega arith)
item-within number (f ∷ fs) zero d b lt e = let h = bytes_at-within number (view f) b (sym e) in rw (delimited_len-cons (view f) (views fs)) (omega arith)
item-within number (f ∷ fs) (suc i) d b lt e = let h = item-within number fs i d b (omega arith) e in rw (delimited_len-cons (view f) (views fs)) (omega arith)

one_more : (o : Option (List ℕ)) (bs : List (List ℕ)) (n m : ℕ) → ((b : List ℕ) → o ≡ Some b → length b ≤ n) → length (concat bs) ≤ m → length (concat (cons_option o bs)) ≤ n + m
one_more None bs n m h g = omega arith
one_more (Some b) bs n m h g = let k = h b refl in rw length-append (omega arith)

pub all-within : (number : ℕ) (fs : List WireField) → length (concat (repeated number fs)) ≤ delimited_len fs
unfolding repeated
all-within number [] = omega arith
all-within number (f ∷ fs) =
    rw (delimited_len-cons f fs)
    (one_more (bytes_at number f) (filter_map (bytes_at number) fs) (payload_len f.payload) (delimited_len fs) (bytes_at-within number f) (all-within number fs))

joined_of-within : (bs : List (List ℕ)) (n : ℕ) → length (concat bs) ≤ n → IfSome (joined_of bs) (λ b. length b ≤ n)
joined_of-within [] n h = tt
joined_of-within (b ∷ bs) n h = h

-- the bytes of a singular message
pub joined-within : (number : ℕ) (fs : List WireField) → IfSome (joined number fs) (λ b. length b ≤ delimited_len fs)
unfolding joined
joined-within number fs = joined_of-within (repeated number fs) (delimited_len fs) (all-within number fs)
