-- The members of a oneof.
use Rattle.std.proofs.Common.{◌≡◌, ◌≢◌, ◌≤◌, ◌<◌, ℕ, ◌+◌, ◌-◌, List, [], ◌∷◌, ◌++◌, length, drop, take, get_or, Bool, true, false, eqb, cond, ap, sym, ◌∙◌, arith, append_assoc, append-nil}
use Rattle.std.specs.Prelude.{filter}
use Rattle.std.specs.List.{list_any, suffix_len}
use Rattle.std.proofs.lemmas.Bool.Decides.{nat_tests}
use Rattle.std.proofs.lemmas.List.{length-map, get_or-map, drop-map, take_rest, map-append, drop_all}
use Rattle.std.proofs.lemmas.List.Sums.{suffix_len_is}
use Rattle.proto_wire.specs.declared.field.Field.{Field}
use Rattle.proto_wire.specs.declared.field.Body.TheVariants.{Varint}
use Rattle.proto_wire.specs.declared.field.Member.{Member}
use Rattle.proto_wire.specs.View.{view, views}
use Rattle.proto_wire.specs.Wire.{WireField}
use Rattle.proto_wire.specs.FieldValues.{occurrences, is_of, last_run, delimited_len}
use Rattle.proto_wire.proofs.Lists.{map_drop_more}
use Rattle.proto_wire.proofs.LenLemmas.{delimited_len-filter}

tested : (f : WireField) (fs : List WireField) (t b : Bool) → t ≡ b → cond t (f ∷ fs) fs ≡ cond b (f ∷ fs) fs
tested f fs t b e = ap (λ (c : Bool). cond c (f ∷ fs) fs) e

occurrences-more : (members : List Member) (fs : List Field) (i : ℕ) (d : Field) (b : Bool) → i < length fs → b ≡ list_any (is_of (view (get_or fs i d))) members
    → occurrences members (views (drop i fs)) ≡ cond b (view (get_or fs i d) ∷ occurrences members (views (drop (i + 1) fs))) (occurrences members (views (drop (i + 1) fs)))
unfolding occurrences
occurrences-more members fs i d b lt e =
    ap (λ (l : List WireField). filter (λ f. list_any (is_of f) members) l) (map_drop_more view fs i d lt)
    ∙ tested (view (get_or fs i d)) (filter (λ f. list_any (is_of f) members) (views (drop (i + 1) fs))) _ _ (sym e)

-- a field that is an occurrence goes to the end of those so far
pub occurrences-yes : (members : List Member) (prefix next : List Field) (fs : List Field) (i : ℕ) (d : Field) → i < length fs → true ≡ list_any (is_of (view (get_or fs i d))) members
    → next ≡ prefix ++ get_or fs i d ∷ [] → views next ++ occurrences members (views (drop (i + 1) fs)) ≡ views prefix ++ occurrences members (views (drop i fs))
occurrences-yes members prefix next fs i d lt e is =
    ap (λ (l : List Field). views l ++ occurrences members (views (drop (i + 1) fs))) is
    ∙ (ap (λ (l : List WireField). l ++ occurrences members (views (drop (i + 1) fs))) (map-append view prefix (get_or fs i d ∷ []))
    ∙ (append_assoc (views prefix) (view (get_or fs i d) ∷ []) (occurrences members (views (drop (i + 1) fs)))
    ∙ ap (λ (l : List WireField). views prefix ++ l) (sym (occurrences-more members fs i d true lt e))))

pub occurrences-no : (members : List Member) (prefix : List Field) (fs : List Field) (i : ℕ) (d : Field) → i < length fs → false ≡ list_any (is_of (view (get_or fs i d))) members
    → views prefix ++ occurrences members (views (drop (i + 1) fs)) ≡ views prefix ++ occurrences members (views (drop i fs))
occurrences-no members prefix fs i d lt e = ap (λ (l : List WireField). views prefix ++ l) (sym (occurrences-more members fs i d false lt e))

-- all occurrences were found
pub occurrences-within : (members : List Member) (all fs : List Field) (i : ℕ) → length fs ≤ i → views all ++ occurrences members (views (drop i fs)) ≡ occurrences members (views fs)
    → delimited_len (views all) ≤ delimited_len (views fs)
unfolding occurrences
occurrences-within members all fs i le e =
    let same : views all ≡ filter (λ f. list_any (is_of f) members) (views fs) = rw (drop_all i fs le, append-nil) at e in
    rw same (delimited_len-filter (λ f. list_any (is_of f) members) (views fs))

-- a field for the places past the end
abbrev pub some_field : Field
some_field = record { at = 0; number = 0; body = Varint 0 }

number_at : (fs : List Field) (k : ℕ) (d : WireField) → k < length fs → get_or (views fs) k d ≡ view (get_or fs k some_field)
number_at fs k d lt = get_or-map view fs k some_field d lt

-- each field from n on has the number, and the one before n hasn't
pub last_run-is : (number : ℕ) (fs : List Field) (n : ℕ) → n ≤ length fs → ((k : ℕ) (d : Field) → n ≤ k → k < length fs → (get_or fs k d).number ≡ number)
    → (0 < n → (get_or fs (n - 1) some_field).number ≢ number) → views (take (length fs - n) (drop n fs)) ≡ last_run number (views fs)
unfolding last_run
last_run-is number fs n le here before =
    let d = view some_field in
    let same : length (views fs) ≡ length fs = length-map fs view in
    let len : suffix_len (λ (f : WireField). eqb f.number number) (views fs) ≡ length (views fs) - n =
    suffix_len_is (λ (f : WireField). eqb f.number number) (views fs) n d (omega (arith, same))
    (λ k from to. let lt : k < length fs = omega (arith, same, to) in let is = here k some_field from lt in
    ap (λ (f : WireField). eqb f.number number) (number_at fs k d lt) ∙ (let e : eqb (get_or fs k some_field).number number ≡ true = grind (arith, nat_tests, is) in e))
    (λ some. let lt : n - 1 < length fs = omega (arith, some, le) in let ne = before some in
    ap (λ (f : WireField). eqb f.number number) (number_at fs (n - 1) d lt) ∙ (let e : eqb (get_or fs (n - 1) some_field).number number ≡ false = grind (arith, nat_tests, ne) in e)) in
    let place : length (views fs) - suffix_len (λ (f : WireField). eqb f.number number) (views fs) ≡ n = omega (arith, len, same, le) in
    ap views (take_rest fs n) ∙ (sym (drop-map view n fs) ∙ ap (λ k. drop k (views fs)) (sym place))
