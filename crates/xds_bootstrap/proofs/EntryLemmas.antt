-- Entries of authorities, one by one.
use Rattle.std.proofs.Common.{◌≡◌, ◌<◌, ◌≤◌, ◌+◌, ℕ, List, [], ◌∷◌, ◌++◌, length, map, drop, get_or, Bool, true, false, eqb, ltb, Bor, Option, Some, None, Result, Ok, Err, refl, sym, ap, ◌∙◌, arith}
use Rattle.std.proofs.lemmas.Bool.Decides.{nat_tests}
use Rattle.std.proofs.lemmas.Str.{utf8_valid_len-IsUtf8}
use Rattle.std.proofs.lemmas.List.{drop_more, drop_all}
use Rattle.std.specs.Prelude.{String, string_bytes, codes, IsUtf8}
use Rattle.std.specs.Str.Lossy.{utf8_valid_len}
use Rattle.std.specs.declared.alloc.Global.{Global}
use Rattle.serde_json.specs.Data.{Data, Members, no_members, member}
use Rattle.serde_json.specs.Find.{as_array}
use Rattle.serde_json.specs.Read.{read}
use Rattle.serde_json.specs.View.{view, items_view, members_view}
use Rattle.serde_json.specs.declared.value.Value.{Value}
use Rattle.xds_bootstrap.specs.Document.{entries_from, entry_of, is_no_item, is_empty_list, count, document_of, entries_in, named_after, Fails}
use Rattle.xds_bootstrap.specs.BootViews.{seen_members}
use Rattle.xds_bootstrap.specs.declared.bootstrap.AuthorityEntry.{AuthorityEntry}
use Rattle.xds_bootstrap.specs.declared.boot_fault.BootFault.{BootFault}
use Rattle.xds_bootstrap.specs.declared.boot_fault.BootFault.TheVariants.{NotJson, Missing, WrongKind, Memory}

no_item_of : (list : List Value) → eqb (length list) 0 ≡ is_no_item (Some (items_view list))
no_item_of [] = refl
no_item_of (v ∷ vs) = grind (arith, nat_tests)

pub empty_list : (t : Bool) (list : List Value) (d : Data) → Some (items_view list) ≡ as_array d → t ≡ eqb (length list) 0 → t ≡ is_empty_list d
empty_list t list d is e = e ∙ no_item_of list ∙ ap is_no_item is

-- ---- faults

pub fails_on : {A B : Type 0} (e : BootFault) (r : Result A BootFault) (s : Result B BootFault) → ((f : BootFault) → r ≡ Err f → s ≡ Err f) → Fails e r → Fails e s
fails_on NotJson r s on h = on NotJson h
fails_on (Missing name) r s on h = on (Missing name) h
fails_on (WrongKind name) r s on h = on (WrongKind name) h
fails_on Memory r s on h = tt

-- ---- one entry after another

abbrev Pair : Type 0
Pair = Bor (String Global) × Bor Value

unfolded : (before : List AuthorityEntry) (top : List ℕ) (pairs : List Pair) (i : ℕ) (x : Pair) → i < length pairs → x ≡ get_or pairs i x
    → entries_from before top (seen_members (drop i pairs)) ≡ entries_from before top (member (string_bytes x.0.now) (view x.1.now) (seen_members (drop (i + 1) pairs)))
unfolded before top pairs i x lt is =
    ap (λ ps. entries_from before top (seen_members ps)) (drop_more pairs i x lt ∙ ap (λ y. y ∷ drop (i + 1) pairs) (sym is))

bound : (before : List AuthorityEntry) (top name : List ℕ) (d : Data) (ms : Members) (entry : AuthorityEntry) → entry_of top name d ≡ Ok entry
    → entries_from before top (member name d ms) ≡ entries_from (before ++ entry ∷ []) top ms
unfolding entries_from
bound before top name d ms entry is = rw is refl

failed : (before : List AuthorityEntry) (top name : List ℕ) (d : Data) (ms : Members) (f : BootFault) → entry_of top name d ≡ Err f
    → entries_from before top (member name d ms) ≡ Err f
unfolding entries_from
failed before top name d ms f is = rw is refl

pub entries_more : (before new : List AuthorityEntry) (top own name : List ℕ) (pairs : List Pair) (i : ℕ) (x : Pair) (entry : AuthorityEntry) (start : Result (List AuthorityEntry) BootFault)
    → i < length pairs → x ≡ get_or pairs i x → own ≡ top → name ≡ string_bytes x.0.now → entry_of own name (view x.1.now) ≡ Ok entry
    → new ≡ before ++ entry ∷ [] → entries_from before top (seen_members (drop i pairs)) ≡ start
    → entries_from new top (seen_members (drop (i + 1) pairs)) ≡ start
entries_more before new top own name pairs i x entry start lt is same named found pushed so_far =
    ap (λ es. entries_from es top (seen_members (drop (i + 1) pairs))) pushed
    ∙ sym (bound before top (string_bytes x.0.now) (view x.1.now) (seen_members (drop (i + 1) pairs)) entry (ap (λ n. entry_of top n (view x.1.now)) (sym named) ∙ ap (λ t. entry_of t name (view x.1.now)) (sym same) ∙ found))
    ∙ sym (unfolded before top pairs i x lt is)
    ∙ so_far

pub entries_fail : (before : List AuthorityEntry) (top own name : List ℕ) (pairs : List Pair) (i : ℕ) (x : Pair) (start : Result (List AuthorityEntry) BootFault)
    → i < length pairs → x ≡ get_or pairs i x → own ≡ top → name ≡ string_bytes x.0.now
    → entries_from before top (seen_members (drop i pairs)) ≡ start
    → (f : BootFault) → entry_of own name (view x.1.now) ≡ Err f → start ≡ Err f
entries_fail before top own name pairs i x start lt is same named so_far f found =
    sym so_far
    ∙ unfolded before top pairs i x lt is
    ∙ failed before top (string_bytes x.0.now) (view x.1.now) (seen_members (drop (i + 1) pairs)) f (ap (λ n. entry_of top n (view x.1.now)) (sym named) ∙ ap (λ t. entry_of t name (view x.1.now)) (sym same) ∙ found)

pub entries_end : (before : List AuthorityEntry) (top : List ℕ) (pairs : List Pair) (i : ℕ) (start : Result (List AuthorityEntry) BootFault)
    → length pairs ≤ i → entries_from before top (seen_members (drop i pairs)) ≡ start → start ≡ Ok before
unfolding entries_from
entries_end before top pairs i start past so_far = sym so_far ∙ ap (λ ps. entries_from before top (seen_members ps)) (drop_all i pairs past)

-- ---- their number

pub counted : (pairs : List (String Global × Value)) → count (members_view pairs) ≡ length pairs
counted [] = refl
counted (p ∷ ps) = ap (λ n. n + 1) (counted ps) ∙ omega arith

seen_each : (pairs : List Pair) → seen_members pairs ≡ members_view (map (λ p. (p.0.now, p.1.now)) pairs)
seen_each [] = refl
seen_each (p ∷ ps) = ap (member (string_bytes p.0.now) (view p.1.now)) (seen_each ps)

pub seen_all : (pairs : List Pair) (entries : List (String Global × Value)) → map (λ p. (p.0.now, p.1.now)) pairs ≡ entries → seen_members pairs ≡ members_view entries
seen_all pairs entries is = seen_each pairs ∙ ap members_view is

-- ---- all of them

pub no_named : (default : AuthorityEntry) (found : Option Members) → None ≡ found → entries_from (default ∷ []) default.server_uri no_members ≡ named_after default found
unfolding entries_from
no_named default found is = ap (named_after default) is

many : (t : Bool) (default : AuthorityEntry) (ms : Members) (n : ℕ) → t ≡ ltb 65534 n → count ms ≡ n → 65534 < n → entries_in default ms ≡ Err (WrongKind (codes "authorities"))
many t default ms n is same more = let too : ltb 65534 (count ms) ≡ true = grind (arith, nat_tests) in rw too refl

few : (default : AuthorityEntry) (ms : Members) (n : ℕ) → count ms ≡ n → n ≤ 65534 → entries_in default ms ≡ entries_from (default ∷ []) default.server_uri ms
few default ms n same less = let fits : ltb 65534 (count ms) ≡ false = grind (arith, nat_tests) in rw fits refl

pub too_many : (default : AuthorityEntry) (entries : List (String Global × Value)) (found : Option Members) (name : List ℕ) → Some (members_view entries) ≡ found → 65534 < length entries
    → name ≡ codes "authorities" → named_after default found ≡ Err (WrongKind name)
too_many default entries found name is more named =
    ap (named_after default) (sym is) ∙ many (ltb 65534 (length entries)) default (members_view entries) (length entries) refl (counted entries) more ∙ ap (λ n. Err (WrongKind n)) (sym named)

pub not_many : (default : AuthorityEntry) (pairs : List Pair) (entries : List (String Global × Value)) (found : Option Members) → map (λ p. (p.0.now, p.1.now)) pairs ≡ entries
    → Some (members_view entries) ≡ found → length entries ≤ 65534 → entries_from (default ∷ []) default.server_uri (seen_members pairs) ≡ named_after default found
not_many default pairs entries found same is less =
    ap (entries_from (default ∷ []) default.server_uri) (seen_all pairs entries same)
    ∙ sym (few default (members_view entries) (length entries) (counted entries) less)
    ∙ ap (named_after default) is

-- ---- text

pub read_text : (bytes text : List ℕ) (d : Data) → text ≡ bytes → IsUtf8 bytes → read text ≡ Some d → document_of bytes ≡ Ok d
unfolding document_of
read_text bytes text d is utf8 found =
    let all = utf8_valid_len-IsUtf8 bytes utf8 in
    let whole : eqb (utf8_valid_len bytes) (length bytes) ≡ true = grind (arith, nat_tests) in
    rw whole (rw (← is) (rw found refl))
