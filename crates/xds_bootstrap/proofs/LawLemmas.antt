-- That the authorities are lawful.
use Rattle.std.proofs.Common.{◌≡◌, ◌≤◌, ℕ, List, [], ◌∷◌, ◌++◌, length, map, drop, Bool, true, false, cond, Bor, Option, Some, None, Result, Ok, Err, IfOk, refl, sym, ap, ◌∙◌, subst, arith, append-nil}
use Rattle.std.specs.Cmp.Lexicographic.{slice_cmp}
use Rattle.std.specs.List.{AllByRecursion}
use Rattle.std.specs.List.Sorted.{IsStrictlySortedBy}
use Rattle.std.specs.Ordering.{nat_cmp}
use Rattle.std.specs.Prelude.{String, string_bytes, codes, is_some, unwrap_or, is_ok}
use Rattle.std.specs.Result.{result_ok}
use Rattle.std.proofs.lemmas.List.{length-map}
use Rattle.std.specs.String.{string_cmp}
use Rattle.std.specs.declared.alloc.Global.{Global}
use Rattle.std.specs.declared.cmp.Ordering.TheVariants.{Less}
use Rattle.serde_json.specs.Data.{Data, Members, no_members, member}
use Rattle.serde_json.specs.Find.{get, as_object}
use Rattle.serde_json.specs.declared.value.Value.{Value}
use Rattle.xds_bootstrap.specs.Authorities.{AreAuthorities}
use Rattle.xds_bootstrap.specs.Document.{◌>>=◌, own_servers, text_member, template_in, entry_in, entry_of, entries_from}
use Rattle.xds_bootstrap.specs.BootViews.{seen_members}
use Rattle.xds_bootstrap.specs.declared.bootstrap.AuthorityEntry.{AuthorityEntry}
use Rattle.xds_bootstrap.specs.declared.boot_fault.BootFault.{BootFault}

abbrev names : List AuthorityEntry → List (List ℕ)
names entries = map (λ e. e.name) entries

abbrev Pair : Type 0
Pair = Bor (String Global) × Bor Value

-- ---- an entry has the name of its member

abbrev HasName : List ℕ → Result AuthorityEntry BootFault → Type 0
HasName name found = IfOk found (λ e. e.name ≡ name)

named_template : (uri name : List ℕ) (found : Result (List ℕ) BootFault) → HasName name (found >>= λ template. Ok record { name = name; server_uri = uri; template = template })
named_template uri name (Ok template) = refl
named_template uri name (Err f) = tt

named_text : (uri name : List ℕ) (found : Result (Option (List ℕ)) BootFault) → HasName name (found >>= λ text. template_in name text >>= λ template. Ok record { name = name; server_uri = uri; template = template })
named_text uri name (Ok text) = named_template uri name (template_in name text)
named_text uri name (Err f) = tt

named_uri : (name : List ℕ) (d : Data) (found : Result (List ℕ) BootFault)
    → HasName name (found >>= λ uri. text_member (Some d) (codes "client_listener_resource_name_template") >>= λ text. template_in name text >>= λ template. Ok record { name = name; server_uri = uri; template = template })
named_uri name d (Ok uri) = named_text uri name (text_member (Some d) (codes "client_listener_resource_name_template"))
named_uri name d (Err f) = tt

named_object : (t : Bool) (top name : List ℕ) (d : Data) (fault : BootFault) → HasName name (cond t (entry_in top name d) (Err fault))
named_object true top name d fault = named_uri name d (own_servers top (get (codes "xds_servers") d))
named_object false top name d fault = tt

entry_named : (top name : List ℕ) (d : Data) → HasName name (entry_of top name d)
unfolding entry_of
entry_named top name d = named_object (is_some (as_object d)) top name d _

-- ---- the names of all

keys_of : Members → List (List ℕ)
keys_of no_members = []
keys_of (member name d ms) = name ∷ keys_of ms

names_pushed : (before : List AuthorityEntry) (e : AuthorityEntry) (name : List ℕ) (rest : List (List ℕ)) → e.name ≡ name → names (before ++ e ∷ []) ++ rest ≡ names before ++ name ∷ rest
names_pushed [] e name rest is = ap (λ n. n ∷ rest) is
names_pushed (b ∷ bs) e name rest is = ap (λ ns. b.name ∷ ns) (names_pushed bs e name rest is)

failed_ok : (f : BootFault) (entries : List AuthorityEntry) → ◌≡◌ {A = Result (List AuthorityEntry) BootFault} (Err f) (Ok entries) → 2 ≤ 1
failed_ok f entries e = absurd (let same = ap is_ok e in cc)

names_after : (found : Result AuthorityEntry BootFault) (before : List AuthorityEntry) (top name : List ℕ) (ms : Members) (entries : List AuthorityEntry) → HasName name found
    → ((e : AuthorityEntry) → entries_from (before ++ e ∷ []) top ms ≡ Ok entries → names entries ≡ names (before ++ e ∷ []) ++ keys_of ms)
    → (found >>= λ e. entries_from (before ++ e ∷ []) top ms) ≡ Ok entries → names entries ≡ names before ++ name ∷ keys_of ms
names_after (Ok e) before top name ms entries is more h = more e h ∙ names_pushed before e name (keys_of ms) is
names_after (Err f) before top name ms entries is more h = absurd (let never = failed_ok f entries h in omega arith)

abbrev Found : Type 0
Found = Result (List AuthorityEntry) BootFault

same_entries : (a b : List AuthorityEntry) → ◌≡◌ {A = Found} (Ok a) (Ok b) → a ≡ b
same_entries a b e = ap (λ r. unwrap_or (result_ok r) a) e

names_kept : (ms : Members) (before : List AuthorityEntry) (top : List ℕ) (entries : List AuthorityEntry) → entries_from before top ms ≡ Ok entries → names entries ≡ names before ++ keys_of ms
unfolding entries_from keys_of
names_kept no_members before top entries h = ap names (sym (same_entries before entries h)) ∙ sym (append-nil (names before))
names_kept (member name d ms) before top entries h =
    names_after (entry_of top name d) before top name ms entries (entry_named top name d) (λ e. names_kept ms (before ++ e ∷ []) top entries) h

keys_shown : (pairs : List Pair) → keys_of (seen_members pairs) ≡ map (λ p. string_bytes p.0.now) pairs
unfolding keys_of
keys_shown [] = refl
keys_shown (p ∷ ps) = ap (λ ks. string_bytes p.0.now ∷ ks) (keys_shown ps)

pub names_found : (default : AuthorityEntry) (pairs : List Pair) (entries : List AuthorityEntry) → entries_from (default ∷ []) default.server_uri (seen_members pairs) ≡ Ok entries
    → names entries ≡ default.name ∷ map (λ p. string_bytes p.0.now) pairs
names_found default pairs entries h =
    names_kept (seen_members pairs) (default ∷ []) default.server_uri entries h ∙ ap (λ ks. default.name ∷ ks) (keys_shown pairs)

-- ---- lawful

all_below : (x : String Global) (ks : List (String Global)) → AllByRecursion (λ y. string_cmp x y ≡ Less) ks → AllByRecursion (λ y. slice_cmp nat_cmp (string_bytes x) y ≡ Less) (map string_bytes ks)
all_below x [] h = tt
all_below x (k ∷ ks) h = (h.0, all_below x ks h.1)

rising : (ks : List (String Global)) → IsStrictlySortedBy string_cmp ks → IsStrictlySortedBy (slice_cmp nat_cmp) (map string_bytes ks)
unfolding IsStrictlySortedBy
rising [] h = tt
rising (k ∷ ks) h = (all_below k ks h.0, rising ks h.1)

abbrev head_of : List (List ℕ) → Option (List ℕ)
head_of [] = None
head_of (n ∷ ns) = Some n

lawful_from : (entries : List AuthorityEntry) (name : List ℕ) (rest : List (List ℕ)) → names entries ≡ name ∷ rest → name ≡ [] → length rest ≤ 65534
    → IsStrictlySortedBy (slice_cmp nat_cmp) rest → AreAuthorities entries
lawful_from [] name rest is unnamed few up = absurd (let none = ap length is in omega arith)
lawful_from (e ∷ es) name rest is unnamed few up = record {
  unnamed = ap (λ ns. Some (unwrap_or (head_of ns) [])) is ∙ ap Some unnamed;
  few = (let same = ap length is in let count = length-map es (λ e. e.name) in omega arith);
  rising = subst (IsStrictlySortedBy (slice_cmp nat_cmp)) (sym (ap (drop 1) is)) up;
}

pub none_lawful : (r : Result (List AuthorityEntry) BootFault) (name : List ℕ) → name ≡ [] → IfOk r (λ es. names es ≡ name ∷ []) → IfOk r AreAuthorities
unfolding IsStrictlySortedBy
none_lawful (Ok es) name unnamed is = lawful_from es name [] is unnamed (omega arith) tt
none_lawful (Err f) name unnamed is = tt

keys_same : (pairs : List Pair) → map (λ p. string_bytes p.0.now) pairs ≡ map string_bytes (map (λ (m : String Global × Value). m.0) (map (λ p. (p.0.now, p.1.now)) pairs))
keys_same [] = refl
keys_same (p ∷ ps) = ap (λ ks. string_bytes p.0.now ∷ ks) (keys_same ps)

pub all_lawful : (r : Result (List AuthorityEntry) BootFault) (name : List ℕ) (lent pairs : List Pair) (entries : List (String Global × Value)) → name ≡ [] → lent ≡ pairs
    → map (λ p. (p.0.now, p.1.now)) pairs ≡ entries → length entries ≤ 65534 → IsStrictlySortedBy string_cmp (map (λ (m : String Global × Value). m.0) entries)
    → IfOk r (λ es. names es ≡ name ∷ map (λ p. string_bytes p.0.now) lent) → IfOk r AreAuthorities
all_lawful (Ok es) name lent pairs entries unnamed same shown few up is =
    let rest = ap (λ ps. name ∷ map (λ p. string_bytes p.0.now) ps) same ∙ ap (λ ks. name ∷ ks) (keys_same pairs ∙ ap (λ ms. map string_bytes (map (λ (m : String Global × Value). m.0) ms)) shown) in
    lawful_from es name (map string_bytes (map (λ (m : String Global × Value). m.0) entries)) (is ∙ rest) unnamed
    (let one = length-map (map (λ (m : String Global × Value). m.0) entries) string_bytes in let two = length-map entries (λ (m : String Global × Value). m.0) in omega arith)
    (rising (map (λ (m : String Global × Value). m.0) entries) up)
all_lawful (Err f) name lent pairs entries unnamed same shown few up is = tt
