-- The keys of a kind among keys in their order.
use Rattle.std.proofs.Common.{◌≡◌, ◌≤◌, ℕ, zero, suc, Bool, true, false, cond, leb, ltb, leb-false, leb-true, ltb-false, ltb-true, eq-eqb, ne_eqb, List, [], ◌∷◌, drop, get_or, length, take, refl, sym, ap, ◌∙◌, arith, option_map, subst}
use Rattle.std.specs.Prelude.{◌&&◌, ◌==◌, filter, if◌then◌else◌, not}
use Rattle.std.specs.declared.cmp.Ordering.{Ordering}
use Rattle.std.specs.declared.cmp.Ordering.TheVariants.{Less, Equal, Greater}
use Rattle.std.specs.Ordering.{is_gt, nat_cmp, ordering_then}
use Rattle.std.specs.List.{AllWithin}
use Rattle.std.specs.List.Sorted.{IsNonDecreasingBy, IsStrictlySortedBy}
use Rattle.std.proofs.lemmas.Map.Keys.{Less-from_sorted, le_from_not_gt}
use Rattle.xc_base.specs.declared.names.Key.{Key}
use Rattle.xc_base.specs.declared.names.Kind.{Kind}
use Rattle.xc_keys.specs.Keys.{key_cmp, kind_place}
use Rattle.xds_cache.specs.declared.fate.Known.{Known}
use Rattle.xds_cache.specs.KeptFates.{Watched as Rows, known_of}
use Rattle.config_assembly.specs.Watching.{has_key}
use Rattle.xds_history.specs.Words.{lives_at, same_kind}
use Rattle.xds_history.specs.Fates.{deletes, has_value, lacks}
use Rattle.xds_history.specs.declared.responses.Told.{Told}
use Rattle.book_fates.specs.FateSteps.{Stepped, gone_among, gone_step, most_deleted}
use Rattle.book_fates.specs.KindRanges.{is_below, is_upto}
use Rattle.book_fates.proofs.dep_manager.SortedKeys.{has_kept}
use Rattle.book_fates.proofs.WalkLemmas.{by_point}

-- ---- a list that a test parts

fail_at : (b : Bool) (x : Key) (xs passing failing : List Key) → b ≡ false → ([] ≡ passing) × (xs ≡ failing) → ([] ≡ cond b (x ∷ passing) passing) × (x ∷ xs ≡ cond (not b) (x ∷ failing) failing)
fail_at true x xs passing failing is all = absurd (cc is)
fail_at false x xs passing failing is all = (all.0, ap (λ ys. x ∷ ys) all.1)

all_fail : (p : Key → Bool) (xs : List Key) → AllWithin (λ x. p x ≡ false) xs 0 (length xs) → ([] ≡ filter p xs) × (xs ≡ filter (λ x. not (p x)) xs)
all_fail p [] fail = (refl, refl)
all_fail p (x ∷ xs) fail =
    fail_at (p x) x xs (filter p xs) (filter (λ y. not (p y)) xs) (fail 0 x (omega arith) (omega arith))
    (all_fail p xs (λ k d low high. fail (suc k) d (omega arith) (omega (arith, high))))

pass_at : (b : Bool) (x : Key) (front back passing failing : List Key) → b ≡ true → (front ≡ passing) × (back ≡ failing) → (x ∷ front ≡ cond b (x ∷ passing) passing) × (back ≡ cond (not b) (x ∷ failing) failing)
pass_at true x front back passing failing is all = (ap (λ ys. x ∷ ys) all.0, all.1)
pass_at false x front back passing failing is all = absurd (cc is)

-- what stands in front of the place passes, and what stands behind it doesn't
pub parted : (p : Key → Bool) (xs : List Key) (i : ℕ) → AllWithin (λ x. p x ≡ true) xs 0 i → AllWithin (λ x. p x ≡ false) xs i (length xs) → i ≤ length xs → (take i xs ≡ filter p xs) × (drop i xs ≡ filter (λ x. not (p x)) xs)
parted p xs zero front back within = all_fail p xs back
parted p [] (suc i) front back within = let no : ⊥ = omega (arith, within) in absurd no
parted p (x ∷ xs) (suc i) front back within =
    pass_at (p x) x (take i xs) (drop i xs) (filter p xs) (filter (λ y. not (p y)) xs) (front 0 x (omega arith) (omega arith))
    (parted p xs i (λ k d low high. front (suc k) d (omega arith) (omega (arith, high))) (λ k d low high. back (suc k) d (omega (arith, low)) (omega (arith, high))) (omega (arith, within)))

-- ---- kinds rise

not_greater : (o rest : Ordering) → ordering_then o rest ≡ Less → is_gt o ≡ false
not_greater Less rest is = refl
not_greater Equal rest is = refl
not_greater Greater rest is = absurd (cc is)

pub kinds_rise : (keys : List Key) → IsStrictlySortedBy key_cmp keys → IsNonDecreasingBy (λ key. kind_place key.kind) keys
kinds_rise keys rising i j d le lt = by_place (ltb i j) refl
  where
    by_place : (b : Bool) → ltb i j ≡ b → kind_place ((get_or keys i d).kind) ≤ kind_place ((get_or keys j d).kind)
    by_place true is =
        le_from_not_gt (kind_place ((get_or keys i d).kind)) (kind_place ((get_or keys j d).kind))
        (not_greater (nat_cmp (kind_place ((get_or keys i d).kind)) (kind_place ((get_or keys j d).kind))) _ (Less-from_sorted key_cmp keys i j d rising (ltb-true i j is) lt))
    by_place false is =
        let same : i ≡ j = omega (arith, le, ltb-false i j is) in
        subst (λ k. kind_place ((get_or keys i d).kind) ≤ kind_place ((get_or keys k d).kind)) same (omega arith)

-- ---- of one kind

of_both : (x t : ℕ) → (not (ltb x t) && leb x t) ≡ (t == x)
of_both x t = split (ltb x t) (leb x t) refl refl
  where
    split : (b c : Bool) → ltb x t ≡ b → leb x t ≡ c → (not b && c) ≡ (t == x)
    split true c lt le = sym (ne_eqb t x (λ same. let no : ⊥ = omega (arith, ltb-true x t lt, same) in no))
    split false true lt le = sym (eq-eqb t x (omega (arith, ltb-false x t lt, leb-true x t le)))
    split false false lt le = sym (ne_eqb t x (λ same. let no : ⊥ = omega (arith, leb-false x t le, same) in no))

filter_twice : (p q r : Key → Bool) (keys : List Key) → ((key : Key) → (q key && p key) ≡ r key) → filter p (filter q keys) ≡ filter r keys
filter_twice p q r [] both = refl
filter_twice p q r (key ∷ keys) both = at_head (q key) (r key) (filter q keys) (filter r keys) (both key) (filter_twice p q r keys both)
  where
    at_head : (b e : Bool) (kept out : List Key) → (b && p key) ≡ e → filter p kept ≡ out → filter p (cond b (key ∷ kept) kept) ≡ cond e (key ∷ out) out
    at_head true e kept out is same = ap (λ ys. cond (p key) (key ∷ ys) ys) same ∙ ap (λ c. cond c (key ∷ out) out) is
    at_head false e kept out is same = same ∙ ap (λ c. cond c (key ∷ out) out) is

pub of_one_kind : (kind : Kind) (keys : List Key) → filter (is_upto (kind_place kind)) (filter (λ key. not (is_below (kind_place kind) key)) keys) ≡ filter (λ key. same_kind kind key.kind) keys
of_one_kind kind keys =
    filter_twice (is_upto (kind_place kind)) (λ key. not (is_below (kind_place kind) key)) (λ key. same_kind kind key.kind) keys
    (λ key. of_both (kind_place key.kind) (kind_place kind))

-- ---- what a response lets go

gone_of : (d k l la v h : Bool) (known : Known) → cond (k && h) (cond ((((d && k) && l) && la) && v) Known.Absent known) known ≡ cond h (cond ((((d && k) && l) && la) && v) Known.Absent known) known
gone_of d true l la v h known = refl
gone_of true false l la v true known = refl
gone_of true false l la v false known = refl
gone_of false false l la v true known = refl
gone_of false false l la v false known = refl

-- it looks at the keys of its kind alone
pub gone_of_kind : (t : Told) (keys : List Key) (key : Key) (known : Known) → gone_among t (filter (λ k. same_kind t.kind k.kind) keys) key known ≡ gone_among t keys key known
gone_of_kind t keys key known =
    ap (λ b. cond b (gone_step t key known) known) (has_kept (λ k. same_kind t.kind k.kind) keys key)
    ∙ gone_of (deletes t.kind) (same_kind t.kind key.kind) (lives_at t.authority key.home) (lacks t key) (has_value known) (has_key keys key) known

pub gone_of_keys : (t : Told) (keys those : List Key) (old new : Rows) → those ≡ filter (λ k. same_kind t.kind k.kind) keys → Stepped old new (gone_among t those) → Stepped old new (gone_among t keys)
gone_of_keys t keys those old new are stepped key =
    stepped key
    ∙ ap (λ ks. option_map (gone_among t ks key) (known_of old key)) are
    ∙ by_point (gone_among t (filter (λ k. same_kind t.kind k.kind) keys) key) (gone_among t keys key) (known_of old key) (gone_of_kind t keys key)

pub most_looked_at : (kind : Kind) (keys those : List Key) → deletes kind ≡ true → those ≡ filter (λ k. same_kind kind k.kind) keys → length those ≡ most_deleted kind keys
most_looked_at kind keys those is are = ap length are ∙ sym (ap (λ b. if b then length (filter (λ k. same_kind kind k.kind) keys) else 0) is)
