-- Keys in lists, and what is watched.
use Rattle.std.proofs.Common.{◌≡◌, ◌⊎◌, inl, inr, ℕ, ◌+◌, ◌<◌, refl, sym, ap, ◌∙◌, List, [], ◌∷◌, ◌++◌, length, get_or, take, Bool, true, false, ◌||◌, Option, Some, None}
use Rattle.std.specs.Prelude.{◌&&◌, not, if◌then◌else◌, IsSome}
use Rattle.std.specs.List.{list_any}
use Rattle.std.specs.BTreeSet.{insert_key}
use Rattle.std.specs.Ordering.{is_eq}
use Rattle.std.proofs.lemmas.Bool.{true≢false}
use Rattle.std.proofs.lemmas.List.{take_more}
use Rattle.std.proofs.lemmas.List.Folds.{list_any-append}
use Rattle.xc_base.specs.declared.names.Key.{Key}
use Rattle.xc_keys.specs.Keys.{key_cmp, is_key}
use Rattle.xc_keys.proofs.KeyLemmas.{derived_cmp, derived_is, same_key, is_key_equiv, exact_keys}
use Rattle.xds_cache.specs.KeptFates.{Watched, known_of, watched}
use Rattle.xds_cache.specs.declared.fate.Known.{Known}
use Rattle.config_assembly.specs.Orders.{sorted}
use Rattle.config_assembly.specs.Watching.{has_key, IsKept, IsWatching}
use Rattle.config_assembly.proofs.OrderLemmas.{put_alike, any_put, any_sorted}

-- ---- has_key

pub has_sorted : (keys : List Key) (k : Key) → has_key (sorted key_cmp keys) k ≡ has_key keys k
has_sorted keys k = any_sorted key_cmp exact_keys (is_key k) keys

-- one key more of a list
pub has_next : (keys : List Key) (i : ℕ) (x k : Key) → i < length keys → x ≡ get_or keys i x → has_key (take (i + 1) keys) k ≡ (has_key (take i keys) k || is_key k x)
has_next keys i x k lt is =
    ap (λ l. has_key l k) (take_more keys i x lt ∙ ap (λ y. take i keys ++ y ∷ []) (sym is))
    ∙ list_any-append (is_key k) (take i keys) (x ∷ [])
    ∙ ap (λ b. has_key (take i keys) k || b) (or_none (is_key k x))
  where
    or_none : (b : Bool) → (b || false) ≡ b
    or_none true = refl
    or_none false = refl

pub set_next : (old new keys : List Key) (i : ℕ) (x y : Key) → i < length keys → x ≡ get_or keys i x → y ≡ x → new ≡ insert_key derived_cmp old y
    → ((k : Key) → has_key old k ≡ has_key (take i keys) k) → (k : Key) → has_key new k ≡ has_key (take (i + 1) keys) k
set_next old new keys i x y lt is same grown kept k =
    ap (λ l. has_key l k) (grown ∙ put_alike old y ∙ ap (insert_key key_cmp old) same)
    ∙ any_put key_cmp exact_keys (is_key k) old x ∙ ap (λ b. is_key k x || b) (kept k) ∙ swapped (is_key k x) (has_key (take i keys) k) ∙ sym (has_next keys i x k lt is)
  where
    swapped : (a b : Bool) → (a || b) ≡ (b || a)
    swapped true true = refl
    swapped true false = refl
    swapped false true = refl
    swapped false false = refl

-- a set is asked by the order of its type
pub has_alike : (keys : List Key) (k : Key) → list_any (λ other. is_eq (derived_cmp k other)) keys ≡ has_key keys k
has_alike [] k = refl
has_alike (x ∷ keys) k = ap (λ o. is_eq o || list_any (λ other. is_eq (derived_cmp k other)) keys) (derived_is k x) ∙ ap (λ b. is_key k x || b) (has_alike keys k)

-- ---- what is watched

abbrev Known? : Type 0
Known? = Option Known

watch_cases : (b h : Bool) (x k : Key) (at now old : Known?) → is_key x k ≡ b → (b ≡ true → at ≡ now) → now ≡ (if h then watched old else old) → (if b then watched at else now) ≡ (if (h || b) then watched old else old)
watch_cases true true x k at now old e same kept = ap watched (same refl ∙ kept)
watch_cases true false x k at now old e same kept = ap watched (same refl ∙ kept)
watch_cases false true x k at now old e same kept = kept
watch_cases false false x k at now old e same kept = kept

pub watch_next : (first old new : Watched) (keys : List Key) (i : ℕ) (x : Key) → i < length keys → x ≡ get_or keys i x
    → ((k : Key) → known_of new k ≡ (if is_key x k then watched (known_of old x) else known_of old k))
    → ((k : Key) → known_of old k ≡ (if has_key (take i keys) k then watched (known_of first k) else known_of first k))
    → (k : Key) → known_of new k ≡ (if has_key (take (i + 1) keys) k then watched (known_of first k) else known_of first k)
watch_next first old new keys i x lt is changes kept k =
    changes k
    ∙ watch_cases (is_key x k) (has_key (take i keys) k) x k (known_of old x) (known_of old k) (known_of first k) refl (λ e. ap (known_of old) (same_key x k e)) (kept k)
    ∙ ap (λ b. if (has_key (take i keys) k || b) then watched (known_of first k) else known_of first k) (is_key_equiv.symm x k)
    ∙ ap (λ b. if b then watched (known_of first k) else known_of first k) (sym (has_next keys i x k lt is))

-- one that isn't among the others is watched no more
lone_cases : (b h g : Bool) (x k : Key) (now old : Known?) → is_key x k ≡ b → (b ≡ true → g ≡ false) → now ≡ (if h && not g then None else old) → (if b then None else now) ≡ (if (h || b) && not g then None else old)
lone_cases true true true x k now old e lone kept = absurd (true≢false (lone refl))
lone_cases true true false x k now old e lone kept = refl
lone_cases true false true x k now old e lone kept = absurd (true≢false (lone refl))
lone_cases true false false x k now old e lone kept = refl
lone_cases false true g x k now old e lone kept = kept
lone_cases false false g x k now old e lone kept = kept

-- one that is among them stays
among_cases : (b h g : Bool) (now old : Known?) → (b ≡ true → g ≡ true) → now ≡ (if h && not g then None else old) → now ≡ (if (h || b) && not g then None else old)
among_cases true true g now old among kept = kept
among_cases true false true now old among kept = kept
among_cases true false false now old among kept = absurd (true≢false (sym (among refl)))
among_cases false true g now old among kept = kept
among_cases false false g now old among kept = kept

pub unwatch_lone : (first old new : Watched) (keys others : List Key) (i : ℕ) (x : Key) → i < length keys → x ≡ get_or keys i x → has_key others x ≡ false
    → ((k : Key) → known_of new k ≡ (if is_key x k then None else known_of old k))
    → ((k : Key) → known_of old k ≡ (if has_key (take i keys) k && not (has_key others k) then None else known_of first k))
    → (k : Key) → known_of new k ≡ (if has_key (take (i + 1) keys) k && not (has_key others k) then None else known_of first k)
unwatch_lone first old new keys others i x lt is lone changes kept k =
    changes k
    ∙ lone_cases (is_key x k) (has_key (take i keys) k) (has_key others k) x k (known_of old k) (known_of first k) refl (λ e. ap (has_key others) (sym (same_key x k e)) ∙ lone) (kept k)
    ∙ ap (λ b. if (has_key (take i keys) k || b) && not (has_key others k) then None else known_of first k) (is_key_equiv.symm x k)
    ∙ ap (λ b. if b && not (has_key others k) then None else known_of first k) (sym (has_next keys i x k lt is))

pub unwatch_among : (first old : Watched) (keys others : List Key) (i : ℕ) (x : Key) → i < length keys → x ≡ get_or keys i x → has_key others x ≡ true
    → ((k : Key) → known_of old k ≡ (if has_key (take i keys) k && not (has_key others k) then None else known_of first k))
    → (k : Key) → known_of old k ≡ (if has_key (take (i + 1) keys) k && not (has_key others k) then None else known_of first k)
unwatch_among first old keys others i x lt is among kept k =
    among_cases (is_key x k) (has_key (take i keys) k) (has_key others k) (known_of old k) (known_of first k) (λ e. ap (has_key others) (sym (same_key x k e)) ∙ among) (kept k)
    ∙ ap (λ b. if (has_key (take i keys) k || b) && not (has_key others k) then None else known_of first k) (is_key_equiv.symm x k)
    ∙ ap (λ b. if b && not (has_key others k) then None else known_of first k) (sym (has_next keys i x k lt is))

-- ---- all together

reached_cases : (h b : Bool) (old mid new : Known?) → new ≡ (if h then watched mid else mid) → mid ≡ (if b && not h then None else old) → (IsSome old → (b ≡ true) ⊎ (h ≡ true)) → new ≡ (if h then watched old else None)
reached_cases true true old mid new after before kept = after ∙ ap watched before
reached_cases true false old mid new after before kept = after ∙ ap watched before
reached_cases false true old mid new after before kept = after ∙ before
reached_cases false false old mid new after before kept = after ∙ before ∙ none old kept
  where
    none : (o : Known?) → (IsSome o → (false ≡ true) ⊎ (false ≡ true)) → o ≡ None
    none None kept = refl
    none (Some known) kept = elim (kept refl) [ inl w ↦ absurd (true≢false (sym w)) | inr w ↦ absurd (true≢false (sym w)) ]

pub watching : (old mid new : Watched) (before reached set : List Key) → IsKept old before reached → ((k : Key) → has_key set k ≡ has_key reached k)
    → ((k : Key) → known_of mid k ≡ (if has_key before k && not (has_key set k) then None else known_of old k))
    → ((k : Key) → known_of new k ≡ (if has_key reached k then watched (known_of mid k) else known_of mid k))
    → IsWatching old new reached
watching old mid new before reached set kept same others all k =
    reached_cases (has_key reached k) (has_key before k) (known_of old k) (known_of mid k) (known_of new k) (all k)
    (others k ∙ ap (λ b. if has_key before k && not b then None else known_of old k) (same k)) (kept k)
