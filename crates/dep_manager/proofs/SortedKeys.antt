-- Keys in order, and those of them that pass a test.
use Rattle.std.proofs.Common.{◌≡◌, ◌≤◌, ℕ, Bool, true, false, cond, List, [], ◌∷◌, length, take, Some, refl, sym, ap, ap₂, ◌∙◌}
use Rattle.std.specs.Prelude.{◌&&◌, Contains, filter, if◌then◌else◌}
use Rattle.std.specs.List.{find}
use Rattle.std.specs.List.Sorted.{IsStrictlySortedBy}
use Rattle.std.proofs.lemmas.List.{take_all}
use Rattle.std.proofs.lemmas.List.Kept.{IsStrictlySortedBy-filter}
use Rattle.std.proofs.lemmas.Map.Lookups.{btree_set_from_contains}
use Rattle.std.proofs.lemmas.Map.Views.{any-filter_same}
use Rattle.xc_base.specs.declared.names.Key.{Key}
use Rattle.xc_keys.specs.Keys.{is_key, key_cmp}
use Rattle.xc_keys.proofs.KeyLemmas.{exact_keys, key_total, same_key}
use Rattle.xc_keys.proofs.MemberLemmas.{here, there}
use Rattle.config_assembly.specs.Orders.{Name}
use Rattle.config_assembly.specs.ReachedResources.{Resources}
use Rattle.config_assembly.specs.Reach.{keys_with, reach, reached_clusters}
use Rattle.config_assembly.specs.Watching.{has_key}
use Rattle.config_assembly.proofs.SortedLists.{sorted_rises}
use Rattle.dep_manager.specs.KeptAssemblies.{least_of}

-- ---- the members that pass a test

least_at : (b : Bool) (key : Key) (kept : List Key) → least_of (cond b (key ∷ kept) kept) ≡ cond b (Some key) (least_of kept)
least_at true key kept = refl
least_at false key kept = refl

-- the first of those that pass is the first that passes
pub least_kept : (p : Key → Bool) (keys : List Key) → least_of (filter p keys) ≡ find p keys
least_kept p [] = refl
least_kept p (key ∷ keys) = least_at (p key) key (filter p keys) ∙ ap (cond (p key) (Some key)) (least_kept p keys)

pub kept_same : {X : Type 0} (p q : X → Bool) (xs : List X) → ((x : X) → Contains xs x → p x ≡ q x) → filter p xs ≡ filter q xs
kept_same p q [] each = refl
kept_same p q (x ∷ xs) each = ap₂ (λ b ys. cond b (x ∷ ys) ys) (each x (here x xs)) (kept_same p q xs (λ y has. each y (there x xs y has)))

pub has_kept : (p : Key → Bool) (keys : List Key) (key : Key) → has_key (filter p keys) key ≡ (p key && has_key keys key)
has_kept p keys key = any-filter_same (is_key key) p (p key) (λ other is. ap p (sym (same_key key other is))) keys

-- keys in order that have those that pass, and no others, are these
pub are_kept : (p : Key → Bool) (keys those : List Key) → IsStrictlySortedBy key_cmp keys → IsStrictlySortedBy key_cmp those → ((key : Key) → has_key those key ≡ (p key && has_key keys key)) → those ≡ filter p keys
are_kept p keys those rising also have =
    btree_set_from_contains key_total (record { keys = those }) (record { keys = filter p keys }) also (IsStrictlySortedBy-filter key_cmp p keys rising) (λ key. have key ∙ sym (has_kept p keys key)) exact_keys

either_at : (has passes : Bool) → (if has then passes else false) ≡ (passes && has)
either_at true true = refl
either_at true false = refl
either_at false true = refl
either_at false false = refl

-- once all keys are gone over
pub all_kept : (p : Key → Bool) (keys those : List Key) (i : ℕ) → length keys ≤ i → IsStrictlySortedBy key_cmp keys → IsStrictlySortedBy key_cmp those →
    ((key : Key) → has_key those key ≡ (if has_key (take i keys) key then p key else false)) → those ≡ filter p keys
all_kept p keys those i within rising also have =
    are_kept p keys those rising also (λ key. have key ∙ ap (λ all. if has_key all key then p key else false) (take_all i keys within) ∙ either_at (has_key keys key) (p key))

-- what is reached rises
pub reach_rises : (r : Resources) (references : List Name) → IsStrictlySortedBy key_cmp (reach r references)
reach_rises r references = sorted_rises key_cmp key_total (keys_with r (reached_clusters r references))

pub none_rise : IsStrictlySortedBy key_cmp []
unfolding IsStrictlySortedBy
none_rise = tt
