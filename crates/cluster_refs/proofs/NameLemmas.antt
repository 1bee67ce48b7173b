-- Counts of names, one change on.
use Rattle.std.proofs.Common.{◌≡◌, ◌<◌, ℕ, ◌+◌, ◌-◌, Bool, true, false, cond, List, [], ◌∷◌, refl, sym, ap, subst, ◌∙◌, arith, Option, Some, None, Ordering}
use Rattle.std.specs.Prelude.{unwrap_or, IfSome, IsSome, Contains, ◌↔◌}
use Rattle.std.specs.declared.cmp.Ordering.TheVariants.{Less, Equal, Greater}
use Rattle.std.specs.Ordering.{is_eq}
use Rattle.std.specs.Cmp.{IsEquivalence}
use Rattle.std.specs.Map.{lookup, keys_of}
use Rattle.std.proofs.lemmas.Cmp.{nat_list_cmp_total, eq_by_cmp_equiv}
use Rattle.std.proofs.lemmas.Map.Made.{is_some-lookup}
use Rattle.std.proofs.lemmas.Map.Views.{list_any-from_Contains, Contains-keys_from_lookup}
use Rattle.std.proofs.lemmas.Map.Lookups.{exact_bytes}
use Rattle.cluster_refs.specs.ReferredNames.{Name, name_cmp, is_name, count_of, Raises, Lowers, AllCounted}

pub equal_from_is_eq : (o : Ordering) → is_eq o ≡ true → o ≡ Equal
equal_from_is_eq Less is = cc
equal_from_is_eq Equal is = refl
equal_from_is_eq Greater is = cc

-- names with the same bytes are one
pub same_name : (name other : Name) → is_name name other ≡ true → name ≡ other
same_name name other is = exact_bytes name other (equal_from_is_eq (name_cmp name other) is)

-- the look-up of each name after a change at one
abbrev pub Changes : List (Name × ℕ) → List (Name × ℕ) → Name → Option ℕ → Type 0
Changes old new name count = (other : Name) → lookup (is_name other) new ≡ cond (is_name name other) count (lookup (is_name other) old)

-- the same of equal lists, names and counts
pub change_from : (before old new : List (Name × ℕ)) (key name : Name) (more count : Option ℕ) → before ≡ old → key ≡ name → more ≡ count →
    Changes before new key more → Changes old new name count
change_from before old new key name more count list_is name_is count_is change other = rw (← list_is, ← name_is, ← count_is) (change other)

raised_at : (b : Bool) (old new : List (Name × ℕ)) (name other : Name) → is_name name other ≡ b →
    lookup (is_name other) new ≡ cond b (Some (count_of old name + 1)) (lookup (is_name other) old) → count_of new other ≡ count_of old other + (0 + cond b 1 0)
raised_at true old new name other is change = rw change (ap (λ n. count_of old n + 1) (same_name name other is))
raised_at false old new name other is change = rw change (omega arith)

pub raised : (old new : List (Name × ℕ)) (name : Name) → Changes old new name (Some (count_of old name + 1)) → Raises old new (name ∷ [])
raised old new name change other = raised_at (is_name name other) old new name other refl (change other)

lowered_at : (b : Bool) (old new : List (Name × ℕ)) (name other : Name) (count : Option ℕ) → is_name name other ≡ b → unwrap_or count 0 ≡ count_of old name - 1 →
    lookup (is_name other) new ≡ cond b count (lookup (is_name other) old) → count_of new other ≡ count_of old other - (0 + cond b 1 0)
lowered_at true old new name other count is left change = rw change (left ∙ ap (λ n. count_of old n - 1) (same_name name other is))
lowered_at false old new name other count is left change = rw change (omega arith)

-- the count that is written, or taken out where it is the last
pub lowered : (before old new : List (Name × ℕ)) (name : Name) (count : Option ℕ) → before ≡ old → unwrap_or count 0 ≡ count_of old name - 1 → Changes before new name count → Lowers old new (name ∷ [])
lowered before old new name count list_is left change other =
    lowered_at (is_name name other) old new name other count refl left (change_from before old new name name count count list_is refl refl change other)

counted_at : (b : Bool) (old now count : Option ℕ) → IfSome old (λ n. 0 < n) → IfSome count (λ n. 0 < n) → now ≡ cond b count old → IfSome now (λ n. 0 < n)
counted_at true old now count before some is = rw is some
counted_at false old now count before some is = rw is before

pub all_counted : (old new : List (Name × ℕ)) (name : Name) (count : Option ℕ) → AllCounted old → IfSome count (λ n. 0 < n) → Changes old new name count → AllCounted new
all_counted old new name count before some change other =
    counted_at (is_name name other) (lookup (is_name other) old) (lookup (is_name other) new) count (before other) some (change other)

positive : (found : Option ℕ) → IfSome found (λ n. 0 < n) → (IsSome found → 0 < unwrap_or found 0) × (0 < unwrap_or found 0 → IsSome found)
positive None some = (λ is. cc, λ less. absurd (omega arith))
positive (Some count) some = (λ is. some, λ less. refl)

pub is_name_equiv : IsEquivalence is_name
is_name_equiv = eq_by_cmp_equiv nat_list_cmp_total

-- the names that have a count are those that are counted
pub counted_names : (counts : List (Name × ℕ)) (names : List Name) → AllCounted counts → names ≡ keys_of counts → (name : Name) → Contains names name ↔ (0 < count_of counts name)
counted_names counts names all is name =
    let p = positive (lookup (is_name name) counts) (all name) in (
      λ has. p.0 (is_some-lookup (is_name name) counts ∙ list_any-from_Contains is_name_equiv name (keys_of counts) (subst (λ ks. Contains ks name) is has)),
      λ less. subst (λ ks. Contains ks name) (sym is) (Contains-keys_from_lookup same_name name counts (p.1 less)),
    )
