-- A set of names beside their list.
use Rattle.std.proofs.Common.{◌≡◌, List, [], ◌∷◌, ◌++◌, Bool, true, false, ◌||◌, refl, sym, ◌∙◌, ap, cond}
use Rattle.std.specs.List.{list_any}
use Rattle.std.specs.Str.{bytes_eq}
use Rattle.std.specs.Ordering.{nat_cmp, is_eq}
use Rattle.std.specs.Cmp.Lexicographic.{slice_cmp, nat_list_eq_equiv}
use Rattle.std.proofs.lemmas.List.Folds.{list_any-append}
use Rattle.std.proofs.lemmas.Map.Text.{is_eq-slice_cmp}
use Rattle.std.proofs.lemmas.Slice.Eq.{bytes_eq-Decides}
use Rattle.aggregate_expand.specs.LookedUp.{Name, has_name}

-- whether a set of names has the name
abbrev pub in_keys : List Name → Name → Bool
in_keys keys q = list_any (λ k. is_eq (slice_cmp nat_cmp q k)) keys

or_flip : (a b : Bool) → cond a true b ≡ (b || (a || false))
or_flip true true = refl
or_flip true false = refl
or_flip false true = refl
or_flip false false = refl

-- a name more in both
pub index_more : (old new : List Name) (xs : List Name) (x : Name) → ((q : Name) → in_keys old q ≡ has_name xs q) → ((q : Name) → in_keys new q ≡ cond (is_eq (slice_cmp nat_cmp x q)) true (in_keys old q)) → (q : Name) → in_keys new q ≡ has_name (xs ++ x ∷ []) q
index_more old new xs x before after q =
    after q
    ∙ ap (λ b. cond b true (in_keys old q)) (is_eq-slice_cmp x q ∙ nat_list_eq_equiv.symm x q)
    ∙ ap (λ b. cond (bytes_eq q x) true b) (before q)
    ∙ or_flip (bytes_eq q x) (has_name xs q)
    ∙ sym (list_any-append (bytes_eq q) xs (x ∷ []))

without : (b listed : Bool) (xs : List Name) (x q : Name) → bytes_eq x q ≡ b → has_name xs x ≡ false → has_name xs q ≡ listed → cond b false (cond b true listed) ≡ listed
without true listed xs x q e absent is = sym absent ∙ ap (has_name xs) ((bytes_eq-Decides x q).0 e) ∙ is
without false listed xs x q e absent is = refl

-- the name put in and taken out again
pub index_back : (old mid new : List Name) (xs : List Name) (x : Name) → has_name xs x ≡ false → ((q : Name) → in_keys old q ≡ has_name xs q) → ((q : Name) → in_keys mid q ≡ cond (is_eq (slice_cmp nat_cmp x q)) true (in_keys old q)) → ((q : Name) → in_keys new q ≡ cond (is_eq (slice_cmp nat_cmp x q)) false (in_keys mid q)) → (q : Name) → in_keys new q ≡ has_name xs q
index_back old mid new xs x absent before put out q =
    out q
    ∙ ap (λ b. cond (is_eq (slice_cmp nat_cmp x q)) false b) (put q)
    ∙ ap (λ b. cond (is_eq (slice_cmp nat_cmp x q)) false (cond (is_eq (slice_cmp nat_cmp x q)) true b)) (before q)
    ∙ ap (λ b. cond b false (cond b true (has_name xs q))) (is_eq-slice_cmp x q)
    ∙ without (bytes_eq x q) (has_name xs q) xs x q refl absent refl
