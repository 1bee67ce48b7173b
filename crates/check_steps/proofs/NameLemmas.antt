-- The canonical text of a name is as empty as the name.
use Rattle.std.proofs.Common.{◌≡◌, ◌≢◌, ℕ, List, [], ◌∷◌, ◌++◌, Bool, true, false, cond, refl, sym, arith, ◌<◌, length, ◌↔◌, IsTrue, not, ◌&&◌, true≢false, Ok, Option, Some, None, is_some}
use Rattle.std.specs.List.{join_with_byte}
use Rattle.xc_base.specs.declared.reason.Reason.{Reason}
use Rattle.xds_name.specs.Names.{canonical_of, is_xdstp, parts_of, with_sorted}
use Rattle.xds_name.specs.Parameters.{in_order}
use Rattle.xds_name.specs.NameTexts.{cut_at, parts_at}
use Rattle.check_steps.specs.ResourceNames.{is_nothing}
use Rattle.check_steps.specs.TableSteps.{demand}

some_after : (xs : List ℕ) (y : ℕ) (ys : List ℕ) → xs ++ y ∷ ys ≢ []
some_after [] y ys = λ e. cc
some_after (x ∷ xs) y ys = λ e. cc

sorted_some : (text : List ℕ) (cut : Option (List ℕ × List ℕ)) → text ≢ [] → with_sorted text cut ≢ []
sorted_some text None some = some
sorted_some text (Some p) some = some_after p.0 63 (join_with_byte 38 (in_order (parts_at 38 p.1)))

at : (b : Bool) (text : List ℕ) → text ≢ [] → cond b (with_sorted text (cut_at 63 text)) text ≢ []
at true text some = sorted_some text (cut_at 63 text) some
at false text some = some

pub canonical_some : (text : List ℕ) → text ≢ [] → canonical_of text ≢ []
unfolding canonical_of
canonical_some text some = at (is_some (parts_of text)) text some

-- ---- what a test that holds says

pub some_of : {A : Type 0} (xs : List A) (empty : Bool) (reason : Reason) → IsTrue empty ↔ (xs ≡ []) → demand (not empty) reason ≡ Ok tt → xs ≢ []
some_of xs true reason is holds = absurd (cc)
some_of xs false reason is holds = λ e. true≢false (sym (is.1 e))

pub some_members : {A : Type 0} (xs : List A) → xs ≢ [] → 0 < length xs
some_members [] some = absurd (some refl)
some_members (x ∷ xs) some = omega arith

served_at : (a : Bool) (service : List ℕ) (reason : Reason) → demand (not (a && is_nothing service)) reason ≡ Ok tt → a ≡ true → service ≢ []
served_at true [] reason holds is = absurd (cc)
served_at true (b ∷ bs) reason holds is = λ e. cc
served_at false service reason holds is = absurd (cc)

pub served : (name service : List ℕ) (reason : Reason) → demand (not (is_xdstp name && is_nothing service)) reason ≡ Ok tt → is_xdstp name ≡ true → canonical_of service ≢ []
served name service reason holds is = canonical_some service (served_at (is_xdstp name) service reason holds is)
