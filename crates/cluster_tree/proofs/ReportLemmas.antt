-- One report changes the state of its own address alone.
use Rattle.std.proofs.Common.{◌≡◌, Bool, true, false, cond, ℕ, List, [], ◌∷◌, Option, Some, refl, sym, ap, ◌∙◌, subst, arith}
use Rattle.std.specs.Prelude.{Contains, unwrap_or}
use Rattle.std.specs.Map.{lookup}
use Rattle.std.specs.Ordering.{nat_cmp, is_eq}
use Rattle.std.specs.Cmp.Lexicographic.{slice_cmp}
use Rattle.std.proofs.lemmas.Map.Text.{is_eq-slice_cmp}
use Rattle.std.proofs.lemmas.Slice.Eq.{bytes_eq-Decides}
use Rattle.xc_base.specs.declared.names.State.{State}
use Rattle.xc_base.specs.declared.names.State.TheVariants.{Connecting}
use Rattle.tree_steps.specs.Reports.{Reports, state_in}
use Rattle.cluster_tree.specs.StandingTrees.{Forest, ChangesAt, DifferAt, no_clusters}

by : (b : Bool) (old new : Reports) (address other : List ℕ) (state : State) → is_eq (slice_cmp nat_cmp address other) ≡ b →
    lookup (λ a. is_eq (slice_cmp nat_cmp other a)) new ≡ cond (is_eq (slice_cmp nat_cmp address other)) (Some state) (lookup (λ a. is_eq (slice_cmp nat_cmp other a)) old) →
    (Contains (address ∷ []) other → ⊥) → state_in new other ≡ state_in old other
by true old new address other state is change never =
    let same : address ≡ other = (bytes_eq-Decides address other).0 (sym (is_eq-slice_cmp address other) ∙ is) in
    absurd (never (0, omega arith, same))
by false old new address other state is change never =
    ap (λ (o : Option State). unwrap_or o Connecting) (change ∙ ap (λ (b : Bool). cond b (Some state) (lookup (λ a. is_eq (slice_cmp nat_cmp other a)) old)) is)

pub differ_at : (old new : Reports) (address : List ℕ) (state : State) →
    ((other : List ℕ) → lookup (λ a. is_eq (slice_cmp nat_cmp other a)) new ≡ cond (is_eq (slice_cmp nat_cmp address other)) (Some state) (lookup (λ a. is_eq (slice_cmp nat_cmp other a)) old)) →
    DifferAt (address ∷ []) old new
differ_at old new address state change = λ other never. by (is_eq (slice_cmp nat_cmp address other)) old new address other state refl (change other) never

-- before any update there is nothing that a state could differ from
pub none_stand : (changed : List (List ℕ)) (reports : Reports) (forest : Forest) → forest ≡ no_clusters → ChangesAt changed reports forest
none_stand changed reports forest is = subst (λ (f : Forest). ChangesAt changed reports f) (sym is) (reports, ([], refl), λ address never. refl)
