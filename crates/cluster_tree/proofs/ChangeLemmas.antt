-- Which of what is seen differs from before.
use Rattle.std.proofs.Common.{◌≡◌, ◌<◌, ◌≤◌, ◌+◌, ℕ, Bool, true, false, List, [], ◌∷◌, ◌++◌, length, get_or, Option, Some, None, Result, Ok, Err, ◌⊎◌, inl, inr, refl, sym, ap, ◌∙◌, subst, arith}
use Rattle.std.specs.Prelude.{◌↔◌, not, IsTrue, option_map}
use Rattle.std.specs.Option.{option_and_then}
use Rattle.std.proofs.lemmas.Bool.{cases_lt}
use Rattle.std.proofs.lemmas.List.{length_push, get_or_push, get_or_append_left}
use Rattle.xc_base.specs.declared.reason.Reason.{Reason}
use Rattle.tree_steps.specs.declared.tree_view.TreeView.{TreeView}
use Rattle.cluster_tree.specs.declared.cluster_trees.Cluster.{Cluster}
use Rattle.cluster_tree.specs.declared.cluster_trees.Standing.{Standing}
use Rattle.cluster_tree.specs.StandingTrees.{view_in}
use Rattle.cluster_tree.specs.ViewChanges.{seen_of, seen_named, tree_view_in, tree_view_of, IsChangeMark, MarkChanges}

-- a mark from a comparison
pub mark_by : {A : Type 0} (same : Bool) (before : Option A) (now : A) → (IsTrue same ↔ (before ≡ Some now)) → IsChangeMark (not same) before now
mark_by true before now says = record {
  stays = λ off. says.0 refl;
  differs = λ on is. (let clash : false ≡ true = on in absurd (cc));
}
mark_by false before now says = record {
  stays = λ off. (let clash : true ≡ false = off in absurd (cc));
  differs = λ on is. (let clash : false ≡ true = says.1 is in absurd (cc));
}

state_mark : (mark : Bool) (state : Result Standing Reason) (now : TreeView) → IsChangeMark mark (tree_view_in state) now → IsChangeMark mark (Some (view_in state)) (Ok now)
state_mark mark (Ok s) now is = record {
  stays = λ off. (let same : Some s.view ≡ Some now = is.stays off in cc);
  differs = λ on same. is.differs on (cc);
}
state_mark mark (Err reason) now is = record {
  stays = λ off. (let clash : None ≡ Some now = is.stays off in absurd (cc));
  differs = λ on same. absurd (cc);
}

-- the mark of a cluster that has trees
pub cluster_mark : (mark : Bool) (old : Option Cluster) (now : TreeView) → IsChangeMark mark (option_and_then tree_view_of old) now → IsChangeMark mark (option_map seen_of old) (Ok now)
cluster_mark mark None now is = record {
  stays = λ off. (let clash : None ≡ Some now = is.stays off in absurd (cc));
  differs = λ on same. absurd (cc);
}
cluster_mark mark (Some c) now is = state_mark mark c.state now is

-- ---- the marks of all clusters

abbrev HasMark : List Cluster → Bool → Cluster → Type 0
HasMark old mark cluster = IsChangeMark mark (seen_named cluster.entry.name old) (seen_of cluster)

-- one more cluster with its mark
pub marks_more : (old new newer : List Cluster) (marks more : List Bool) (cluster : Cluster) (mark : Bool) → MarkChanges marks old new → newer ≡ new ++ cluster ∷ [] → more ≡ marks ++ mark ∷ [] →
    IsChangeMark mark (seen_named cluster.entry.name old) (seen_of cluster) → MarkChanges more old newer
marks_more old new newer marks more cluster mark was is are here =
    subst (λ (cs : List Cluster). MarkChanges more old cs) (sym is) (subst (λ (ms : List Bool). MarkChanges ms old (new ++ cluster ∷ [])) (sym are) (record {
      count = length_push marks mark ∙ (ap (λ (n : ℕ). n + 1) was.count ∙ sym (length_push new cluster));
      each = λ place d lt. by place d lt (cases_lt place (length new));
    }))
  where
    by : (place : ℕ) (d : Cluster) → place < length (new ++ cluster ∷ []) → (place < length new) ⊎ (length new ≤ place) →
        HasMark old (get_or (marks ++ mark ∷ []) place false) (get_or (new ++ cluster ∷ []) place d)
    by place d lt (inl within) =
        let c : get_or (new ++ cluster ∷ []) place d ≡ get_or new place d = get_or_append_left new (cluster ∷ []) d place within in
        let among : place < length marks = omega (arith, within, was.count) in
        let m : get_or (marks ++ mark ∷ []) place false ≡ get_or marks place false = get_or_append_left marks (mark ∷ []) false place among in
        subst (λ (x : Cluster). HasMark old (get_or (marks ++ mark ∷ []) place false) x) (sym c) (subst (λ (b : Bool). HasMark old b (get_or new place d)) (sym m) (was.each place d within))
    by place d lt (inr past) =
        let long = length_push new cluster in
        let last : length new ≡ place = omega (arith, long, lt, past) in
        let c : get_or (new ++ cluster ∷ []) place d ≡ cluster = get_or_push new cluster d place last in
        let m : get_or (marks ++ mark ∷ []) place false ≡ mark = get_or_push marks mark false place (was.count ∙ last) in
        subst (λ (x : Cluster). HasMark old (get_or (marks ++ mark ∷ []) place false) x) (sym c) (subst (λ (b : Bool). HasMark old b cluster) (sym m) here)

abbrev HasMarkIn : Cluster → Bool → Cluster → Type 0
HasMarkIn old mark new = IsChangeMark mark (Some (seen_of old)) (seen_of new)

pub still_mark : (cluster : Cluster) → HasMarkIn cluster false cluster
still_mark cluster = record {
  stays = λ off. refl;
  differs = λ on. (let clash : false ≡ true = on in absurd (cc));
}
