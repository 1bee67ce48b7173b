-- What is seen of clusters, block by block.
use Rattle.std.proofs.Common.{◌≡◌, ◌<◌, ◌≤◌, ◌+◌, ◌-◌, ◌*◌, ◌%◌, ◌++◌, ◌⊎◌, ℕ, Bool, true, false, List, [], ◌∷◌, length, min, take, drop, get_or, Option, Some, None, inl, inr, refl, sym, ap, subst, ◌∙◌, arith}
use Rattle.std.specs.Prelude.{◌↔◌, slice_get, Contains, IfSome, Result}
use Rattle.std.proofs.lemmas.Bool.{cases_lt}
use Rattle.std.proofs.Math.Nat.{mul-mod_right}
use Rattle.std.proofs.Math.Seq.{take-add}
use Rattle.std.proofs.lemmas.List.{get_or_default, get_or-map, length-drop, length-map, length-take, length-take-le, map-append, same_lists, take_min, take_rest}
use Rattle.std.proofs.lemmas.Option.{get_or_from_slice_get, slice_get-get_or}
use Rattle.xc_base.specs.declared.reason.Reason.{Reason}
use Rattle.tree_steps.specs.declared.tree_view.TreeView.{TreeView}
use Rattle.block_list.proofs.BlockLemmas.{get_drop, get_take}
use Rattle.place_marks.specs.Marks.{AreRising}
use Rattle.cluster_tree.specs.declared.cluster_trees.Cluster.{Cluster}
use Rattle.cluster_tree.specs.StandingTrees.{views_of}
use Rattle.cluster_tree.specs.ViewChanges.{seen_of, MarkChangesInPlace}
use Rattle.cluster_tree.specs.ClusterUsers.{StandBut}
use Rattle.cluster_tree.specs.KeptViews.{StayBut, AreViewsIn, IsCountBefore}

abbrev pub Seen : Type 0
Seen = Result TreeView Reason

-- ---- the members of a block

pub in_part : {T : Type 0} (xs : List T) (from i : ℕ) → i < length (take 32 (drop from xs)) → i < 32
in_part xs from i lt = let long = length-take 32 (drop from xs) in omega (arith, long, lt)

pub in_whole : {T : Type 0} (xs : List T) (from i : ℕ) → i < length (take 32 (drop from xs)) → from + i < length xs
in_whole xs from i lt =
    let long = length-take 32 (drop from xs) in
    let left = length-drop from xs in
    omega (arith, long, left, lt)

-- each is the one at its place in the whole list
pub at_part : {T : Type 0} (xs : List T) (from i : ℕ) (d : T) → i < length (take 32 (drop from xs)) → get_or (take 32 (drop from xs)) i d ≡ get_or xs (from + i) d
at_part xs from i d lt =
    sym (get_or_from_slice_get xs (from + i) (get_or (take 32 (drop from xs)) i d) d
    (sym (get_take (drop from xs) 32 i (in_part xs from i lt) ∙ get_drop xs from i) ∙ slice_get-get_or (take 32 (drop from xs)) i d lt))

-- the first members behind a place, where a split takes them
pub first_behind : {T : Type 0} (xs : List T) (from k : ℕ) → k ≡ min (length (take (length xs - from) (drop from xs))) 32 → take k (take (length xs - from) (drop from xs)) ≡ take 32 (drop from xs)
first_behind {T} xs from k is =
    let rest : List T = take (length xs - from) (drop from xs) in
    let swapped : min (length rest) 32 ≡ min 32 (length rest) = omega arith in
    ap (λ n. take n rest) (is ∙ swapped) ∙ (take_min 32 rest ∙ ap (λ (ys : List T). take 32 ys) (take_rest xs from))

-- ---- a block that stays

pub block_stays : (views block : List Seen) (number : ℕ) (clusters : List Cluster) → block ≡ take 32 (drop (32 * number) views) → length block ≡ length clusters
    → ((place : ℕ) (d : Cluster) → place < length clusters → IfSome (slice_get views (32 * number + place)) (λ view. view ≡ seen_of (get_or clusters place d))) → block ≡ views_of clusters
block_stays views block number clusters is count stay =
    same_lists block (views_of clusters) (count ∙ sym (length-map clusters seen_of)) (λ place d lt. each place d lt)
  where
    by : (o : Option Seen) (view seen : Seen) → o ≡ Some view → IfSome o (λ v. v ≡ seen) → view ≡ seen
    by None view seen none holds = absurd (cc none)
    by (Some v) view seen same holds = cc (same, holds)

    each : (place : ℕ) (d : Seen) → place < length block → get_or block place d ≡ get_or (views_of clusters) place d
    each place d lt =
        let among : place < length clusters = subst (λ (n : ℕ). place < n) count lt in
        let here : place < length (take 32 (drop (32 * number) views)) = subst (λ (b : List Seen). place < length b) is lt in
        let read : slice_get views (32 * number + place) ≡ Some (get_or block place d) =
        sym (get_take (drop (32 * number) views) 32 place (in_part views (32 * number) place here) ∙ get_drop views (32 * number) place)
        ∙ (ap (λ (b : List Seen). slice_get b place) (sym is) ∙ slice_get-get_or block place d lt) in
        let x : Cluster = one clusters place among in
        by (slice_get views (32 * number + place)) (get_or block place d) (seen_of (get_or clusters place x)) read (stay place x among)
        ∙ sym (get_or-map seen_of clusters place x d among)
      where
        one : (cs : List Cluster) (i : ℕ) → i < length cs → Cluster
        one [] i lt = absurd (omega (arith, lt))
        one (c ∷ cs) i lt = c

-- ---- one block more

pub block_more : (clusters : List Cluster) (number : ℕ) (after more block : List Seen) → after ≡ views_of (take (32 * number) clusters) → block ≡ views_of (take 32 (drop (32 * number) clusters)) → more ≡ after ++ block
    → more ≡ views_of (take (32 * (number + 1)) clusters)
block_more clusters number after more block was is all =
    all
    ∙ (ap (λ (vs : List Seen). vs ++ block) was
    ∙ (ap (λ (vs : List Seen). views_of (take (32 * number) clusters) ++ vs) is
    ∙ (sym (map-append seen_of (take (32 * number) clusters) (take 32 (drop (32 * number) clusters)))
    ∙ ap (λ (cs : List Cluster). views_of cs)
    (sym (take-add (32 * number) 32 clusters) ∙ ap (λ (n : ℕ). take n clusters) (let next : 32 * number + 32 ≡ 32 * (number + 1) = omega arith in next)))))

pub block_some : (clusters : List Cluster) (number : ℕ) (block : List Seen) → 32 * number < length clusters → block ≡ views_of (take 32 (drop (32 * number) clusters)) → 0 < length block
block_some clusters number block lt is =
    let count : length block ≡ length (take 32 (drop (32 * number) clusters)) = ap (λ (vs : List Seen). length vs) is ∙ length-map (take 32 (drop (32 * number) clusters)) seen_of in
    let long = length-take 32 (drop (32 * number) clusters) in
    let left = length-drop (32 * number) clusters in
    omega (arith, count, long, left, lt)

pub block_most : (clusters : List Cluster) (number : ℕ) (block : List Seen) → block ≡ views_of (take 32 (drop (32 * number) clusters)) → length block ≤ 32
block_most clusters number block is =
    let count : length block ≡ length (take 32 (drop (32 * number) clusters)) = ap (λ (vs : List Seen). length vs) is ∙ length-map (take 32 (drop (32 * number) clusters)) seen_of in
    let long = length-take 32 (drop (32 * number) clusters) in
    omega (arith, count, long)

pub whole_so_far : (clusters : List Cluster) (number : ℕ) (after : List Seen) → 32 * number < length clusters → after ≡ views_of (take (32 * number) clusters) → length after % 32 ≡ 0
whole_so_far clusters number after lt was =
    ap (λ (n : ℕ). n % 32) (ap (λ (vs : List Seen). length vs) was ∙ (length-map (take (32 * number) clusters) seen_of ∙ length-take-le (32 * number) clusters (omega (arith, lt)))) ∙ mul-mod_right 32 number

-- ---- places before an end

-- so many in front stand before it
abbrev pub AreBefore : List ℕ → ℕ → ℕ → Type 0
AreBefore places end count = (k d : ℕ) → k < count → get_or places k d < end

-- ---- where the views of unmarked clusters stay

-- the marked places, in rising order
pub record AreMarkedAt (marks : List Bool) (places : List ℕ) : Type 0 where
  pub rising : AreRising places
  pub marked : (place : ℕ) → (get_or marks place false ≡ true) ↔ Contains places place

never_falls : (places : List ℕ) → AreRising places → (i j d : ℕ) → i ≤ j → j < length places → get_or places i d ≤ get_or places j d
never_falls places rising i j d le lt = by (cases_lt i j)
  where
    by : (i < j) ⊎ (j ≤ i) → get_or places i d ≤ get_or places j d
    by (inl less) = omega (arith, rising i j d less lt)
    by (inr least) =
        let one : i ≡ j = omega (arith, le, least) in
        subst (λ (n : ℕ). get_or places i d ≤ get_or places n d) one (omega arith)

-- no place between two ends is marked, where as many marked places stand before both
pub none_between : (marks : List Bool) (places : List ℕ) (from end count place : ℕ) → AreMarkedAt marks places → AreBefore places from count → IsCountBefore places end count → from ≤ place → place < end → get_or marks place false ≡ false
none_between marks places from end count place are before counted le lt = by (get_or marks place false) refl
  where
    nowhere : Contains places place → ⊥
    nowhere among = at (get_or_default places among.0 0 place among.1 ∙ among.2) (cases_lt among.0 count)
      where
        at : get_or places among.0 0 ≡ place → (among.0 < count) ⊎ (count ≤ among.0) → ⊥
        at is (inl less) = omega (arith, le, is, before among.0 0 less)
        at is (inr past) = omega (arith, lt, is, counted.stops 0 (omega (arith, past, among.1)), never_falls places are.rising count among.0 0 past among.1)

    by : (mark : Bool) → get_or marks place false ≡ mark → mark ≡ false
    by true on = absurd (nowhere ((are.marked place).0 on))
    by false off = refl

pub part_stays : (marks : List Bool) (places : List ℕ) (views : List Seen) (clusters : List Cluster) (number before count : ℕ) → AreMarkedAt marks places → StayBut marks views clusters
    → AreBefore places (32 * number) before → IsCountBefore places (32 * (number + 1)) count → count ≤ before → (place : ℕ) (d : Cluster) → place < length (take 32 (drop (32 * number) clusters))
    → IfSome (slice_get views (32 * number + place)) (λ view. view ≡ seen_of (get_or (take 32 (drop (32 * number) clusters)) place d))
part_stays marks places views clusters number before count are stay passed counted le place d lt =
    let among : 32 * number + place < length clusters = in_whole clusters (32 * number) place lt in
    let few : place < 32 = in_part clusters (32 * number) place lt in
    let off = none_between marks places (32 * number) (32 * (number + 1)) count (32 * number + place) are (λ k x less. passed k x (omega (arith, le, less))) counted (omega arith) (omega (arith, few)) in
    subst (λ (c : Cluster). IfSome (slice_get views (32 * number + place)) (λ view. view ≡ seen_of c)) (sym (at_part clusters (32 * number) place d lt))
    (stay (32 * number + place) d among off)

pub stay_in_place : (marks : List Bool) (views : List Seen) (old new : List Cluster) → length new ≡ length old → MarkChangesInPlace marks old new → AreViewsIn views old → StayBut marks views new
stay_in_place marks views old new long changes stand place d lt off =
    subst (λ (s : Seen). IfSome (slice_get views place) (λ view. view ≡ s)) (same_seen _ _ ((changes.each place d lt).stays off)) (stand place d (omega (arith, lt, long)))
  where
    same_seen : (a b : Seen) → Some a ≡ Some b → a ≡ b
    same_seen a b is = cc

pub stay_standing : (marks : List Bool) (views : List Seen) (old new : List Cluster) → StandBut marks old new → AreViewsIn views old → StayBut marks views new
stay_standing marks views old new stood stand place d lt off =
    let both = stood.each place d lt off in
    subst (λ (c : Cluster). IfSome (slice_get views place) (λ view. view ≡ seen_of c)) (sym both.1) (stand place d both.0)

pub views_in : (clusters : List Cluster) (views : List Seen) → views ≡ views_of clusters → AreViewsIn views clusters
views_in clusters views is place d lt =
    subst (λ (vs : List Seen). IfSome (slice_get vs place) (λ view. view ≡ seen_of (get_or clusters place d))) (sym is)
    (subst (λ (o : Option Seen). IfSome o (λ view. view ≡ seen_of (get_or clusters place d)))
    (sym (slice_get-get_or (views_of clusters) place (seen_of d) (subst (λ (n : ℕ). place < n) (sym (length-map clusters seen_of)) lt)))
    (get_or-map seen_of clusters place d (seen_of d) lt))

pub none_in : (clusters : List Cluster) (views : List Seen) → views ≡ [] → AreViewsIn views clusters
none_in clusters views none place d lt = subst (λ (vs : List Seen). IfSome (slice_get vs place) (λ view. view ≡ seen_of (get_or clusters place d))) (sym none) tt
