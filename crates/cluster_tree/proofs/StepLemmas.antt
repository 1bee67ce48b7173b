-- Clusters that take an update in their places, one after another.
use Rattle.std.proofs.Common.{◌≡◌, ◌<◌, ◌≤◌, ◌&&◌, ℕ, Bool, true, false, cond, List, [], ◌∷◌, length, get_or, set, map, replicate, Some, ◌⊎◌, inl, inr, refl, sym, ap, ◌∙◌, subst, arith}
use Rattle.std.specs.Prelude.{All, IfOk, if◌then◌else◌, not}
use Rattle.std.specs.declared.cmp.Ordering.{Ordering}
use Rattle.std.specs.declared.cmp.Ordering.TheVariants.{Less, Equal, Greater}
use Rattle.std.specs.Ordering.{is_eq, is_gt, nat_cmp}
use Rattle.std.specs.BTreeSet.{BTreeSet, contains}
use Rattle.std.proofs.lemmas.Bool.{cases_eq, cases_lt}
use Rattle.std.proofs.lemmas.Cmp.{eq_by_cmp_equiv, nat_cmp_total}
use Rattle.std.proofs.lemmas.Map.Keys.{le_from_not_gt}
use Rattle.std.proofs.lemmas.Map.Lookups.{exact_unsigned}
use Rattle.std.proofs.lemmas.List.{get_or-map, get_or-set_other, get_or-set_same, get_or_default, get_or-replicate, get_or_past, length-map, length-replicate, length-set, same_lists}
use Rattle.xc_base.specs.declared.names.Time.{Time}
use Rattle.xds_config.specs.Configs.{AreLawfulLeaves}
use Rattle.tree_timers.specs.declared.timer_ends.TimerEnd.{TimerEnd}
use Rattle.tree_timers.specs.EndsKept.{Ends, HasEnd, HasPlace}
use Rattle.tree_steps.specs.Reports.{Reports}
use Rattle.tree_steps.specs.Users.{UserList}
use Rattle.cluster_tree.specs.declared.cluster_trees.Cluster.{Cluster}
use Rattle.cluster_tree.specs.declared.cluster_steps.InPlace.{InPlace}
use Rattle.cluster_tree.specs.StandingTrees.{Forest, clusters_after, entries_of, stands_in}
use Rattle.cluster_tree.specs.ClusterUsers.{AreIndexed, AreStepped, IsSound, StandBut}
use Rattle.cluster_tree.specs.PutEntries.{ChangesBut}
use Rattle.cluster_tree.specs.ClusterTimers.{AreDueMarked, AreLeft, AreSteppedAt, AreTimed, AreTimedBut, IsSteppedAt, IsTimed, is_due_at, stepped}
use Rattle.cluster_tree.specs.ViewChanges.{seen_of, IsChangeMark, MarkChangesInPlace}
use Rattle.cluster_tree.proofs.ForestLemmas.{steps_are, unread_stays}
use Rattle.cluster_tree.proofs.ChangeLemmas.{still_mark}
use Rattle.cluster_tree.proofs.TimerLemmas.{kept_timed, not_there}

-- ---- the least place is taken out

-- the set without a place
abbrev pub Loses : BTreeSet ℕ → BTreeSet ℕ → ℕ → Type 0
Loses due left place = (other : ℕ) → contains nat_cmp left other ≡ cond (is_eq (nat_cmp place other)) false (contains nat_cmp due other)

its_own : (place : ℕ) → is_eq (nat_cmp place place) ≡ true
its_own place = (eq_by_cmp_equiv nat_cmp_total).refl place

equal : (o : Ordering) → is_eq o ≡ true → o ≡ Equal
equal Less is = absurd (cc is)
equal Equal is = refl
equal Greater is = absurd (cc is)

apart : (place other : ℕ) → (other ≡ place → ⊥) → is_eq (nat_cmp place other) ≡ false
apart place other differ = by (is_eq (nat_cmp place other)) refl
  where
    by : (same : Bool) → is_eq (nat_cmp place other) ≡ same → same ≡ false
    by false is = refl
    by true is = absurd (differ (sym (exact_unsigned place other (equal (nat_cmp place other) is))))

pub lost : (due left : BTreeSet ℕ) (place : ℕ) → Loses due left place → is_due_at left place ≡ false
lost due left place loses = loses place ∙ ap (λ (b : Bool). cond b false (contains nat_cmp due place)) (its_own place)

pub left_alike : (due left : BTreeSet ℕ) (place other : ℕ) → Loses due left place → (other ≡ place → ⊥) → is_due_at left other ≡ is_due_at due other
left_alike due left place other loses differ = loses other ∙ ap (λ (b : Bool). cond b false (contains nat_cmp due other)) (apart place other differ)

still_due : (due left : BTreeSet ℕ) (place other : ℕ) → Loses due left place → is_due_at left other ≡ true → is_due_at due other ≡ true
still_due due left place other loses there = by (is_eq (nat_cmp place other)) (loses other)
  where
    by : (same : Bool) → contains nat_cmp left other ≡ cond same false (contains nat_cmp due other) → is_due_at due other ≡ true
    by true is = absurd (let clash : true ≡ false = sym there ∙ is in cc clash)
    by false is = sym is ∙ there

-- those that are left stand behind it
behind : (due left : BTreeSet ℕ) (place other : ℕ) → Loses due left place → is_gt (nat_cmp place other) ≡ false → is_due_at left other ≡ true → place < other
behind due left place other loses least there = by (cases_lt place other)
  where
    by : (place < other) ⊎ (other ≤ place) → place < other
    by (inl less) = less
    by (inr le) =
        let same : place ≡ other = (let before = le_from_not_gt place other least in omega (arith, before, le)) in
        absurd (let clash : true ≡ false = sym there ∙ (ap (λ (n : ℕ). is_due_at left n) (sym same) ∙ lost due left place loses) in cc clash)

-- ---- one cluster takes the update

pub step_made : (now : Time) (reports : Reports) (place : ℕ) (old new : InPlace) (x next : Cluster) (mark : Bool) → place < length old.clusters.items → length old.changed ≡ length old.clusters.items → x ≡ get_or old.clusters.items place x →
    next ≡ stepped now reports x → IsChangeMark mark (Some (seen_of x)) (seen_of next) → new.clusters.items ≡ set old.clusters.items place next → new.changed ≡ set old.changed place mark → new.anew ≡ set old.anew place true → IsTimed new.ends place next →
    ((end : TimerEnd) → HasEnd old.ends end → HasEnd new.ends end) → IsSteppedAt now reports place old new
step_made now reports place old new x next mark lt long is made marks put set_is anew_is timed kept =
    let among : place < length old.changed = omega (arith, lt, long) in
    let own : (d : Cluster) → get_or new.clusters.items place d ≡ next = λ d. ap (λ (cs : List Cluster). get_or cs place d) put ∙ get_or-set_same old.clusters.items place next d lt in
    let was : (d : Cluster) → x ≡ get_or old.clusters.items place d = λ d. is ∙ get_or_default old.clusters.items place x d lt in
    record {
      count = ap (λ (cs : List Cluster). length cs) put ∙ length-set old.clusters.items place next;
      here = λ d. own d ∙ (made ∙ ap (stepped now reports) (was d));
      others = λ other d differ. ap (λ (cs : List Cluster). get_or cs other d) put ∙ get_or-set_other old.clusters.items place other next d differ;
      marks = ap (λ (ms : List Bool). length ms) set_is ∙ length-set old.changed place mark;
      mark = λ d.
          subst (λ (c : Cluster). IsChangeMark (get_or new.changed place false) (Some (seen_of c)) (seen_of (get_or new.clusters.items place d))) (was d)
          (subst (λ (c : Cluster). IsChangeMark (get_or new.changed place false) (Some (seen_of x)) (seen_of c)) (sym (own d))
          (subst (λ (b : Bool). IsChangeMark b (Some (seen_of x)) (seen_of next)) (sym (ap (λ (ms : List Bool). get_or ms place false) set_is ∙ get_or-set_same old.changed place mark false among)) marks));
      other_marks = λ other differ. ap (λ (ms : List Bool). get_or ms other false) set_is ∙ get_or-set_other old.changed place other mark false differ;
      anew = anew_is;
      timed = λ d. subst (λ (c : Cluster). IsTimed new.ends place c) (sym (own d)) timed;
      ends = kept;
    }

-- ---- as far as the loop has come

abbrev pub was_taken : BTreeSet ℕ → BTreeSet ℕ → ℕ → Bool
was_taken first due place = is_due_at first place && not (is_due_at due place)

pub record AreSteppedBut (now : Time) (reports : Reports) (first due : BTreeSet ℕ) (old new : InPlace) : Type 0 where
  pub count : length new.clusters.items ≡ length old.clusters.items
  pub among : (place : ℕ) → is_due_at due place ≡ true → is_due_at first place ≡ true
  pub each : (place : ℕ) (d : Cluster) → place < length old.clusters.items →
      get_or new.clusters.items place d ≡ (if was_taken first due place then stepped now reports (get_or old.clusters.items place d) else get_or old.clusters.items place d)
  pub changed : MarkChangesInPlace new.changed old.clusters.items new.clusters.items
  pub marked : (place later : ℕ) → get_or new.changed place false ≡ true → is_due_at due later ≡ true → place < later
  pub anew_count : length new.anew ≡ length new.clusters.items
  pub anew : (place later : ℕ) → get_or new.anew place false ≡ true → is_due_at due later ≡ true → place < later
  pub taken : (place : ℕ) → place < length old.clusters.items → was_taken first due place ≡ true → get_or new.anew place false ≡ true
  pub stand : (place : ℕ) (d : Cluster) → get_or new.anew place false ≡ false → get_or new.clusters.items place d ≡ get_or old.clusters.items place d
  pub timed : AreTimedBut due new.ends new.clusters.items
  pub lawful : All (λ c. IfOk c.entry.state AreLawfulLeaves) new.clusters.items

neither_taken : (b : Bool) → (b && not b) ≡ false
neither_taken true = refl
neither_taken false = refl

-- no mark is set
pub none_marked : (marks : List Bool) (count : ℕ) → marks ≡ replicate count false → (place : ℕ) → get_or marks place false ≡ false
none_marked marks count is place = ap (λ (ms : List Bool). get_or ms place false) is ∙ by (cases_lt place count)
  where
    by : (place < count) ⊎ (count ≤ place) → get_or (replicate count false) place false ≡ false
    by (inl less) = get_or-replicate count place false false less
    by (inr le) = get_or_past (replicate count false) place false (subst (λ (n : ℕ). n ≤ place) (sym (length-replicate count false)) le)

pub steps_begin : (now : Time) (reports : Reports) (due : BTreeSet ℕ) (old : InPlace) → old.changed ≡ replicate (length old.clusters.items) false → old.anew ≡ replicate (length old.clusters.items) false → AreTimedBut due old.ends old.clusters.items →
    All (λ c. IfOk c.entry.state AreLawfulLeaves) old.clusters.items → AreSteppedBut now reports due due old old
steps_begin now reports due old unchanged fresh timed lawful = record {
  count = refl;
  among = λ place there. there;
  each = λ place d lt. sym (ap (λ (b : Bool). if b then stepped now reports (get_or old.clusters.items place d) else get_or old.clusters.items place d) (neither_taken (is_due_at due place)));
  changed = record {
    count = ap (λ (ms : List Bool). length ms) unchanged ∙ length-replicate (length old.clusters.items) false;
    each = λ place d lt. subst (λ (b : Bool). IsChangeMark b (Some (seen_of (get_or old.clusters.items place d))) (seen_of (get_or old.clusters.items place d)))
        (sym (none_marked old.changed (length old.clusters.items) unchanged place)) (still_mark (get_or old.clusters.items place d));
  };
  marked = λ place later on there. (let clash : true ≡ false = sym on ∙ none_marked old.changed (length old.clusters.items) unchanged place in absurd (cc clash));
  anew_count = ap (λ (ms : List Bool). length ms) fresh ∙ length-replicate (length old.clusters.items) false;
  anew = λ place later on there. (let clash : true ≡ false = sym on ∙ none_marked old.anew (length old.clusters.items) fresh place in absurd (cc clash));
  taken = λ place lt took. (let clash : true ≡ false = sym took ∙ neither_taken (is_due_at due place) in absurd (cc clash));
  stand = λ place d off. refl;
  timed = timed;
  lawful = lawful;
}

-- no place from the next one on is marked
pub none_behind : (now : Time) (reports : Reports) (first due : BTreeSet ℕ) (old new : InPlace) (place : ℕ) → AreSteppedBut now reports first due old new → is_due_at due place ≡ true → (later : ℕ) → place ≤ later → get_or new.changed later false ≡ false
none_behind now reports first due old new place are there later le = by (get_or new.changed later false) refl
  where
    by : (mark : Bool) → get_or new.changed later false ≡ mark → mark ≡ false
    by false is = refl
    by true is = let before = are.marked later place is there in absurd (omega (arith, before, le))

-- nor is one anew
pub none_anew : (now : Time) (reports : Reports) (first due : BTreeSet ℕ) (old new : InPlace) (place : ℕ) → AreSteppedBut now reports first due old new → is_due_at due place ≡ true → (later : ℕ) → place ≤ later → get_or new.anew later false ≡ false
none_anew now reports first due old new place are there later le = by (get_or new.anew later false) refl
  where
    by : (mark : Bool) → get_or new.anew later false ≡ mark → mark ≡ false
    by false is = refl
    by true is = let before = are.anew later place is there in absurd (omega (arith, before, le))

-- a place where no cluster stands
pub steps_past : (now : Time) (reports : Reports) (first due left : BTreeSet ℕ) (old new : InPlace) (place : ℕ) → Loses due left place → length new.clusters.items ≤ place → AreSteppedBut now reports first due old new → AreSteppedBut now reports first left old new
steps_past now reports first due left old new place loses past are = record {
  count = are.count;
  among = λ other there. are.among other (still_due due left place other loses there);
  each = λ other d lt.
      let count = are.count in
      are.each other d lt ∙ ap (λ (b : Bool). if (is_due_at first other && not b) then stepped now reports (get_or old.clusters.items other d) else get_or old.clusters.items other d)
      (sym (left_alike due left place other loses (λ same. absurd (omega (arith, same, lt, count, past)))));
  changed = are.changed;
  marked = λ other later on there. are.marked other later on (still_due due left place later loses there);
  anew_count = are.anew_count;
  anew = λ other later on there. are.anew other later on (still_due due left place later loses there);
  taken = λ other lt took.
      let count = are.count in
      are.taken other lt (ap (λ (b : Bool). is_due_at first other && not b) (sym (left_alike due left place other loses (λ same. absurd (omega (arith, same, lt, count, past))))) ∙ took);
  stand = are.stand;
  timed = λ other d lt off. are.timed other d lt (sym (left_alike due left place other loses (λ same. absurd (omega (arith, same, lt, past)))) ∙ off);
  lawful = are.lawful;
}

-- the cluster at a place took the update
module _ (now : Time) (reports : Reports) (first due left : BTreeSet ℕ) (old mid new : InPlace) (place : ℕ) (lt : place < length mid.clusters.items) (there : is_due_at due place ≡ true) (loses : Loses due left place)
    (least : (other : ℕ) → is_due_at due other ≡ true → is_gt (nat_cmp place other) ≡ false) (are : AreSteppedBut now reports first due old mid) (step : IsSteppedAt now reports place mid new) where
  not_yet : was_taken first due place ≡ false
  not_yet = ap (λ (b : Bool). b && not (is_due_at due place)) (are.among place there) ∙ ap (λ (b : Bool). not b) there

  by_now : was_taken first left place ≡ true
  by_now = ap (λ (b : Bool). b && not (is_due_at left place)) (are.among place there) ∙ ap (λ (b : Bool). not b) (lost due left place loses)

  -- it was as at first
  was : (d : Cluster) → get_or mid.clusters.items place d ≡ get_or old.clusters.items place d
  was d =
      let count = are.count in
      are.each place d (omega (arith, lt, count))
      ∙ ap (λ (b : Bool). if b then stepped now reports (get_or old.clusters.items place d) else get_or old.clusters.items place d) not_yet

  each_at : (other : ℕ) (d : Cluster) → other < length old.clusters.items → (other ≡ place) ⊎ (other ≡ place → ⊥) →
      get_or new.clusters.items other d ≡ (if was_taken first left other then stepped now reports (get_or old.clusters.items other d) else get_or old.clusters.items other d)
  each_at other d within (inl same) =
      subst (λ (n : ℕ). get_or new.clusters.items n d ≡ (if was_taken first left n then stepped now reports (get_or old.clusters.items n d) else get_or old.clusters.items n d)) (sym same)
      (step.here d ∙ (ap (λ (c : Cluster). stepped now reports c) (was d) ∙ sym (ap (λ (b : Bool). if b then stepped now reports (get_or old.clusters.items place d) else get_or old.clusters.items place d) by_now)))
  each_at other d within (inr differ) =
      step.others other d differ ∙ (are.each other d within ∙ ap (λ (b : Bool). if (is_due_at first other && not b) then stepped now reports (get_or old.clusters.items other d) else get_or old.clusters.items other d)
      (sym (left_alike due left place other loses differ)))

  changed_at : (other : ℕ) (d : Cluster) → other < length new.clusters.items → (other ≡ place) ⊎ (other ≡ place → ⊥) → IsChangeMark (get_or new.changed other false) (Some (seen_of (get_or old.clusters.items other d))) (seen_of (get_or new.clusters.items other d))
  changed_at other d within (inl same) =
      subst (λ (n : ℕ). IsChangeMark (get_or new.changed n false) (Some (seen_of (get_or old.clusters.items n d))) (seen_of (get_or new.clusters.items n d))) (sym same)
      (subst (λ (c : Cluster). IsChangeMark (get_or new.changed place false) (Some (seen_of c)) (seen_of (get_or new.clusters.items place d))) (was d) (step.mark d))
  changed_at other d within (inr differ) =
      let count = step.count in
      subst (λ (c : Cluster). IsChangeMark (get_or new.changed other false) (Some (seen_of (get_or old.clusters.items other d))) (seen_of c)) (sym (step.others other d differ))
      (subst (λ (b : Bool). IsChangeMark b (Some (seen_of (get_or old.clusters.items other d))) (seen_of (get_or mid.clusters.items other d))) (sym (step.other_marks other differ)) (are.changed.each other d (omega (arith, within, count))))

  marked_at : (other later : ℕ) → get_or new.changed other false ≡ true → is_due_at left later ≡ true → (other ≡ place) ⊎ (other ≡ place → ⊥) → other < later
  marked_at other later on due_later (inl same) =
      let less = behind due left place later loses (least later (still_due due left place later loses due_later)) due_later in omega (arith, less, same)
  marked_at other later on due_later (inr differ) = are.marked other later (sym (step.other_marks other differ) ∙ on) (still_due due left place later loses due_later)

  -- it is marked as anew
  anew_here : get_or new.anew place false ≡ true
  anew_here =
      let long = are.anew_count in
      ap (λ (ms : List Bool). get_or ms place false) step.anew ∙ get_or-set_same mid.anew place true false (omega (arith, lt, long))

  anew_there : (other : ℕ) → (other ≡ place → ⊥) → get_or new.anew other false ≡ get_or mid.anew other false
  anew_there other differ = ap (λ (ms : List Bool). get_or ms other false) step.anew ∙ get_or-set_other mid.anew place other true false differ

  anew_at : (other later : ℕ) → get_or new.anew other false ≡ true → is_due_at left later ≡ true → (other ≡ place) ⊎ (other ≡ place → ⊥) → other < later
  anew_at other later on due_later (inl same) =
      let less = behind due left place later loses (least later (still_due due left place later loses due_later)) due_later in omega (arith, less, same)
  anew_at other later on due_later (inr differ) = are.anew other later (sym (anew_there other differ) ∙ on) (still_due due left place later loses due_later)

  taken_at : (other : ℕ) → other < length old.clusters.items → was_taken first left other ≡ true → (other ≡ place) ⊎ (other ≡ place → ⊥) → get_or new.anew other false ≡ true
  taken_at other within took (inl same) = ap (λ (n : ℕ). get_or new.anew n false) same ∙ anew_here
  taken_at other within took (inr differ) =
      anew_there other differ ∙ are.taken other within (ap (λ (b : Bool). is_due_at first other && not b) (sym (left_alike due left place other loses differ)) ∙ took)

  stand_at : (other : ℕ) (d : Cluster) → get_or new.anew other false ≡ false → (other ≡ place) ⊎ (other ≡ place → ⊥) → get_or new.clusters.items other d ≡ get_or old.clusters.items other d
  stand_at other d off (inl same) = absurd (let clash : true ≡ false = sym anew_here ∙ (ap (λ (n : ℕ). get_or new.anew n false) (sym same) ∙ off) in cc clash)
  stand_at other d off (inr differ) = step.others other d differ ∙ are.stand other d (sym (anew_there other differ) ∙ off)

  timed_at : (other : ℕ) (d : Cluster) → other < length new.clusters.items → is_due_at left other ≡ false → (other ≡ place) ⊎ (other ≡ place → ⊥) → IsTimed new.ends other (get_or new.clusters.items other d)
  timed_at other d within off (inl same) = subst (λ (n : ℕ). IsTimed new.ends n (get_or new.clusters.items n d)) (sym same) (step.timed d)
  timed_at other d within off (inr differ) =
      let count = step.count in
      subst (λ (c : Cluster). IsTimed new.ends other c) (sym (step.others other d differ))
      (kept_timed mid.ends new.ends other (get_or mid.clusters.items other d) step.ends (are.timed other d (omega (arith, within, count)) (sym (left_alike due left place other loses differ) ∙ off)))

  lawful_at : (other : ℕ) (d : Cluster) → other < length new.clusters.items → (other ≡ place) ⊎ (other ≡ place → ⊥) → IfOk (get_or new.clusters.items other d).entry.state AreLawfulLeaves
  lawful_at other d within (inl same) =
      subst (λ (n : ℕ). IfOk (get_or new.clusters.items n d).entry.state AreLawfulLeaves) (sym same)
      (subst (λ (c : Cluster). IfOk c.entry.state AreLawfulLeaves) (sym (step.here d)) (are.lawful place d lt))
  lawful_at other d within (inr differ) =
      let count = step.count in
      subst (λ (c : Cluster). IfOk c.entry.state AreLawfulLeaves) (sym (step.others other d differ)) (are.lawful other d (omega (arith, within, count)))

  pub steps_on : AreSteppedBut now reports first left old new
  steps_on = record {
    count = step.count ∙ are.count;
    among = λ other still. are.among other (still_due due left place other loses still);
    each = λ other d within. each_at other d within (cases_eq other place);
    changed = record { count = step.marks ∙ (are.changed.count ∙ sym step.count); each = λ other d within. changed_at other d within (cases_eq other place) };
    marked = λ other later on still. marked_at other later on still (cases_eq other place);
    anew_count = ap (λ (ms : List Bool). length ms) step.anew ∙ (length-set mid.anew place true ∙ (are.anew_count ∙ sym step.count));
    anew = λ other later on still. anew_at other later on still (cases_eq other place);
    taken = λ other within took. taken_at other within took (cases_eq other place);
    stand = λ other d off. stand_at other d off (cases_eq other place);
    timed = λ other d within off. timed_at other d within off (cases_eq other place);
    lawful = λ other d within. lawful_at other d within (cases_eq other place);
  }

-- ---- once none is left

no_members : (places : List ℕ) → (0 < length places → ⊥) → places ≡ []
no_members [] none = refl
no_members (place ∷ places) none = absurd (none (omega arith))

pub none_due : (due : BTreeSet ℕ) → (0 < length due.keys → ⊥) → (place : ℕ) → is_due_at due place ≡ false
none_due due none place = ap (λ (places : List ℕ). let set : BTreeSet ℕ = record { keys = places } in contains nat_cmp set place) (no_members due.keys none)

taken : (b : Bool) → (b && not false) ≡ b
taken true = refl
taken false = refl

pub steps_end : (now : Time) (reports : Reports) (first due : BTreeSet ℕ) (old new : InPlace) → ((place : ℕ) → is_due_at due place ≡ false) → AreSteppedBut now reports first due old new → AreSteppedAt now reports first old.clusters.items new.clusters.items
steps_end now reports first due old new none are = record {
  count = are.count;
  each = λ place d lt.
      are.each place d lt
      ∙ (ap (λ (b : Bool). if (is_due_at first place && not b) then stepped now reports (get_or old.clusters.items place d) else get_or old.clusters.items place d) (none place)
      ∙ ap (λ (b : Bool). if b then stepped now reports (get_or old.clusters.items place d) else get_or old.clusters.items place d) (taken (is_due_at first place)));
}

pub stand_end : (now : Time) (reports : Reports) (first due : BTreeSet ℕ) (old new : InPlace) → AreSteppedBut now reports first due old new → StandBut new.anew old.clusters.items new.clusters.items
stand_end now reports first due old new are = record {
  count = are.anew_count;
  each = λ place d lt off. let count = are.count in (omega (arith, lt, count), are.stand place d off);
}

pub due_end : (now : Time) (reports : Reports) (first due : BTreeSet ℕ) (old new : InPlace) → ((place : ℕ) → is_due_at due place ≡ false) → AreSteppedBut now reports first due old new → AreDueMarked first new.anew
due_end now reports first due old new none are place lt there =
    let count = are.count in
    let long = are.anew_count in
    are.taken place (omega (arith, lt, count, long)) (ap (λ (b : Bool). b && not (is_due_at due place)) there ∙ ap (λ (b : Bool). not b) (none place))

pub timed_end : (due : BTreeSet ℕ) (ends : Ends) (clusters : List Cluster) → ((place : ℕ) → is_due_at due place ≡ false) → AreTimedBut due ends clusters → AreTimed ends clusters
timed_end due ends clusters none timed place d lt = timed place d lt (none place)

-- ---- what the steps come to

as_stepped : (now : Time) (reports : Reports) (b : Bool) (old new : Cluster) → new ≡ (if b then stepped now reports old else old) → (new ≡ old) ⊎ (new ≡ stepped now reports old)
as_stepped now reports true old new is = inr is
as_stepped now reports false old new is = inl is

pub are_stepped : (now : Time) (reports : Reports) (due : BTreeSet ℕ) (old new : List Cluster) → AreSteppedAt now reports due old new → AreStepped now reports old new
are_stepped now reports due old new steps = record {
  count = steps.count;
  each = λ place d lt. as_stepped now reports (is_due_at due place) (get_or old place d) (get_or new place d) (steps.each place d lt);
}

-- where the others wouldn't change, all took the update
pub all_stepped : (now : Time) (reports : Reports) (due : BTreeSet ℕ) (old new : List Cluster) → AreSteppedAt now reports due old new →
    ((place : ℕ) (d : Cluster) → place < length old → is_due_at due place ≡ false → stepped now reports (get_or old place d) ≡ get_or old place d) → new ≡ map (stepped now reports) old
all_stepped now reports due old new steps others =
    same_lists new (map (stepped now reports) old) (steps.count ∙ sym (length-map old (stepped now reports))) (λ place d lt. each place d lt)
  where
    by : (place : ℕ) (d : Cluster) → place < length old → (b : Bool) → is_due_at due place ≡ b → (if b then stepped now reports (get_or old place d) else get_or old place d) ≡ stepped now reports (get_or old place d)
    by place d lt true is = refl
    by place d lt false is = sym (others place d lt is)

    each : (place : ℕ) (d : Cluster) → place < length new → get_or new place d ≡ get_or (map (stepped now reports) old) place d
    each place d lt =
        let count = steps.count in
        let within : place < length old = omega (arith, lt, count) in
        steps.each place d within ∙ (by place d within (is_due_at due place) refl ∙ sym (get_or-map (stepped now reports) old place d d within))

-- so they are those of the next forest
pub all_took : (users : UserList) (put : List Bool) (changed : List (List ℕ)) (now : Time) (s : Reports) (due : BTreeSet ℕ) (forest : Forest) (new : List Cluster) → AreIndexed users forest.clusters → ChangesBut put changed s forest →
    ((place : ℕ) → get_or put place false ≡ true → HasPlace due place) → AreLeft forest.now now users changed due forest.clusters → AreSteppedAt now s due forest.clusters new → new ≡ clusters_after now s (entries_of forest.clusters) forest.clusters
all_took users put changed now s due forest new indexed asked among left steps =
    all_stepped now s due forest.clusters new steps (λ place d lt off. stays place d lt off) ∙ steps_are now s forest.clusters indexed.rising
  where
    unput : (place : ℕ) → is_due_at due place ≡ false → get_or put place false ≡ false
    unput place off = by (get_or put place false) refl
      where
        by : (mark : Bool) → get_or put place false ≡ mark → mark ≡ false
        by false is = refl
        by true is = absurd (not_there due place off (among place is))

    stays : (place : ℕ) (d : Cluster) → place < length forest.clusters → is_due_at due place ≡ false → stepped now s (get_or forest.clusters place d) ≡ get_or forest.clusters place d
    stays place d lt off =
        let same = asked.stand.each place d lt (unput place off) in
        let other = left place d lt off in
        let changes = asked.changes in
        subst (λ (c : Cluster). stepped now s c ≡ c) (sym same.1)
        (unread_stays users changed asked.before.now now changes.0 s asked.before.clusters changes.1.0 changes.1.1 changes.2 place d same.0
        (subst (λ (c : Cluster). IsSound users place c) same.1 (indexed.sound place d lt)) other.unread (subst (λ (c : Cluster). stands_in now c.state ≡ true) same.1 other.stands)
        (subst (λ (t : Time). t.0 ≤ now.0) (sym asked.now_is) other.goes_on))
