-- The places of clusters of which a leaf has its endpoints from a key that changed.
use Rattle.std.proofs.Common.{◌≡◌, ◌<◌, ◌≤◌, ◌+◌, ◌-◌, ◌*◌, ◌%◌, ◌++◌, ◌⊎◌, ℕ, zero, suc, Bool, true, false, ◌||◌, Option, List, [], ◌∷◌, length, min, take, drop, map, get_or, inl, inr, refl, sym, ap, ap₂, subst, ◌∙◌, arith}
use Rattle.std.specs.Prelude.{◌↔◌, Contains}
use Rattle.std.specs.List.{list_any}
use Rattle.std.proofs.lemmas.Bool.{cases_lt}
use Rattle.std.proofs.lemmas.List.{drop_all, drop-drop, get_or_default, get_or-drop, get_or-map, get_or-take, length-drop, length-take, length-take-le, take_min, take_rest}
use Rattle.std.proofs.lemmas.List.Folds.{list_any_none}
use Rattle.std.proofs.Math.Nat.{mul-mod_right}
use Rattle.xc_base.specs.declared.names.Key.{Key}
use Rattle.xds_config.specs.declared.config.ClusterEntry.{ClusterEntry}
use Rattle.place_marks.specs.Marks.{AreRising}
use Rattle.dep_manager.specs.EndpointNews.{Told, is_told}
use Rattle.dep_manager.specs.LeafPlaces.{Sources, has_place}
use Rattle.dep_manager.specs.RenewedConfigs.{renewed_entries, renewed_entry}
use Rattle.dep_manager.specs.ToldPlaces.{AreToldFrom, IsCountBefore}
use Rattle.dep_manager.proofs.MarkSetLemmas.{has_marked, has_member, member_at, other_place}
use Rattle.dep_manager.proofs.PairLemmas.{none_left, paired_long, paired_more}
use Rattle.dep_manager.proofs.ShownLemmas.{neither, untouched}

-- ---- places in rising order

never_falls : (places : List ℕ) → AreRising places → (i j d : ℕ) → i ≤ j → j < length places → get_or places i d ≤ get_or places j d
never_falls places rising i j d le lt = by (cases_lt i j)
  where
    by : (i < j) ⊎ (j ≤ i) → get_or places i d ≤ get_or places j d
    by (inl less) = omega (arith, rising i j d less lt)
    by (inr least) =
        let one : i ≡ j = omega (arith, le, least) in
        subst (λ (n : ℕ). get_or places i d ≤ get_or places n d) one (omega arith)

-- places in front that stand before another one aren't it
has_behind : (places : List ℕ) (count end at : ℕ) → ((k d : ℕ) → k < count → get_or places k d < end) → end ≤ at → has_place (drop count places) at ≡ has_place places at
has_behind places zero end at before le = refl
has_behind [] (suc count) end at before le = refl
has_behind (place ∷ places) (suc count) end at before le =
    let less : place < end = before 0 0 (omega arith) in
    has_behind places count end at (λ k d lt. before (suc k) d (omega (arith, lt))) le
    ∙ ap (λ b. b || has_place places at) (sym (other_place place at (λ same. omega (arith, less, le, same))))

-- ---- what is left behind a count

pub told_behind : (told : Told) (places : List ℕ) (first n count next : ℕ) (sources : Sources) → next ≡ first + n → AreToldFrom told places first sources → IsCountBefore places next count → AreToldFrom told (drop count places) next (drop n sources)
told_behind told places first n count next sources is are counted = record {
  rising = λ i j d less lt.
      let long = length-drop count places in
      subst (λ a. a < get_or (drop count places) j d) (sym (get_or-drop count places i d))
      (subst (λ b. get_or places (count + i) d < b) (sym (get_or-drop count places j d)) (are.rising (count + i) (count + j) d (omega (arith, less)) (omega (arith, long, lt))));
  least = λ k d lt.
      let long = length-drop count places in
      let here : count < length places = omega (arith, long, lt) in
      let end = counted.stops d here in
      let later = never_falls places are.rising count (count + k) d (omega arith) (omega (arith, long, lt)) in
      subst (λ a. next ≤ a) (sym (get_or-drop count places k d)) (omega (arith, end, later));
  each = λ i lt.
      let long = length-drop n sources in
      let whole : next + i ≡ first + (n + i) = omega (arith, is) in
      has_behind places count next (next + i) counted.before (omega arith)
      ∙ (ap (has_place places) whole
      ∙ (are.each (n + i) (omega (arith, long, lt))
      ∙ ap (list_any (is_told told)) (sym (get_or-drop n sources i []))));
}

-- the keys of some clusters in front
pub told_part : (told : Told) (places : List ℕ) (first n : ℕ) (sources part : Sources) → part ≡ take n sources → AreToldFrom told places first sources → AreToldFrom told places first part
told_part told places first n sources part is are = record {
  rising = are.rising;
  least = are.least;
  each = λ i lt.
      let cut : length part ≡ length (take n sources) = ap length is in
      let long = length-take n sources in
      are.each i (omega (arith, cut, long, lt))
      ∙ ap (list_any (is_told told)) (sym (ap (λ ss. get_or ss i []) is ∙ get_or-take n sources i [] (omega (arith, cut, long, lt))));
}

-- no place is told before an end before which none stands
none_before : (told : Told) (places : List ℕ) (first end i : ℕ) (sources : Sources) → AreToldFrom told places first sources → IsCountBefore places end 0 → first + i < end → has_place places (first + i) ≡ false
none_before told places first end i sources are counted lt = by (has_place places (first + i)) refl
  where
    by : (b : Bool) → has_place places (first + i) ≡ b → b ≡ false
    by false is = refl
    by true is =
        let among = member_at places (first + i) is in
        let stops = counted.stops (first + i) (omega (arith, among.1)) in
        let later = never_falls places are.rising 0 among.0 (first + i) (omega arith) among.1 in
        absurd (omega (arith, lt, stops, later, among.2))

-- the cluster at a place is told where a place stands before the next one
pub first_tested : (told : Told) (places : List ℕ) (at first end count : ℕ) (sources : Sources) (own : List (Option Key)) (test : Bool) → end ≡ first + 1 → AreToldFrom told places first (drop at sources) → IsCountBefore places end count → at < length sources →
    own ≡ get_or sources at own → ((test ≡ true) × (1 ≤ count)) ⊎ ((test ≡ false) × (count < 1)) → test ≡ list_any (is_told told) own
first_tested told places at first end count sources own test is are counted some item tells = by tells
  where
    keys : get_or (drop at sources) 0 [] ≡ own
    keys = get_or-drop at sources 0 [] ∙ (ap (λ n. get_or sources n []) (let same : at + 0 ≡ at = omega arith in same) ∙ (get_or_default sources at [] own some ∙ sym item))

    there : 0 < length (drop at sources)
    there = let long = length-drop at sources in omega (arith, long, some)

    asked : has_place places (first + 0) ≡ list_any (is_told told) own
    asked = are.each 0 there ∙ ap (list_any (is_told told)) keys

    by : ((test ≡ true) × (1 ≤ count)) ⊎ ((test ≡ false) × (count < 1)) → test ≡ list_any (is_told told) own
    by (inl (passed, lt)) =
        let inside = counted.within in
        let least = are.least 0 0 (omega (arith, lt, inside)) in
        let before = counted.before 0 0 (omega (arith, lt)) in
        let here : get_or places 0 0 ≡ first + 0 = omega (arith, least, before, is) in
        passed ∙ (sym (has_member places 0 0 (omega (arith, lt, inside))) ∙ (ap (has_place places) here ∙ asked))
    by (inr (not_yet, few)) =
        let none : count ≡ 0 = omega (arith, few) in
        not_yet ∙ (sym (none_before told places first end 0 (drop at sources) are (subst (IsCountBefore places end) none counted) (omega (arith, is))) ∙ asked)

-- the same at the places that are left
pub told_begin : (told : Told) (places : List ℕ) (first : ℕ) (sources : Sources) → AreToldFrom told places first sources → AreToldFrom told places (first + 0) (drop 0 sources)
told_begin told places first sources are = subst (λ n. AreToldFrom told places n sources) (let same : first ≡ first + 0 = omega arith in same) are

-- so many further
pub told_next : (told : Told) (places left : List ℕ) (first at n next end from count : ℕ) (sources : Sources) → left ≡ drop count places → end ≡ first + n → next ≡ end → from ≡ at + n →
    AreToldFrom told places first (drop at sources) → IsCountBefore places end count → AreToldFrom told left next (drop from sources)
told_next told places left first at n next end from count sources rest is same whole are counted =
    subst (λ ps. AreToldFrom told ps next (drop from sources)) (sym rest)
    (subst (λ p. AreToldFrom told (drop count places) p (drop from sources)) (sym same)
    (subst (λ k. AreToldFrom told (drop count places) end (drop k sources)) (sym whole)
    (subst (λ ss. AreToldFrom told (drop count places) end ss) (drop-drop n at sources) (told_behind told places first n count end (drop at sources) is are counted))))

-- ---- a block

pub none_told : (told : Told) (places : List ℕ) (first n count end : ℕ) (sources : Sources) → end ≡ first + n → length sources ≤ n → AreToldFrom told places first sources → IsCountBefore places end count → count ≤ 0 → list_any (list_any (is_told told)) sources ≡ false
none_told told places first n count end sources is few are counted le =
    let none : count ≡ 0 = omega (arith, le) in
    list_any_none (list_any (is_told told)) sources
    (λ k d lt. ap (list_any (is_told told)) (get_or_default sources k d [] lt) ∙ (sym (are.each k lt) ∙ none_before told places first end k sources are (subst (IsCountBefore places end) none counted) (omega (arith, is, few, lt))))

pub entries_stand : (told : Told) (entries : List ClusterEntry) (sources : Sources) → length entries ≤ length sources → list_any (list_any (is_told told)) sources ≡ false → entries ≡ renewed_entries told entries sources
entries_stand told [] sources few none = sym (none_left (renewed_entry told) sources)
entries_stand told (entry ∷ entries) [] few none = absurd (omega (arith, few))
entries_stand told (entry ∷ entries) (keys ∷ sources) few none =
    let (own, more) = neither (list_any (is_told told) keys) (list_any (list_any (is_told told)) sources) none in
    ap₂ (λ e es. e ∷ es) (sym (untouched told entry keys (list_any (is_told told) keys) own)) (entries_stand told entries sources (omega (arith, few)) more)

pub first_behind : {T : Type 0} (xs : List T) (from k : ℕ) → k ≡ min (length (take (length xs - from) (drop from xs))) 32 → take k (take (length xs - from) (drop from xs)) ≡ take 32 (drop from xs)
first_behind {T} xs from k is =
    let rest : List T = take (length xs - from) (drop from xs) in
    let swapped : min (length rest) 32 ≡ min 32 (length rest) = omega arith in
    ap (λ n. take n rest) (is ∙ swapped) ∙ (take_min 32 rest ∙ ap (λ (ys : List T). take 32 ys) (take_rest xs from))

-- where no block has the number, it has no clusters
pub no_block : (told : Told) (clusters : List ClusterEntry) (from : ℕ) (sources : Sources) → length clusters ≤ from → [] ≡ renewed_entries told (take 32 (drop from clusters)) sources
no_block told clusters from sources past = sym (ap (λ es. renewed_entries told (take 32 es) sources) (drop_all from clusters past) ∙ none_left (renewed_entry told) sources)

-- ---- all blocks

module _ (told : Told) (clusters : List ClusterEntry) (sources : Sources) (number : ℕ) (blocks block : List ClusterEntry) where
  abbrev pub AreSoFar : Type 0
  AreSoFar = blocks ≡ renewed_entries told (take (32 * number) clusters) (take (32 * number) sources)

  abbrev pub IsNext : Type 0
  IsNext = block ≡ renewed_entries told (take 32 (drop (32 * number) clusters)) (take 32 (drop (32 * number) sources))

  pub blocks_more : (more : List ClusterEntry) → AreSoFar → IsNext → more ≡ blocks ++ block → more ≡ renewed_entries told (take (32 * (number + 1)) clusters) (take (32 * (number + 1)) sources)
  blocks_more more so next grown =
      grown ∙ (ap₂ (λ bs b. bs ++ b) so next
      ∙ (sym (paired_more (renewed_entry told) clusters sources (32 * number) 32)
      ∙ ap (λ n. renewed_entries told (take n clusters) (take n sources)) (let step : 32 * number + 32 ≡ 32 * (number + 1) = omega arith in step)))

  pub so_far_whole : 32 * number < min (length clusters) (length sources) → AreSoFar → length blocks % 32 ≡ 0
  so_far_whole lt so =
      let long : length blocks ≡ min (length (take (32 * number) clusters)) (length (take (32 * number) sources)) = ap length so ∙ paired_long (renewed_entry told) (take (32 * number) clusters) (take (32 * number) sources) in
      let one = length-take-le (32 * number) clusters (omega (arith, lt)) in
      let other = length-take-le (32 * number) sources (omega (arith, lt)) in
      let same : length blocks ≡ 32 * number = omega (arith, long, one, other) in
      ap (λ n. n % 32) same ∙ mul-mod_right 32 number

  next_long : IsNext → length block ≡ min (min 32 (length clusters - 32 * number)) (min 32 (length sources - 32 * number))
  next_long next =
      let long : length block ≡ min (length (take 32 (drop (32 * number) clusters))) (length (take 32 (drop (32 * number) sources))) =
      ap length next ∙ paired_long (renewed_entry told) (take 32 (drop (32 * number) clusters)) (take 32 (drop (32 * number) sources)) in
      let one = length-take 32 (drop (32 * number) clusters) in
      let other = length-take 32 (drop (32 * number) sources) in
      let left = length-drop (32 * number) clusters in
      let right = length-drop (32 * number) sources in
      omega (arith, long, one, other, left, right)

  pub next_some : 32 * number < min (length clusters) (length sources) → IsNext → 0 < length block
  next_some lt next = let long = next_long next in omega (arith, long, lt)

  pub next_most : IsNext → length block ≤ 32
  next_most next = let long = next_long next in omega (arith, long)

-- ---- from the marks

pub told_marked : (told : Told) (marks : List Bool) (places : List ℕ) (sources : Sources) → marks ≡ map (list_any (is_told told)) sources → AreRising places → ((at : ℕ) → (get_or marks at false ≡ true) ↔ Contains places at) → AreToldFrom told places 0 sources
told_marked told marks places sources are rising marked = record {
  rising = rising;
  least = λ k d lt. omega arith;
  each = λ i lt.
      let here : 0 + i ≡ i = omega arith in
      ap (has_place places) here ∙ (has_marked marks places i (marked i) ∙ (ap (λ ms. get_or ms i false) are ∙ get_or-map (list_any (is_told told)) sources i [] false lt));
}

-- entries that were made by what a reader shows, and of the same clusters, are those that are made by what it read
pub entries_read : (told now : Told) (es those made : List ClusterEntry) (sources others : Sources) → made ≡ renewed_entries told es sources → told ≡ now → es ≡ those → sources ≡ others → made ≡ renewed_entries now those others
entries_read told now es those made sources others is same entries keys =
    is ∙ ap₂ (λ told es. renewed_entries told es sources) same entries ∙ ap (renewed_entries now those) keys
