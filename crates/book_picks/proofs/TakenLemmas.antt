-- What is kept once a pick was answered.
use Rattle.std.proofs.Common.{◌≡◌, ℕ, suc, ◌+◌, ◌-◌, ◌<◌, ◌≤◌, ◌^◌, min, Bool, true, false, List, [], ◌∷◌, map, length, get_or, set, refl, sym, ap, ◌∙◌, subst, arith, Option, Some, None, eq-eqb, eqb-true, zero-add}
use Rattle.std.specs.Prelude.{◌&&◌, ◌==◌, if◌then◌else◌, option_map, option_and_then, slice_get, bytes_eq}
use Rattle.std.specs.Option.{option_map_or}
use Rattle.std.specs.Map.{lookup}
use Rattle.std.proofs.lemmas.List.{get_or-set_same, get_or-set_other, length-set}
use Rattle.std.proofs.lemmas.Slice.Eq.{bytes_eq-Decides}
use Rattle.xc_base.specs.declared.names.CallId.{CallId}
use Rattle.xds_config.specs.declared.config.ClusterEntry.{ClusterEntry}
use Rattle.priority_lb.specs.ChildHistories as children
use Rattle.call_journal.specs.declared.event.CallerEvent.{CallerEvent}
use Rattle.call_journal.specs.declared.reply.CallerReply.{CallerReply}
use Rattle.call_journal.specs.declared.entry.What.{What}
use Rattle.call_journal.specs.declared.entry.Entry.{Entry}
use Rattle.book_trees.specs.config_assembly.Orders.{Name}
use Rattle.book_trees.specs.xds_history.Setting.{Setting}
use Rattle.book_trees.specs.xds_history.declared.page.ClusterTrees.{ClusterTrees}
use Rattle.book_trees.specs.xds_history.declared.page.Page.{Page}
use Rattle.book_trees.specs.xds_history.Page.{config_now, trees_now}
use Rattle.book_trees.specs.xds_history.Pages.{caller_page, page_of, pages}
use Rattle.book_trees.specs.xds_history.References.{held}
use Rattle.book_trees.specs.xds_history.Picks.{Place, place_in, same_locality, same_place, taken_by, turn}
use Rattle.book_picks.specs.declared.place_counts.PlaceKey.{PlaceKey}
use Rattle.book_picks.specs.declared.place_counts.PlaceCounts.{PlaceCounts}
use Rattle.book_picks.specs.declared.kept_turns.Turns.{Turns}
use Rattle.book_picks.specs.CountedPlaces.{AreNumbered, IsRaised, KeepsIndexes, count_at, count_of, index_of, is_place, raised}
use Rattle.book_picks.specs.ChosenPlaces.{key_of, served}
use Rattle.book_picks.specs.TakenTurns.{TakesTurn, place_taken}
use Rattle.book_trees.specs.TreesKept.{clusters_of}
use Rattle.book_picks.specs.NamedPlaces.{ArePlacesOf}
use Rattle.book_picks.specs.TurnsKept.{AreRowsOf, AreTurnsAt, HasRow}
use Rattle.book_picks.proofs.CountedLemmas.{same_parts}
use Rattle.book_picks.proofs.IndexLemmas.{indexes_stay}

-- ---- places and their keys

all_three : (a b c : Bool) → a ≡ true → b ≡ true → c ≡ true → (a && b && c) ≡ true
all_three true true true is also too = refl
all_three false b c is also too = absurd (cc is)
all_three true false c is also too = absurd (cc also)
all_three true true false is also too = absurd (cc too)

each_of_three : (a b c : Bool) → (a && b && c) ≡ true → (a ≡ true) × (b ≡ true) × (c ≡ true)
each_of_three true true true is = (refl, refl, refl)
each_of_three false b c is = absurd (cc is)
each_of_three true false c is = absurd (cc is)
each_of_three true true false is = absurd (cc is)

all_two : (a b : Bool) → a ≡ true → b ≡ true → (a && b) ≡ true
all_two true true is also = refl
all_two false b is also = absurd (cc is)
all_two true false is also = absurd (cc also)

each_of_two : (a b : Bool) → (a && b) ≡ true → (a ≡ true) × (b ≡ true)
each_of_two true true is = (refl, refl)
each_of_two false b is = absurd (cc is)
each_of_two true false is = absurd (cc is)

-- places are one exactly where their keys are
pub keys_same : (a b : Place) → same_place a b ≡ true → key_of a ≡ key_of b
keys_same a b is =
    let (clusters, child, locality) = each_of_three (bytes_eq a.cluster b.cluster) (children.same_name a.child b.child) (same_locality a.locality b.locality) is in
    let (leaves, priorities) = each_of_two (bytes_eq a.child.0 b.child.0) (a.child.1 == b.child.1) child in
    let (regions, zones, sub_zones) = each_of_three (bytes_eq a.locality.region b.locality.region) (bytes_eq a.locality.zone b.locality.zone) (bytes_eq a.locality.sub_zone b.locality.sub_zone) locality in
    same_parts (key_of a) (key_of b) ((bytes_eq-Decides a.cluster b.cluster).0 clusters) ((bytes_eq-Decides a.child.0 b.child.0).0 leaves) (eqb-true a.child.1 b.child.1 priorities)
    ((bytes_eq-Decides a.locality.region b.locality.region).0 regions) ((bytes_eq-Decides a.locality.zone b.locality.zone).0 zones) ((bytes_eq-Decides a.locality.sub_zone b.locality.sub_zone).0 sub_zones)

pub same_keys : (a b : Place) → key_of a ≡ key_of b → same_place a b ≡ true
same_keys a b is =
    all_three (bytes_eq a.cluster b.cluster) (children.same_name a.child b.child) (same_locality a.locality b.locality)
    ((bytes_eq-Decides a.cluster b.cluster).1 (ap (λ k. k.cluster) is))
    (all_two (bytes_eq a.child.0 b.child.0) (a.child.1 == b.child.1) ((bytes_eq-Decides a.child.0 b.child.0).1 (ap (λ k. k.leaf) is)) (eq-eqb a.child.1 b.child.1 (ap (λ k. k.priority) is)))
    (all_three (bytes_eq a.locality.region b.locality.region) (bytes_eq a.locality.zone b.locality.zone) (bytes_eq a.locality.sub_zone b.locality.sub_zone)
    ((bytes_eq-Decides a.locality.region b.locality.region).1 (ap (λ k. k.region) is))
    ((bytes_eq-Decides a.locality.zone b.locality.zone).1 (ap (λ k. k.zone) is))
    ((bytes_eq-Decides a.locality.sub_zone b.locality.sub_zone).1 (ap (λ k. k.sub_zone) is)))

-- ---- turns are few

once : (b : Bool) → (if b then 1 else 0) ≤ 1
once true = omega arith
once false = omega arith

pub turns_few : (place : Place) (ps : List Page) → turn place ps ≤ length ps
turns_few place [] = omega arith
turns_few place (p ∷ ps) =
    let one = once (option_map_or (same_place place) (taken_by p.entry.what ps) false) in
    let more = turns_few place ps in omega arith

pub pages_many : (s : Setting) (past : List Entry) → length (pages s past) ≡ length past
pages_many s [] = refl
pages_many s (e ∷ past) = ap (λ n. suc n) (pages_many s past)

-- ---- one pick more

stop_far : (n m : ℕ) → n ≤ m → m < 2 ^ 63 → min (n + 1) (2 ^ 64 - 1) ≡ 1 + n
stop_far n m less small = omega arith

not_both : (b : Bool) → (b ≡ true → ⊥) → b ≡ false
not_both true never = absurd (never refl)
not_both false never = refl

module _ (ps : List Page) (old new : PlaceCounts) (numbered : AreNumbered old) (counted : (p : Place) → count_of old (key_of p) ≡ turn p ps) (few : length ps < 2 ^ 63) where
  -- the count of a place that was taken of
  own_count : (i : ℕ) (taken : Place) → index_of old (key_of taken) ≡ Some i → get_or (set old.counts.items i (min (get_or old.counts.items i 0 + 1) (2 ^ 64 - 1))) i 0 ≡ 1 + turn taken ps
  own_count i taken at =
      let less = numbered.within (key_of taken) i at in
      let is : get_or old.counts.items i 0 ≡ turn taken ps = ap (count_at old) (sym at) ∙ counted taken in
      get_or-set_same old.counts.items i (min (get_or old.counts.items i 0 + 1) (2 ^ 64 - 1)) 0 less
      ∙ ap (λ n. min (n + 1) (2 ^ 64 - 1)) is ∙ stop_far (turn taken ps) (length ps) (turns_few taken ps) few

  -- the count at an index, where that of one place is raised
  at_index : (i j : ℕ) (b : Bool) (taken place : Place) → (j == i) ≡ b → index_of old (key_of taken) ≡ Some i → index_of old (key_of place) ≡ Some j →
      get_or (set old.counts.items i (min (get_or old.counts.items i 0 + 1) (2 ^ 64 - 1))) j 0 ≡ (if same_place place taken then 1 else 0) + turn place ps
  at_index i j true taken place is at at_place =
      let same : j ≡ i = eqb-true j i is in
      let key : key_of place ≡ key_of taken = numbered.apart (key_of place) (key_of taken) i (at_place ∙ ap (λ n. Some n) same) at in
      let turns : turn taken ps ≡ turn place ps = sym (counted taken) ∙ ap (count_of old) (sym key) ∙ counted place in
      ap (λ n. get_or (set old.counts.items i (min (get_or old.counts.items i 0 + 1) (2 ^ 64 - 1))) n 0) same ∙ own_count i taken at ∙ ap (λ n. 1 + n) turns
      ∙ ap (λ b. (if b then 1 else 0) + turn place ps) (sym (same_keys place taken key))
  at_index i j false taken place is at at_place =
      let other : j ≡ i → ⊥ = λ same. let yes = eq-eqb j i same in cc in
      let apart : same_place place taken ≡ false = not_both (same_place place taken) (λ same. let e : Some j ≡ Some i = sym at_place ∙ ap (index_of old) (keys_same place taken same) ∙ at in other cc) in
      get_or-set_other old.counts.items i j (min (get_or old.counts.items i 0 + 1) (2 ^ 64 - 1)) 0 other
      ∙ ap (count_at old) (sym at_place) ∙ counted place ∙ sym (zero-add (turn place ps)) ∙ ap (λ b. (if b then 1 else 0) + turn place ps) (sym apart)

  -- the count of a place, where that of one place is raised
  at_place : (i : ℕ) (found : Option ℕ) (taken place : Place) → index_of old (key_of taken) ≡ Some i → index_of old (key_of place) ≡ found →
      option_map_or (λ j. get_or (set old.counts.items i (min (get_or old.counts.items i 0 + 1) (2 ^ 64 - 1))) j 0) found 0 ≡ (if same_place place taken then 1 else 0) + turn place ps
  at_place i None taken place at none =
      let apart : same_place place taken ≡ false = not_both (same_place place taken) (λ same. let e : None ≡ Some i = sym none ∙ ap (index_of old) (keys_same place taken same) ∙ at in cc) in
      ap (count_at old) (sym none) ∙ counted place ∙ sym (zero-add (turn place ps)) ∙ ap (λ b. (if b then 1 else 0) + turn place ps) (sym apart)
  at_place i (Some j) taken place at found = at_index i j (j == i) taken place refl at found

  counted_with : (index : Option ℕ) (taken : Option Place) (place : Place) → option_map (λ i. Some i) index ≡ option_map (λ p. index_of old (key_of p)) taken →
      option_map_or (λ j. get_or (raised old.counts.items index) j 0) (index_of old (key_of place)) 0 ≡ (if option_map_or (same_place place) taken false then 1 else 0) + turn place ps
  counted_with None None place is = counted place ∙ sym (zero-add (turn place ps))
  counted_with None (Some taken) place is = absurd (cc is)
  counted_with (Some i) None place is = absurd (cc is)
  counted_with (Some i) (Some taken) place is = let at : index_of old (key_of taken) ≡ Some i = cc in at_place i (index_of old (key_of place)) taken place at refl

  -- an index stays where it was
  pub index_stays : new.places ≡ old.places → (key : PlaceKey) → index_of new key ≡ index_of old key
  index_stays is key = ap (λ m. lookup (is_place key) m.entries) is

  pub counted_more : (index : Option ℕ) (taken : Option Place) → IsRaised old new index → option_map (λ i. Some i) index ≡ option_map (λ p. index_of old (key_of p)) taken →
      (place : Place) → count_of new (key_of place) ≡ (if option_map_or (same_place place) taken false then 1 else 0) + turn place ps
  counted_more index taken raises is place =
      ap (λ xs. option_map_or (λ j. get_or xs j 0) (index_of new (key_of place)) 0) raises.counts
      ∙ ap (λ o. option_map_or (λ j. get_or (raised old.counts.items index) j 0) o 0) (index_stays raises.places (key_of place))
      ∙ counted_with index taken place is

  as_many : (index : Option ℕ) → length (raised old.counts.items index) ≡ length old.counts.items
  as_many None = refl
  as_many (Some i) = length-set old.counts.items i (min (get_or old.counts.items i 0 + 1) (2 ^ 64 - 1))

  pub numbered_more : (index : Option ℕ) → IsRaised old new index → AreNumbered new
  numbered_more index raises = record {
    within = λ key i at.
        let less = numbered.within key i (sym (index_stays raises.places key) ∙ at) in
        let many : length new.counts.items ≡ length old.counts.items = ap (λ xs. length xs) raises.counts ∙ as_many index in omega arith;
    apart = λ key other i at at_other. numbered.apart key other i (sym (index_stays raises.places key) ∙ at) (sym (index_stays raises.places other) ∙ at_other);
  }

-- ---- rows stay

row_stays : (t new : Turns) (place : ℕ) (keys : List PlaceKey) → new.rows ≡ t.rows → KeepsIndexes t.counts new.counts → HasRow t place keys → HasRow new place keys
row_stays t new place keys rows stay has = record {
  row = has.row;
  found = ap (λ v. slice_get v.items place) rows ∙ has.found;
  indexes_are = indexes_stay t.counts new.counts has.row.indexes keys stay has.indexes_are;
}

pub rows_stay : (clusters : List ClusterEntry) (trees : List ClusterTrees) (t new : Turns) → new.places ≡ t.places → new.rows ≡ t.rows → KeepsIndexes t.counts new.counts → AreRowsOf clusters trees t → AreRowsOf clusters trees new
rows_stay clusters trees t new places rows stay are = record {
  each = λ place entry is. row_stays t new place (map key_of (served trees entry)) rows stay (are.each place entry is);
  places = subst (λ m. ArePlacesOf clusters m.entries) (sym places) are.places;
}

-- ---- an entry more

-- an entry that takes no endpoint, and changes neither the configuration nor the trees
pub still : (ps : List Page) (p : Page) (t : Turns) → AreTurnsAt ps t → taken_by p.entry.what ps ≡ None → p.config ≡ config_now ps → p.trees ≡ trees_now ps → AreTurnsAt (p ∷ ps) t
still ps p t are none config trees = record {
  numbered = are.numbered;
  counted = λ place. are.counted place ∙ sym (zero-add (turn place ps)) ∙ ap (λ o. (if option_map_or (same_place place) o false then 1 else 0) + turn place ps) (sym none);
  rows = subst (λ c. AreRowsOf (clusters_of c) p.trees t) (sym config) (subst (λ ts. AreRowsOf (clusters_of (config_now ps)) ts t) (sym trees) are.rows);
}

taken_of : (ps : List Page) (id : CallId) (word : ℕ) (cluster : Name) (reply : CallerReply) → held ps id ≡ Some cluster → taken_by (What.Caller (CallerEvent.Pick id word) reply) ps ≡ place_taken ps cluster reply
taken_of ps id word cluster (CallerReply.Endpoint number child locality place) is = ap (option_and_then (λ c. place_in (trees_now ps) c child locality)) is
taken_of ps id word cluster (CallerReply.Pinned number) is = refl
taken_of ps id word cluster CallerReply.NoSnapshot is = refl
taken_of ps id word cluster (CallerReply.Routed number answer) is = refl
taken_of ps id word cluster (CallerReply.Queue number) is = refl
taken_of ps id word cluster (CallerReply.Fail number reason) is = refl
taken_of ps id word cluster (CallerReply.Drop number rule) is = refl
taken_of ps id word cluster CallerReply.NotHeld is = refl
taken_of ps id word cluster CallerReply.Released is = refl

-- a pick of a call that holds a cluster
pub picked : (ps : List Page) (p : Page) (t new : Turns) (id : CallId) (word : ℕ) (cluster : Name) (reply : CallerReply) → AreTurnsAt ps t → held ps id ≡ Some cluster → TakesTurn ps cluster reply t new → length ps < 2 ^ 63 →
    p.entry.what ≡ What.Caller (CallerEvent.Pick id word) reply → p.config ≡ config_now ps → p.trees ≡ trees_now ps → AreTurnsAt (p ∷ ps) new
picked ps p t new id word cluster reply are holds takes few what config trees =
    let stays : KeepsIndexes t.counts new.counts = λ key i at. index_stays ps t.counts new.counts are.numbered are.counted few takes.raised.places key ∙ at in
    let taken : taken_by p.entry.what ps ≡ place_taken ps cluster reply = ap (λ w. taken_by w ps) what ∙ taken_of ps id word cluster reply holds in record {
      numbered = numbered_more ps t.counts new.counts are.numbered are.counted few takes.index takes.raised;
      counted = λ place.
          counted_more ps t.counts new.counts are.numbered are.counted few takes.index (place_taken ps cluster reply) takes.raised takes.index_is place
          ∙ ap (λ o. (if option_map_or (same_place place) o false then 1 else 0) + turn place ps) (sym taken);
      rows = subst (λ c. AreRowsOf (clusters_of c) p.trees new) (sym config) (subst (λ ts. AreRowsOf (clusters_of (config_now ps)) ts new) (sym trees)
          (rows_stay (clusters_of (config_now ps)) (trees_now ps) t new takes.places takes.rows stays are.rows));
    }

-- the page of an entry of a caller
pub at_caller : (s : Setting) (past : List Entry) (e : Entry) (t : Turns) (event : CallerEvent) (reply : CallerReply) → e.what ≡ What.Caller event reply → AreTurnsAt (caller_page e past (pages s past) ∷ pages s past) t → AreTurnsAt (pages s (e ∷ past)) t
at_caller s past e t event reply is are = subst (λ w. AreTurnsAt (page_of s e w past (pages s past) ∷ pages s past) t) (sym is) are
