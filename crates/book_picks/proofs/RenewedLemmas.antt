-- The rows of clusters, one row on, and after a driver's entry.
use Rattle.std.proofs.Common.{◌≡◌, ◌≢◌, ◌⊎◌, inl, inr, ℕ, zero, suc, ◌+◌, ◌<◌, ◌≤◌, Bool, true, false, List, [], ◌∷◌, map, length, get_or, replicate, refl, sym, ap, ◌∙◌, subst, arith, Option, Some, None, eq-eqb, eqb-true, zero-add}
use Rattle.std.specs.Prelude.{Result, Err, option_and_then, ◌==◌, if◌then◌else◌, option_map, set, slice_get}
use Rattle.std.specs.Option.{option_map_or}
use Rattle.std.proofs.lemmas.Option.{slice_get-get_or, slice_get-map, slice_get_within}
use Rattle.std.proofs.lemmas.Bool.{cases_lt}
use Rattle.std.proofs.lemmas.List.{get_or-replicate}
use Rattle.xc_base.specs.declared.names.State.{State}
use Rattle.xc_base.specs.declared.reason.Reason.{Reason}
use Rattle.xds_config.specs.declared.endpoint_values.Locality.{Locality}
use Rattle.xds_config.specs.declared.config.ClusterEntry.{ClusterEntry}
use Rattle.xds_config.specs.declared.config.Config.{Config}
use Rattle.tree_steps.specs.declared.tree_view.NamedChild.{NamedChild}
use Rattle.tree_steps.specs.declared.tree_view.TreeView.{TreeView}
use Rattle.cluster_tree.specs.declared.snapshot.Snapshot.{Snapshot}
use Rattle.cluster_tree.specs.StandingTrees.{Forest}
use Rattle.cluster_tree.specs.ViewChanges.{localities_at}
use Rattle.call_journal.specs.declared.event.CallerEvent.{CallerEvent}
use Rattle.call_journal.specs.declared.event.DriverEvent.{DriverEvent}
use Rattle.call_journal.specs.declared.reply.DriverReply.{DriverReply}
use Rattle.call_journal.specs.declared.entry.Entry.{Entry}
use Rattle.call_journal.specs.declared.entry.What.{What}
use Rattle.book_trees.specs.config_assembly.Orders.{Name}
use Rattle.book_trees.specs.xds_history.declared.page.ClusterTrees.{ClusterTrees}
use Rattle.book_trees.specs.xds_history.declared.page.Page.{Page}
use Rattle.book_trees.specs.xds_history.Page.{config_now, trees_now}
use Rattle.book_trees.specs.xds_history.Setting.{Setting}
use Rattle.book_trees.specs.xds_history.Trees.{Present}
use Rattle.book_trees.specs.xds_history.Pages.{caller_page, page_of, pages, present_after, snapshot_of}
use Rattle.book_trees.specs.xds_history.Pickers.{cluster_view, views}
use Rattle.book_trees.specs.xds_history.Picks.{same_place, taken_by, turn}
use Rattle.book_trees.specs.TreesKept.{clusters_of}
use Rattle.book_picks.specs.declared.place_counts.PlaceKey.{PlaceKey}
use Rattle.book_picks.specs.declared.place_counts.PlaceCounts.{PlaceCounts}
use Rattle.book_picks.specs.declared.cluster_rows.Row.{Row}
use Rattle.book_picks.specs.declared.kept_turns.Turns.{Turns}
use Rattle.book_picks.specs.CountedPlaces.{Extends, index_of}
use Rattle.book_picks.specs.ClusterRows.{AreIndexesOf, keys_of}
use Rattle.book_picks.specs.ChosenPlaces.{key_of, served}
use Rattle.book_picks.specs.NamedPlaces.{ArePlacesOf}
use Rattle.book_picks.specs.TurnsKept.{AreRowsOf, AreTurnsAt, HasRow}
use Rattle.book_picks.specs.RenewedRows.{AreMarksOf, AreRenewed, IsPublishedAt, ServesLocalities, StaysServed, child_seen, keys_at, view_at}
use Rattle.book_picks.specs.TurnsLaws.{CallersLeaveTurns, DriversLeaveTurns}
use Rattle.book_picks.proofs.CountedLemmas.{extends_not, extends_on}
use Rattle.book_picks.proofs.IndexLemmas.{indexes_stay}
use Rattle.book_picks.proofs.NamedPlaces.{places_stay, stood_at}
use Rattle.book_picks.proofs.MarkedPlaces.{AreMarkedPlaces, place_in_turn, turn_rises, unmarked_between, unmarked_till}
use Rattle.book_picks.proofs.ShownKeys.{keys_served, keys_stay}
use Rattle.book_picks.proofs.TakenLemmas.{at_caller, still}

-- ---- a row put at a place

set_other : {X : Type 0} (xs : List X) (i other : ℕ) (x : X) → other ≢ i → slice_get (set xs i x) other ≡ slice_get xs other
set_other [] i other x differ = refl
set_other (y ∷ xs) zero zero x differ = absurd (differ refl)
set_other (y ∷ xs) zero (suc other) x differ = refl
set_other (y ∷ xs) (suc i) zero x differ = refl
set_other (y ∷ xs) (suc i) (suc other) x differ = set_other xs i other x (λ same. differ (ap (λ n. suc n) same))

set_same : {X : Type 0} (xs : List X) (i : ℕ) (x : X) → i < length xs → slice_get (set xs i x) i ≡ Some x
set_same [] i x less = absurd (omega arith)
set_same (y ∷ xs) zero x less = refl
set_same (y ∷ xs) (suc i) x less = set_same xs i x (omega arith)

pub row_put : (old new : List Row) (place : ℕ) (row : Row) → new ≡ set old place row → place < length old → slice_get new place ≡ Some row
row_put old new place row put less = ap (λ rows. slice_get rows place) put ∙ set_same old place row less

pub others_stay : (old new : List Row) (place : ℕ) (row : Row) → new ≡ set old place row → (other : ℕ) → other ≢ place → slice_get new other ≡ slice_get old other
others_stay old new place row put other differ = ap (λ rows. slice_get rows other) put ∙ set_other old place other row differ

-- the indexes of the same places
pub indexes_given : (counts : PlaceCounts) (indexes : List ℕ) (name : Name) (child seen : Option NamedChild) (ls localities : List Locality) → AreIndexesOf counts indexes (keys_of name child ls) → child ≡ seen → ls ≡ localities →
    AreIndexesOf counts indexes (keys_of name seen localities)
indexes_given counts indexes name child seen ls localities are same also =
    are ∙ ap (λ c. map (index_of counts) (keys_of name c ls)) same ∙ ap (λ l. map (index_of counts) (keys_of name seen l)) also

-- ---- rows as far as a loop has come

-- a row by what is seen at its place
pub row_seen : (new : Turns) (name : Name) (place : ℕ) (forest : Forest) (snapshot : Snapshot) (seen : Result TreeView Reason) → slice_get snapshot.trees place ≡ Some seen →
    HasRow new place (keys_of name (child_seen seen) (localities_at forest place)) → HasRow new place (keys_at forest snapshot place name)
row_seen new name place forest snapshot seen is has =
    subst (λ v. HasRow new place (keys_of name (child_seen v) (localities_at forest place))) (sym (ap (λ o. option_map_or (λ s. s) o (Err Reason.Failing)) is)) has

pub record AreRenewedTo (i : ℕ) (forest : Forest) (snapshot : Snapshot) (marks : List Bool) (old new : Turns) : Type 0 where
  pub fresh : (place : ℕ) (entry : ClusterEntry) → place < i → slice_get snapshot.config.clusters place ≡ Some entry → get_or marks place false ≡ true → place < length old.rows.items → HasRow new place (keys_at forest snapshot place entry.name)
  pub kept : (place : ℕ) (keys : List PlaceKey) → (place < i → get_or marks place false ≡ true → ⊥) → HasRow old place keys → HasRow new place keys
  pub many : length new.rows.items ≡ length old.rows.items
  pub places : new.places ≡ old.places
  pub extends : Extends old.counts new.counts

pub renewed_none : (forest : Forest) (snapshot : Snapshot) (marks : List Bool) (turns : Turns) → AreRenewedTo 0 forest snapshot marks turns turns
renewed_none forest snapshot marks turns = record {
  fresh = λ place entry less. absurd (omega arith);
  kept = λ place keys not_due has. has;
  many = refl;
  places = refl;
  extends = extends_not turns.counts;
}

pub renewed_all : (i : ℕ) (forest : Forest) (snapshot : Snapshot) (marks : List Bool) (old new : Turns) → length snapshot.config.clusters ≤ i → AreRenewedTo i forest snapshot marks old new → AreRenewed forest snapshot marks old new
renewed_all i forest snapshot marks old new all renewed = record {
  fresh = λ place entry is mark among.
      let within = slice_get_within snapshot.config.clusters place entry is in
      let less : place < i = omega arith in renewed.fresh place entry less is mark among;
  kept = λ place keys mark. renewed.kept place keys (λ less set. cc);
  places = renewed.places;
  extends = renewed.extends;
}

-- on to a later cluster, where none from the one to the other is marked
pub renewed_on : (i j : ℕ) (forest : Forest) (snapshot : Snapshot) (marks : List Bool) (old new : Turns) → i ≤ j → ((place : ℕ) → i ≤ place → place < j → get_or marks place false ≡ false) → AreRenewedTo i forest snapshot marks old new →
    AreRenewedTo j forest snapshot marks old new
renewed_on i j forest snapshot marks old new le unmarked renewed = record {
  fresh = λ place entry less is mark among. by_place place entry is mark among (cases_lt place i) less;
  kept = λ place keys not_due. renewed.kept place keys (λ less mark. let more : place < j = omega arith in not_due more mark);
  many = renewed.many;
  places = renewed.places;
  extends = renewed.extends;
}
  where
    by_place : (place : ℕ) (entry : ClusterEntry) → slice_get snapshot.config.clusters place ≡ Some entry → get_or marks place false ≡ true → place < length old.rows.items → (place < i) ⊎ (i ≤ place) → place < j → HasRow new place (keys_at forest snapshot place entry.name)
    by_place place entry is mark among (inl before) less = renewed.fresh place entry before is mark among
    by_place place entry is mark among (inr not_before) less = let clash : false ≡ true = sym (unmarked place not_before less) ∙ mark in absurd (cc)

-- as far as the first marked cluster, and from the one whose row was made to the next marked one
pub renewed_first : (places : List ℕ) (forest : Forest) (snapshot : Snapshot) (marks : List Bool) (turns : Turns) → AreMarkedPlaces marks (length snapshot.config.clusters) places →
    AreRenewedTo (place_in_turn places (length snapshot.config.clusters) 0) forest snapshot marks turns turns
renewed_first places forest snapshot marks turns are =
    let count : ℕ = length snapshot.config.clusters in
    renewed_on 0 (place_in_turn places count 0) forest snapshot marks turns turns (omega arith) (λ place le less. unmarked_till marks count places are 0 place (λ i had there. absurd (omega (arith, had))) less) (renewed_none forest snapshot marks turns)

pub renewed_next : (places : List ℕ) (turn place : ℕ) (forest : Forest) (snapshot : Snapshot) (marks : List Bool) (old new : Turns) → AreMarkedPlaces marks (length snapshot.config.clusters) places → turn < length places → place ≡ place_in_turn places (length snapshot.config.clusters) turn →
    AreRenewedTo (place + 1) forest snapshot marks old new → AreRenewedTo (place_in_turn places (length snapshot.config.clusters) (turn + 1)) forest snapshot marks old new
renewed_next places turn place forest snapshot marks old new are lt is renewed =
    let count : ℕ = length snapshot.config.clusters in
    renewed_on (place + 1) (place_in_turn places count (turn + 1)) forest snapshot marks old new (omega (arith, is, turn_rises marks count places are turn lt))
    (λ other le less. unmarked_between marks count places are turn other lt (omega (arith, is, le)) less) renewed

-- one that is marked, whose row is put in
module _ (i : ℕ) (forest : Forest) (snapshot : Snapshot) (marks : List Bool) (old mid new : Turns) (own : ClusterEntry) (at : slice_get snapshot.config.clusters i ≡ Some own) (has : i < length mid.rows.items → HasRow new i (keys_at forest snapshot i own.name))
    (stay : (other : ℕ) → other ≢ i → slice_get new.rows.items other ≡ slice_get mid.rows.items other) (many : length new.rows.items ≡ length mid.rows.items) (places : new.places ≡ mid.places) (extends : Extends mid.counts new.counts) where
  carried : (place : ℕ) (keys : List PlaceKey) → place ≢ i → HasRow mid place keys → HasRow new place keys
  carried place keys differ had = record {
    row = had.row;
    found = stay place differ ∙ had.found;
    indexes_are = indexes_stay mid.counts new.counts had.row.indexes keys extends.indexes had.indexes_are;
  }

  one : (o : Option ClusterEntry) (a b : ClusterEntry) → o ≡ Some a → o ≡ Some b → a ≡ b
  one o a b is also = cc

  fresh_at : (place : ℕ) (entry : ClusterEntry) (b : Bool) → (place == i) ≡ b → place < i + 1 → slice_get snapshot.config.clusters place ≡ Some entry → get_or marks place false ≡ true → place < length old.rows.items → AreRenewedTo i forest snapshot marks old mid →
      HasRow new place (keys_at forest snapshot place entry.name)
  fresh_at place entry true same less is mark among renewed =
      let e : place ≡ i = eqb-true place i same in
      let its : own ≡ entry = one (slice_get snapshot.config.clusters i) own entry at (ap (λ p. slice_get snapshot.config.clusters p) (sym e) ∙ is) in
      let there : i < length mid.rows.items = omega (arith, e, among, renewed.many) in
      subst (λ p. HasRow new p (keys_at forest snapshot p entry.name)) (sym e) (subst (λ c. HasRow new i (keys_at forest snapshot i c.name)) its (has there))
  fresh_at place entry false other less is mark among renewed =
      let differ : place ≢ i = λ e. let yes = eq-eqb place i e in cc in
      let before : place < i = omega arith in
      carried place (keys_at forest snapshot place entry.name) differ (renewed.fresh place entry before is mark among)

  pub renewed_more : get_or marks i false ≡ true → AreRenewedTo i forest snapshot marks old mid → AreRenewedTo (i + 1) forest snapshot marks old new
  renewed_more marked renewed = record {
    fresh = λ place entry less is mark among. fresh_at place entry (place == i) refl less is mark among renewed;
    kept = λ place keys not_due had.
        let less_one : i < i + 1 = omega arith in
        let differ : place ≢ i = λ e. not_due (subst (λ p. p < i + 1) (sym e) less_one) (ap (λ p. get_or marks p false) e ∙ marked) in
        carried place keys differ (renewed.kept place keys (λ less mark. let more : place < i + 1 = omega arith in not_due more mark) had);
    many = many ∙ renewed.many;
    places = places ∙ renewed.places;
    extends = extends_on old.counts mid.counts new.counts renewed.extends extends;
  }

-- ---- after a driver's entry

-- a page of this snapshot
pub record IsSnapshotPage (snapshot : Snapshot) (page : Page) (ps : List Page) : Type 0 where
  pub none_taken : taken_by page.entry.what ps ≡ None
  pub config_is : page.config ≡ Some snapshot.config
  pub states : Name → State
  pub views_are : snapshot.trees ≡ views states page.trees snapshot.config

entry_more : (ps : List Page) (page : Page) (snapshot : Snapshot) (old new : Turns) → AreTurnsAt ps old → IsSnapshotPage snapshot page ps → Extends old.counts new.counts →
    AreRowsOf snapshot.config.clusters page.trees new → AreTurnsAt (page ∷ ps) new
entry_more ps page snapshot old new are published extends rows = record {
  numbered = extends.numbered are.numbered;
  counted = λ place.
      extends.counts (key_of place) ∙ are.counted place ∙ sym (zero-add (turn place ps))
      ∙ ap (λ o. (if option_map_or (same_place place) o false then 1 else 0) + turn place ps) (sym published.none_taken);
  rows = subst (λ c. AreRowsOf (clusters_of c) page.trees new) (sym published.config_is) rows;
}

-- the row by what is seen is that of the places that are served
row_served : (ps : List Page) (page : Page) (snapshot : Snapshot) (forest : Forest) (new : Turns) (place : ℕ) (entry : ClusterEntry) → IsSnapshotPage snapshot page ps → ServesLocalities forest snapshot.config page.trees → slice_get snapshot.config.clusters place ≡ Some entry →
    HasRow new place (keys_at forest snapshot place entry.name) → HasRow new place (map key_of (served page.trees entry))
row_served ps page snapshot forest new place entry published serves is has =
    let seen : view_at snapshot place ≡ cluster_view published.states page.trees entry =
    ap (λ vs. option_map_or (λ seen. seen) (slice_get vs place) (Err Reason.Failing)) published.views_are
    ∙ ap (λ o. option_map_or (λ seen. seen) o (Err Reason.Failing)) (slice_get-map (cluster_view published.states page.trees) snapshot.config.clusters place ∙ ap (option_map (cluster_view published.states page.trees)) is) in
    subst (λ keys. HasRow new place keys)
    (keys_served published.states page.trees entry (view_at snapshot place) (localities_at forest place) (sym seen) (λ leaves state. serves place entry leaves is state)) has

rows_kept : (ps : List Page) (page : Page) (old new : Turns) (place : ℕ) (entry : ClusterEntry) → AreRowsOf (clusters_of (config_now ps)) (trees_now ps) old → slice_get (clusters_of (config_now ps)) place ≡ Some entry → StaysServed (trees_now ps) page.trees entry →
    ((keys : List PlaceKey) → HasRow old place keys → HasRow new place keys) → HasRow new place (map key_of (served page.trees entry))
rows_kept ps page old new place entry rows is stays keep =
    subst (λ keys. HasRow new place keys) (keys_stay (trees_now ps) page.trees entry stays) (keep (map key_of (served (trees_now ps) entry)) (rows.each place entry is))

-- where clusters of the same names stand at the places
pub renewed : (ps : List Page) (page : Page) (snapshot : Snapshot) (forest : Forest) (marks : List Bool) (old new : Turns) → AreTurnsAt ps old → IsSnapshotPage snapshot page ps → ServesLocalities forest snapshot.config page.trees → AreMarksOf marks snapshot.config ps page.trees →
    AreRenewed forest snapshot marks old new → AreTurnsAt (page ∷ ps) new
renewed ps page snapshot forest marks old new are published serves marked made =
    entry_more ps page snapshot old new are published made.extends (record {
      each = λ place entry is. by_mark place entry is (get_or marks place false) refl;
      places = subst (λ m. ArePlacesOf snapshot.config.clusters m.entries) (sym made.places) (places_stay (clusters_of (config_now ps)) snapshot.config.clusters old.places.entries marked.names_stay are.rows.places);
    })
  where
    had_row : (place : ℕ) (entry : ClusterEntry) → slice_get snapshot.config.clusters place ≡ Some entry → place < length old.rows.items
    had_row place entry is =
        let stood = stood_at (clusters_of (config_now ps)) snapshot.config.clusters place entry marked.names_stay is in
        let had = are.rows.each place stood.entry stood.entry_is in
        slice_get_within old.rows.items place had.row had.found

    by_mark : (place : ℕ) (entry : ClusterEntry) → slice_get snapshot.config.clusters place ≡ Some entry → (b : Bool) → get_or marks place false ≡ b → HasRow new place (map key_of (served page.trees entry))
    by_mark place entry is true mark = row_served ps page snapshot forest new place entry published serves is (made.fresh place entry is mark (had_row place entry is))
    by_mark place entry is false mark =
        let unmoved = marked.stay place entry is mark in
        rows_kept ps page old new place entry are.rows unmoved.entry_stays unmoved.stays (λ keys. made.kept place keys mark)

pub all_marked : (marks : List Bool) (n m : ℕ) → marks ≡ replicate n true → n ≡ m → (place : ℕ) → place < m → get_or marks place false ≡ true
all_marked marks n m are many place less = let within : place < n = omega arith in ap (λ xs. get_or xs place false) are ∙ get_or-replicate n place true false within

-- where there may be others, and each had a bare row
pub remade : (ps : List Page) (page : Page) (snapshot : Snapshot) (forest : Forest) (marks : List Bool) (old bare new : Turns) → AreTurnsAt ps old → IsSnapshotPage snapshot page ps → ServesLocalities forest snapshot.config page.trees → bare.counts ≡ old.counts → ArePlacesOf snapshot.config.clusters bare.places.entries → length bare.rows.items ≡ length snapshot.config.clusters →
    ((place : ℕ) → place < length snapshot.config.clusters → get_or marks place false ≡ true) → AreRenewed forest snapshot marks bare new → AreTurnsAt (page ∷ ps) new
remade ps page snapshot forest marks old bare new are published serves counts places many all made =
    entry_more ps page snapshot old new are published (subst (λ c. Extends c new.counts) counts made.extends) (record {
      each = λ place entry is.
          let within : place < length snapshot.config.clusters = slice_get_within snapshot.config.clusters place entry is in
          row_served ps page snapshot forest new place entry published serves is (made.fresh place entry is (all place within) (omega (arith, within, many)));
      places = subst (λ m. ArePlacesOf snapshot.config.clusters m.entries) (sym made.places) places;
    })

-- ---- entries that leave all as it is

pub callers_leave : CallersLeaveTurns
callers_leave s past e (CallerEvent.Pin call) reply turns is no_pick are = at_caller s past e turns (CallerEvent.Pin call) reply is (still (pages s past) (caller_page e past (pages s past)) turns are (ap (λ w. taken_by w (pages s past)) is) refl refl)
callers_leave s past e (CallerEvent.Hold call) reply turns is no_pick are = at_caller s past e turns (CallerEvent.Hold call) reply is (still (pages s past) (caller_page e past (pages s past)) turns are (ap (λ w. taken_by w (pages s past)) is) refl refl)
callers_leave s past e (CallerEvent.Pick id word) reply turns is no_pick are = absurd no_pick
callers_leave s past e (CallerEvent.Commit id) reply turns is no_pick are = at_caller s past e turns (CallerEvent.Commit id) reply is (still (pages s past) (caller_page e past (pages s past)) turns are (ap (λ w. taken_by w (pages s past)) is) refl refl)

left_by : (ps : List Page) (page : Page) (turns : Turns) → AreTurnsAt ps turns → taken_by page.entry.what ps ≡ None → page.config ≡ config_now ps →
    ((place : ℕ) (entry : ClusterEntry) → slice_get (clusters_of (config_now ps)) place ≡ Some entry → StaysServed (trees_now ps) page.trees entry) → AreTurnsAt (page ∷ ps) turns
left_by ps page turns are none config stays = record {
  numbered = are.numbered;
  counted = λ place. are.counted place ∙ sym (zero-add (turn place ps)) ∙ ap (λ o. (if option_map_or (same_place place) o false then 1 else 0) + turn place ps) (sym none);
  rows = subst (λ c. AreRowsOf (clusters_of c) page.trees turns) (sym config) (record {
    each = λ place entry at. subst (λ keys. HasRow turns place keys) (keys_stay (trees_now ps) page.trees entry (stays place entry at)) (are.rows.each place entry at);
    places = are.rows.places;
  });
}

-- a driver's page takes of no place
drivers_take_none : (s : Setting) (past : List Entry) (e : Entry) (w : What) (event : DriverEvent) (reply : DriverReply) → w ≡ What.Driver event reply → taken_by w (pages s past) ≡ None
drivers_take_none s past e w event reply is = ap (λ v. taken_by v (pages s past)) is

page_entry : (s : Setting) (past : List Entry) (e : Entry) (w : What) → (page_of s e w past (pages s past)).entry ≡ e
page_entry s past e (What.Driver event reply) = refl
page_entry s past e (What.Caller event reply) = refl

pub drivers_leave : DriversLeaveTurns
drivers_leave s past e event reply turns is config stays are =
    left_by (pages s past) (page_of s e e.what past (pages s past)) turns are
    (ap (λ x. taken_by x.what (pages s past)) (page_entry s past e e.what) ∙ drivers_take_none s past e e.what event reply is) config stays

-- ---- the page of a snapshot that is published

shown_by : (present : Present) (config : Option Config) (trees : List ClusterTrees) (number : Option ℕ) (snapshot : Snapshot) → option_and_then (snapshot_of present config trees) number ≡ Some snapshot →
    (config ≡ Some snapshot.config) × (snapshot.trees ≡ views present.state trees snapshot.config)
shown_by present config trees None snapshot is = absurd (cc is)
shown_by present None trees (Some number) snapshot is = absurd (cc is)
shown_by present (Some config) trees (Some number) snapshot is =
    let made : Snapshot = record { number = number; config = config; trees = views present.state trees config } in
    let same : made ≡ snapshot = cc in
    (ap (λ x. Some x.config) same, sym (ap (λ x. x.trees) same) ∙ ap (λ x. views present.state trees x.config) same)

page_by : (s : Setting) (past : List Entry) (e : Entry) (w : What) (event : DriverEvent) (reply : DriverReply) (snapshot : Snapshot) → e.what ≡ w → w ≡ What.Driver event reply → (page_of s e w past (pages s past)).snapshot ≡ Some snapshot →
    IsSnapshotPage snapshot (page_of s e w past (pages s past)) (pages s past)
page_by s past e (What.Caller call answer) event reply snapshot own is shows = absurd (cc is)
page_by s past e (What.Driver came_in answer) event reply snapshot own is shows =
    let page : Page = page_of s e (What.Driver came_in answer) past (pages s past) in
    let both = shown_by (present_after past came_in) page.config page.trees answer.snapshot snapshot shows in record {
      none_taken = ap (λ w. taken_by w (pages s past)) own;
      config_is = both.0;
      states = (present_after past came_in).state;
      views_are = both.1;
    }

pub page_of_snapshot : (s : Setting) (past : List Entry) (e : Entry) (snapshot : Snapshot) → IsPublishedAt s past e snapshot → IsSnapshotPage snapshot (page_of s e e.what past (pages s past)) (pages s past)
page_of_snapshot s past e snapshot published = page_by s past e e.what published.event published.reply snapshot refl published.what_is published.snapshot_is
