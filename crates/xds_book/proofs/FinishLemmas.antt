-- What a Book hands out in the end.
use Rattle.std.proofs.Common.{◌≡◌, ◌≤◌, suc, List, [], ◌∷◌, ◌++◌, length, map, Option, Some, None, refl, sym, ap, subst, arith, length-append}
use Rattle.std.specs.Prelude.{All, slice_get, slice_index_or, option_to_list}
use Rattle.std.proofs.lemmas.List.{length-map}
use Rattle.boxcar.specs.Table.{Where}
use Rattle.cluster_tree.specs.declared.snapshot.Snapshot.{Snapshot}
use Rattle.snapshot_store.specs.Tickets.{values_of}
use Rattle.call_journal.specs.declared.entry.Entry.{Entry}
use Rattle.call_journal.specs.declared.plan.Count.{Count}
use Rattle.call_journal.specs.declared.plan.Listed.{Listed}
use Rattle.book_calls.specs.xds_history.Setting.{Setting}
use Rattle.book_calls.specs.xds_history.Pages.{pages}
use Rattle.book_calls.specs.xds_history.declared.page.Page.{Page}
use Rattle.book_calls.specs.xds_history.References.{snapshots_of}
use Rattle.book_progress.specs.ActorCounts.{actor_entries, count_of}
use Rattle.book_progress.specs.PlayedPlans.{HasPlayed, IsPlayed}
use Rattle.book_progress.specs.ProgressKept.{counts_of}
use Rattle.book_progress.proofs.TallyLemmas.{count_is}
use Rattle.xds_book.specs.BookViews.{LaneView}
use Rattle.xds_book.specs.BookKept.{HasComeTo}

-- ---- lanes

lane_comes : (plan : Option (List (List Listed))) (counts : List Count) (history : List Entry) (lane : LaneView) → counts ≡ counts_of (length counts) history → IsPlayed plan history
    → slice_get counts lane.actor ≡ Some lane.count → HasComeTo plan history lane
lane_comes None counts history lane counted played get = tt
lane_comes (Some plan) counts history lane counted played get = λ list listed.
    let is : lane.count ≡ count_of lane.actor history = count_is (length counts) history counts lane.actor lane.count counted get in
    subst (λ (c : Count). HasPlayed list c.ended c.pins (actor_entries lane.actor history)) (sym is) (played.played lane.actor list listed)

pub lanes_come : (plan : Option (List (List Listed))) (counts : List Count) (history : List Entry) (lanes : List LaneView) → counts ≡ counts_of (length counts) history → IsPlayed plan history
    → All (λ (lane : LaneView). slice_get counts lane.actor ≡ Some lane.count) lanes → All (HasComeTo plan history) lanes
lanes_come plan counts history lanes counted played each = λ k d within. lane_comes plan counts history (slice_index_or lanes k d) counted played (each k d within)

-- ---- snapshots

one_at_most : (x : Option Snapshot) → length (option_to_list x) ≤ 1
one_at_most None = omega arith
one_at_most (Some x) = omega arith

few_more : (ps : List Page) (x : Option Snapshot) → length (snapshots_of ps) ≤ length ps → length (snapshots_of ps ++ option_to_list x) ≤ suc (length ps)
few_more ps x few =
    let long = length-append (snapshots_of ps) (option_to_list x) in
    let one = one_at_most x in
    omega (arith, long, few, one)

snapshots_few : (ps : List Page) → length (snapshots_of ps) ≤ length ps
snapshots_few [] = omega arith
snapshots_few (p ∷ ps) = few_more ps p.snapshot (snapshots_few ps)

pages_long : (s : Setting) (past : List Entry) → length (pages s past) ≡ length past
pages_long s [] = refl
pages_long s (e ∷ past) = ap suc (pages_long s past)

pub tickets_few : (s : Setting) (past : List Entry) (tickets : List (Where Snapshot)) → values_of tickets ≡ snapshots_of (pages s past) → length tickets ≤ length past
tickets_few s past tickets is =
    let long : length (map (λ (t : Where Snapshot). t.value) tickets) ≡ length tickets = length-map tickets (λ (t : Where Snapshot). t.value) in
    let same : length (map (λ (t : Where Snapshot). t.value) tickets) ≡ length (snapshots_of (pages s past)) = ap length is in
    let few = snapshots_few (pages s past) in
    let pages_are = pages_long s past in
    omega (arith, long, same, few, pages_are)
