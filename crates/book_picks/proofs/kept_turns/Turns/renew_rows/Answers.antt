use Rattle.std.proofs.Common.{◌≡◌, ◌<◌, ℕ, Some, List, arith, length, get_or, sym, ap, ◌∙◌, subst}
use Rattle.std.specs.Prelude.{slice_get}
use Rattle.std.proofs.lemmas.List.{get_or_default}
use Rattle.std.proofs.lemmas.List.Elements.{Contains-get_or}
use Rattle.xds_config.specs.declared.config.ClusterEntry.{ClusterEntry}
use Rattle.book_picks.proofs.MarkedPlaces.{AreMarkedPlaces, place_in_turn}
use Rattle.book_picks.proofs.RenewedLemmas.{AreRenewedTo, renewed_more, renewed_next, row_seen}
use Rattle.book_picks.proofs.kept_turns.Turns.renew_rows.Goals as goal

pub loop-place-preserved : goal.loop-place-preserved
loop-place-preserved c =
    let places : List ℕ = c.places-place-items.result.now in
    let count : ℕ = length c.args.snapshot.now.config.clusters in
    let turn : ℕ = c.loop-place.place-index in
    let place : ℕ = get_or places turn 0 in
    let cluster : ClusterEntry = c.get-in-loop-place.result.now in
    let are : AreMarkedPlaces c.args.marks.now count places = record {
      rising = c.places-place-items.ensures.rising;
      within = λ k d lt. omega (arith, c.requires.marks, c.places-place-items.ensures.within k d lt);
      marked = c.places-place-items.ensures.marked;
    } in
    let among : turn < length places = c.loop-place-test.true in
    let is : place ≡ place_in_turn places count turn = get_or_default places turn 0 count among in
    let entries : c.as_blocks-entries.result.now ≡ c.args.snapshot.now.config.clusters = c.as_blocks-entries.ensures.same ∙ ap (λ x. x.clusters) c.get.ensures in
    let own : slice_get c.args.snapshot.now.config.clusters place ≡ Some cluster =
    ap (λ es. slice_get es place) (sym entries) ∙ (c.at.ensures ∙ ap (λ x. Some x) (sym c.get-in-loop-place.ensures)) in
    renewed_next places turn place c.args.trees.now c.args.snapshot.now c.args.marks.now c.args.self.now c.renew_row.new.self are among is
    (renewed_more place c.args.trees.now c.args.snapshot.now c.args.marks.now c.args.self.now c.loop-place.self c.renew_row.new.self cluster own
    (λ less. row_seen c.renew_row.new.self cluster.name place c.args.trees.now c.args.snapshot.now c.at-in-loop-place.result.now c.at-in-loop-place.ensures (c.in_ok-renew_row.ensures.row less))
    c.in_ok-renew_row.ensures.others c.in_ok-renew_row.ensures.many c.in_ok-renew_row.ensures.places c.in_ok-renew_row.ensures.extends ((are.marked place).1 (Contains-get_or places turn 0 among))
    (subst (λ p. AreRenewedTo p c.args.trees.now c.args.snapshot.now c.args.marks.now c.args.self.now c.loop-place.self) (sym is) c.loop-place.invariant))
