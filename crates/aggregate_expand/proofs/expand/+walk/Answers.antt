use Rattle.std.proofs.Common.{◌≡◌, suc, ◌+◌, arith, Some, sym, ◌∙◌, ap, refl}
use Rattle.std.proofs.lemmas.Result.{err_from_is_err_and, on_ok_weaker}
use Rattle.aggregate_expand.specs.LookedUp.{with_names}
use Rattle.aggregate_expand.specs.LeafWalk.{room_at}
use Rattle.aggregate_expand.proofs.WalkLemmas.{IsFresh, fresh, seen_before, nothing_added, no_room, under_way, under_way_more, under_way_fails, under_way_adds, marked_done, marked_adds, leaf_free, leaf_ends, leaf_done, all_free, all_found, all_done}
use Rattle.aggregate_expand.proofs.expand.+walk.Goals as goal

pub returns-then-chain_length-gt-LONGEST_CHAIN-clause-depth : goal.returns-then-chain_length-gt-LONGEST_CHAIN-clause-depth
returns-then-chain_length-gt-LONGEST_CHAIN-clause-depth g t c =
    let none : room_at c.args.chain_length ≡ 0 = omega arith in
    λ deep. no_room _ _ _ none

pub returns-then-not-branch-clause-found : goal.returns-then-not-branch-clause-found
returns-then-not-branch-clause-found g t c =
    nothing_added _ _ _ _ record { name = c.args.name.now; chain_length = c.args.chain_length } refl c.requires.done
    (seen_before c.args.visits.now c.mark.new.self record { name = c.args.name.now; chain_length = c.args.chain_length } _ c.if-not-branch.true c.in_ok-mark.ensures.marks)

pub loop-child-init : goal.loop-child-init
loop-child-init g t c =
    let new : IsFresh c.args.visits.now c.mark.new.self record { name = c.args.name.now; chain_length = c.args.chain_length } = fresh _ _ _ _ c.if-not-branch.false c.in_ok-mark.ensures.marks in
    let step : room_at c.args.chain_length ≡ suc (room_at (c.args.chain_length + 1)) = omega arith in
    record {
      way = under_way _ _ _ _ _ _ _ _ _ (marked_done _ _ _ _ _ _ _ step refl new.marked c.requires.done) (marked_adds _ _ _ record { name = c.args.name.now; chain_length = c.args.chain_length } (omega arith) new.marked);
      differ = c.in_ok-mark.ensures.differ;
      cost = omega (arith, new.count, c.tick.ensures);
    }

pub returns-in_err-walk-in-Some-clause-depth : goal.returns-in_err-walk-in-Some-clause-depth
returns-in_err-walk-in-Some-clause-depth g t c =
    let step : room_at c.args.chain_length ≡ suc (room_at (c.args.chain_length + 1)) = omega arith in
    let is : g.K.Lookup.table c.args.lookup.now c.args.name.now ≡ Some c.as_slice-child-items.result.now = c.in-Some.ensures ∙ ap (λ x. Some x) (sym c.as_slice-child-items.ensures) in
    let p = err_from_is_err_and c.from_residual-in_err-walk-in-Some.result c.from_residual-in_err-walk-in-Some.ensures.1 in
    rw (p.1, p.2) (λ h. under_way_fails _ _ _ _ _ _ _ _ _ _ _ _ c.loop-child.invariant.way step is (omega arith) c.child-item.is (c.in_err-walk-in-Some.ensures.depth h))

pub returns-in_err-walk-in-Some-clause-adds : goal.returns-in_err-walk-in-Some-clause-adds
returns-in_err-walk-in-Some-clause-adds g t c =
    let is : g.K.Lookup.table c.args.lookup.now c.args.name.now ≡ Some c.as_slice-child-items.result.now = c.in-Some.ensures ∙ ap (λ x. Some x) (sym c.as_slice-child-items.ensures) in
    under_way_adds _ _ _ _ _ _ _ _ _ _ _ _ _ c.loop-child.invariant.way is (omega arith) c.child-item.is c.in_err-walk-in-Some.ensures.adds

pub loop-child-preserved : goal.loop-child-preserved
loop-child-preserved g t c =
    let is : g.K.Lookup.table c.args.lookup.now c.args.name.now ≡ Some c.as_slice-child-items.result.now = c.in-Some.ensures ∙ ap (λ x. Some x) (sym c.as_slice-child-items.ensures) in
    let h = c.in_ok-walk-in-Some.ensures in
    record {
      way = under_way_more _ _ _ _ _ _ _ _ _ _ _ _ _ _ c.loop-child.invariant.way is (omega arith) c.child-item.is h.free h.found h.done h.adds;
      differ = h.differ;
      cost = omega (arith, h.cost, c.loop-child.invariant.cost);
    }

pub returns-in-None-clause-free : goal.returns-in-None-clause-free
returns-in-None-clause-free g t c =
    let step : room_at c.args.chain_length ≡ suc (room_at (c.args.chain_length + 1)) = omega arith in
    on_ok_weaker c.add.result (λ h. leaf_free _ _ _ _ step c.in-None.ensures) c.add.ensures.ok

pub returns-in-None-clause-found : goal.returns-in-None-clause-found
returns-in-None-clause-found g t c =
    let step : room_at c.args.chain_length ≡ suc (room_at (c.args.chain_length + 1)) = omega arith in
    on_ok_weaker c.add.result (λ h. h ∙ ap (with_names c.args.found.now) (sym (leaf_ends _ _ _ _ step c.in-None.ensures))) c.add.ensures.ok

pub returns-in-None-clause-done : goal.returns-in-None-clause-done
returns-in-None-clause-done g t c =
    let new : IsFresh c.args.visits.now c.mark.new.self record { name = c.args.name.now; chain_length = c.args.chain_length } = fresh _ _ _ _ c.if-not-branch.false c.in_ok-mark.ensures.marks in
    let step : room_at c.args.chain_length ≡ suc (room_at (c.args.chain_length + 1)) = omega arith in
    on_ok_weaker c.add.result (λ h. leaf_done _ _ _ _ _ record { name = c.args.name.now; chain_length = c.args.chain_length } _ _ step refl c.in-None.ensures c.requires.done new.marked h) c.add.ensures.ok

pub returns-in-None-clause-adds : goal.returns-in-None-clause-adds
returns-in-None-clause-adds g t c =
    let new : IsFresh c.args.visits.now c.mark.new.self record { name = c.args.name.now; chain_length = c.args.chain_length } = fresh _ _ _ _ c.if-not-branch.false c.in_ok-mark.ensures.marks in
    marked_adds _ _ _ record { name = c.args.name.now; chain_length = c.args.chain_length } (omega arith) new.marked

pub returns-after-loop-child-clause-free : goal.returns-after-loop-child-clause-free
returns-after-loop-child-clause-free g t c =
    let step : room_at c.args.chain_length ≡ suc (room_at (c.args.chain_length + 1)) = omega arith in
    let is : g.K.Lookup.table c.args.lookup.now c.args.name.now ≡ Some c.as_slice-child-items.result.now = c.in-Some.ensures ∙ ap (λ x. Some x) (sym c.as_slice-child-items.ensures) in
    all_free _ _ _ _ _ _ _ _ _ _ _ c.loop-child.invariant.way step is (omega arith)

pub returns-after-loop-child-clause-found : goal.returns-after-loop-child-clause-found
returns-after-loop-child-clause-found g t c =
    let step : room_at c.args.chain_length ≡ suc (room_at (c.args.chain_length + 1)) = omega arith in
    let is : g.K.Lookup.table c.args.lookup.now c.args.name.now ≡ Some c.as_slice-child-items.result.now = c.in-Some.ensures ∙ ap (λ x. Some x) (sym c.as_slice-child-items.ensures) in
    all_found _ _ _ _ _ _ _ _ _ _ _ c.loop-child.invariant.way step is (omega arith)

pub returns-after-loop-child-clause-done : goal.returns-after-loop-child-clause-done
returns-after-loop-child-clause-done g t c =
    let step : room_at c.args.chain_length ≡ suc (room_at (c.args.chain_length + 1)) = omega arith in
    let is : g.K.Lookup.table c.args.lookup.now c.args.name.now ≡ Some c.as_slice-child-items.result.now = c.in-Some.ensures ∙ ap (λ x. Some x) (sym c.as_slice-child-items.ensures) in
    all_done _ _ _ _ _ _ _ _ _ _ _ c.loop-child.invariant.way step refl is (omega arith) c.requires.done
