use Rattle.std.proofs.Common.{◌≤◌, ◌+◌, ◌∙◌, ℕ, length, List, None, sym, ap, subst}
use Rattle.std.specs.BTreeSet.{BTreeSet}
use Rattle.std.specs.Vec.{vec_capacity}
use Rattle.xc_keys.proofs.KeyLemmas.{changed_alike}
use Rattle.watch_timers.specs.declared.timers.Started.{Started}
use Rattle.watch_timers.specs.StartOrder.{IsOrderOf, first_due}
use Rattle.watch_timers.proofs.DueLemmas.{after_goes, after_none, first_goes, first_runs, keys_more, room_left}
use Rattle.watch_timers.proofs.OrderLemmas.{without_one}
use Rattle.watch_timers.proofs.timers.take_due.Goals as goal

pub loop-started-preserved : goal.loop-started-preserved
loop-started-preserved c =
    let due = c.in-Some.ensures.due in
    let first = c.in-Some.ensures.first in
    let order = c.loop-started.order.keys in
    let left = c.take_first_due.new.order.keys in
    let starts = c.loop-started.starts.entries in
    let started = c.in-Some.started in
    let goes = first_goes c.args.now order left started first due in record {
      room = subst (λ (room : ℕ). length c.push_reserved.new.self.items + length (first_due c.args.now left) ≤ room) (sym c.push_reserved.ensures.capacity)
          (room_left c.args.now order left started c.loop-started.keys.items c.push_reserved.new.self.items (vec_capacity c.loop-started.keys) goes c.push_reserved.ensures.items c.loop-started.invariant.room);
      same = without_one c.loop-started.order c.take_first_due.new.order starts c.remove.new.self.entries started.key started.at (first_runs order left starts started first c.loop-started.invariant.same)
          c.in-Some.ensures.updates.0 (changed_alike starts c.remove.new.self.entries started.key None c.remove.ensures.updates.0) c.loop-started.invariant.same;
      keys = keys_more c.args.now order left started c.loop-started.keys.items c.push_reserved.new.self.items _ goes c.push_reserved.ensures.items c.loop-started.invariant.keys;
      left = sym (after_goes c.args.now order left started first due) ∙ c.loop-started.invariant.left;
    }

pub returns-clause-left : goal.returns-clause-left
returns-clause-left c =
    ap (λ (order : BTreeSet Started). order.keys) c.in_default.ensures.left ∙ sym (after_none c.args.now c.loop-started.order.keys c.in_default.ensures.none) ∙ c.loop-started.invariant.left

pub returns-clause-same : goal.returns-clause-same
returns-clause-same c =
    subst (λ (order : List Started). IsOrderOf order c.loop-started.starts.entries) (sym (ap (λ (order : BTreeSet Started). order.keys) c.in_default.ensures.left)) c.loop-started.invariant.same
