use Rattle.std.proofs.Common.{◌≡◌, true, false, cond, Some, refl, sym, ap, subst, rules}
use Rattle.std.specs.BTreeSet.{contains}
use Rattle.std.specs.Prelude.{List}
use Rattle.xc_base.specs.declared.names.Key.{Key}
use Rattle.xc_base.specs.declared.names.Time.{Time}
use Rattle.xc_keys.specs.Keys.{is_key}
use Rattle.xc_keys.proofs.KeyLemmas.{changed_alike}
use Rattle.watch_timers.specs.declared.timers.Started.{Started}
use Rattle.watch_timers.specs.StartOrder.{IsOrderOf}
use Rattle.watch_timers.specs.Timers.{Running, started_at}
use Rattle.watch_timers.proofs.OrderLemmas.{alike, derived_order, timer, of_copy, undone, with_one}
use Rattle.watch_timers.proofs.StartLemmas.{starts_first}
use Rattle.watch_timers.proofs.timers.add_start.Goals as goal

pub returns-in_err-insert-clause-same : goal.returns-in_err-insert-clause-same
returns-in_err-insert-clause-same c = subst (λ (ss : List Started). IsOrderOf ss c.args.starts.now.entries) (sym c.in_err-insert.ensures.err) c.requires.same

pub returns-in-Ok-clause-ok : goal.returns-in-Ok-clause-ok
returns-in-Ok-clause-ok c =
    let copy : c.in_ok-copy.copy ≡ c.args.key.now = search rules in
    starts_first c.args.starts.now.entries c.args.starts.now.entries c.insert-2.new.self.entries c.args.key.now c.in_ok-copy.copy c.args.at refl copy c.requires.absent
    (changed_alike c.args.starts.now.entries c.insert-2.new.self.entries c.in_ok-copy.copy (Some c.args.at) c.in-Ok.ensures.updates.0)

pub returns-in-Ok-clause-same : goal.returns-in-Ok-clause-same
returns-in-Ok-clause-same c =
    let copy : c.in_ok-copy.copy ≡ c.args.key.now = search rules in
    let made : c.in_ok-key.key ≡ c.args.key.now = search rules in
    with_one c.args.order.now c.insert.new.self c.args.starts.now.entries c.insert-2.new.self.entries c.args.key.now c.args.at c.requires.absent
    (of_copy true c.args.order.now c.insert.new.self c.in_ok-key.key c.args.key.now c.args.at made c.in_ok-insert.ensures.updates.0)
    (subst (λ (k : Key). (other : Key) → started_at c.insert-2.new.self.entries other ≡ cond (is_key k other) (Some c.args.at) (started_at c.args.starts.now.entries other)) copy
    (changed_alike c.args.starts.now.entries c.insert-2.new.self.entries c.in_ok-copy.copy (Some c.args.at) c.in-Ok.ensures.updates.0))
    c.requires.same

pub returns-in-Err-clause-same : goal.returns-in-Err-clause-same
returns-in-Err-clause-same c =
    let copy : c.in-Err.refused.value.0 ≡ c.args.key.now = search rules in
    let time : c.in-Err.refused.value.1 ≡ c.args.at = ap (λ pair. pair.1) c.in-Err.ensures.value_returned in
    let made : c.in_ok-key.key ≡ c.args.key.now = search rules in
    subst (λ (ts : Running). IsOrderOf c.remove.new.self.keys ts) (sym c.in-Err.ensures.err)
    (undone c.args.order.now c.insert.new.self c.remove.new.self c.args.starts.now.entries c.args.key.now c.args.at c.requires.absent
    (of_copy true c.args.order.now c.insert.new.self c.in_ok-key.key c.args.key.now c.args.at made c.in_ok-insert.ensures.updates.0)
    (of_copy false c.insert.new.self c.remove.new.self c.in-Err.refused.value.0 c.args.key.now c.args.at copy
    (subst
    (λ (t : Time).
    (started : Started) → contains derived_order c.remove.new.self started ≡ cond (alike (timer c.in-Err.refused.value.0 t) started) false (contains derived_order c.insert.new.self started)) time
    c.remove.ensures.updates.0))
    c.requires.same)
