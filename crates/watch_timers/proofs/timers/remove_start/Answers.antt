use Rattle.std.proofs.Common.{◌≡◌, ◌∙◌, None, Some, false, sym, subst}
use Rattle.xc_keys.proofs.KeyLemmas.{changed_alike, derived_is, exact_keys, found_alike}
use Rattle.watch_timers.specs.StartOrder.{IsOrderOf}
use Rattle.watch_timers.specs.Timers.{Running, started_at}
use Rattle.watch_timers.proofs.OrderLemmas.{of_copy, without_one}
use Rattle.watch_timers.proofs.timers.remove_start.Goals as goal

pub returns-in-Some-clause-stops : goal.returns-in-Some-clause-stops
returns-in-Some-clause-stops c = changed_alike c.args.starts.now.entries c.remove_entry.new.self.entries c.args.key.now None c.remove_entry.ensures.updates.0

pub returns-in-Some-clause-same : goal.returns-in-Some-clause-same
returns-in-Some-clause-same c =
    let starts = c.args.starts.now.entries in
    let left = c.remove_entry.new.self.entries in
    let key = c.args.key.now in
    let equal = c.in-Some.ensures.same_key in
    let copy : key ≡ c.in-Some.key = exact_keys key c.in-Some.key (sym (derived_is key c.in-Some.key) ∙ equal) in
    let runs : started_at starts key ≡ Some c.in-Some.at = sym (c.in-Some.ensures.value ∙ found_alike key starts) in
    without_one c.args.order.now c.remove.new.self starts left key c.in-Some.at runs (of_copy false c.args.order.now c.remove.new.self c.in-Some.key key c.in-Some.at (sym copy) c.remove.ensures.updates.0)
    (changed_alike starts left key None c.remove_entry.ensures.updates.0) c.requires.same

pub returns-in_default-clause-stops : goal.returns-in_default-clause-stops
returns-in_default-clause-stops c = changed_alike c.args.starts.now.entries c.remove_entry.new.self.entries c.args.key.now None c.remove_entry.ensures.updates.0

pub returns-in_default-clause-same : goal.returns-in_default-clause-same
returns-in_default-clause-same c = subst (λ (ts : Running). IsOrderOf c.args.order.now.keys ts) (sym c.in_default.ensures.unchanged) c.requires.same
