use Rattle.std.proofs.Common.{sym, subst}
use Rattle.std.specs.Ordering.{is_eq}
use Rattle.tree_timers.specs.EndsKept.{Ends, end_cmp, HasEnd}
use Rattle.std.specs.BTreeSet.{contains}
use Rattle.tree_timers.proofs.EndLemmas.{still_there}
use Rattle.tree_timers.proofs.timer_ends.TimerEnds.add.Goals as goal

pub returns-clause-kept : goal.returns-clause-kept
returns-clause-kept c = λ end has.
    still_there (is_eq (end_cmp (record { at = c.args.at; place = c.args.place }) end)) (contains end_cmp c.self.inside.ends end) (contains end_cmp c.insert.new.self end) (c.in_ok-insert.ensures.updates.0 end)
    (subst (λ (ends : Ends). HasEnd ends end) (sym c.self.view_is) has)
