use Rattle.std.proofs.Common.{refl, ap₂, ◌∙◌, ◌++◌, subst, option_map}
use Rattle.book_fates.specs.declared.timed_fates.Fates.{Fates}
use Rattle.book_fates.specs.FatesKept.{IsMarkedAt}
use Rattle.book_fates.proofs.KeptLemmas.{marked_by, unmarked_knows}
use Rattle.book_fates.proofs.QuietLemmas.{quiet_stays}
use Rattle.book_fates.proofs.TimedLemmas.{no_turn, turned_stops, turned_timed}
use Rattle.book_fates.proofs.timed_fates.Fates.turn.Goals as goal

pub returns-then-is_none-clause-marked : goal.returns-then-is_none-clause-marked
returns-then-is_none-clause-marked c s came past ps now none event kept =
    subst (λ turn. IsMarkedAt s came past ps now turn c.args.self.now) (no_turn c.args.turn c.if-is_none.ensures) (quiet_stays s came past ps now c.args.self.now none event kept)

pub returns-clause-marked : goal.returns-clause-marked
returns-clause-marked c s came past ps now none event kept =
    let old : Fates = c.args.self.now in
    let new : Fates = record { alloc = old.alloc; cache = old.cache; timers = c.stop_turned.new.timers; reached = old.reached; untimed = c.in_ok-self.field-0 } in
    marked_by s came past ps now c.args.turn old new kept refl
    (turned_timed past ps c.args.turn old.timers c.stop_turned.new.timers c.in_ok-turned.turned old.reached old.untimed c.in_ok-self.field-0 old.cache kept.timed kept.keys_are c.in_ok-turned.ensures.turned c.in_ok-turned.ensures.stopped
    (c.in_ok-self.ensures ∙ ap₂ (λ more o. option_map (λ ks. ks ++ more) o) c.as_slice.ensures c.take.ensures.value) kept.waits)
    (unmarked_knows s came past ps now old.cache none event kept.knows)
    (turned_stops past ps c.args.turn old.timers c.stop_turned.new.timers c.in_ok-turned.turned old.reached old.cache kept.timed kept.knows kept.keys_are c.in_ok-turned.ensures.turned c.in_ok-turned.ensures.stopped)
