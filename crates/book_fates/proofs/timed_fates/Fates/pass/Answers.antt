use Rattle.std.proofs.Common.{None, refl}
use Rattle.std.proofs.lemmas.Option.{IfSome_then}
use Rattle.book_fates.specs.declared.timed_fates.Fates.{Fates}
use Rattle.book_fates.proofs.DueLemmas.{due_stops}
use Rattle.book_fates.proofs.KeptLemmas.{marked_by}
use Rattle.book_fates.proofs.QuietLemmas.{moment_loses}
use Rattle.book_fates.proofs.TimedLemmas.{expired_timed}
use Rattle.book_fates.proofs.timed_fates.Fates.pass.Goals as goal

pub returns-clause-marked : goal.returns-clause-marked
returns-clause-marked c s came past ps time event kept =
    let stops = due_stops c.args.self.now.timers c.expire.new.timers c.args.now c.in_ok-keys.keys c.in_ok-keys.ensures.due in
    let new : Fates = record { alloc = c.args.self.now.alloc; cache = c.expire.new.cache; timers = c.expire.new.timers; reached = c.args.self.now.reached; untimed = c.args.self.now.untimed } in
    marked_by s came past ps c.args.now None c.args.self.now new kept refl
    (IfSome_then c.args.self.now.untimed kept.waits
    (λ untimed but. expired_timed past ps c.args.now c.args.self.now.timers c.expire.new.timers c.in_ok-keys.keys untimed c.args.self.now.reached c.args.self.now.cache c.expire.new.cache kept.knows (c.in_ok-keys.ensures.expired past ps kept.timed)
    c.in_ok-keys.ensures.step stops but))
    (c.in_ok-keys.ensures.knows s came past ps time event kept.timed kept.knows)
    (moment_loses past ps c.args.self.now.timers c.expire.new.timers c.in_ok-keys.keys c.args.self.now.reached c.args.self.now.cache c.expire.new.cache kept.timed kept.knows c.in_ok-keys.ensures.step kept.keys_are stops)
