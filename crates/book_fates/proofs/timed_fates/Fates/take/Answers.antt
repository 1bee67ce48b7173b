use Rattle.std.proofs.Common.{None, refl, subst}
use Rattle.std.proofs.lemmas.Option.{IfSome_then}
use Rattle.book_fates.specs.declared.timed_fates.Fates.{Fates}
use Rattle.book_fates.specs.Timing.{StoppedBy, lost_among}
use Rattle.book_fates.proofs.KeptLemmas.{marked_by}
use Rattle.book_fates.proofs.TimedLemmas.{changed_lost, told_timed}
use Rattle.book_fates.proofs.timed_fates.Fates.take.Goals as goal

pub returns-clause-marked : goal.returns-clause-marked
returns-clause-marked g c s came past ps now is kept =
    let stops : StoppedBy c.args.self.now.timers c.stop_lost.new.timers (lost_among c.in_ok-changed.changed None c.take_told.new.cache) =
    subst (λ keys. StoppedBy c.args.self.now.timers c.stop_lost.new.timers (lost_among keys None c.take_told.new.cache)) c.as_slice-2.ensures c.stop_lost.ensures.stopped in
    let new : Fates = record { alloc = c.args.self.now.alloc; cache = c.take_told.new.cache; timers = c.stop_lost.new.timers; reached = c.args.self.now.reached; untimed = c.args.self.now.untimed } in
    marked_by s came past ps now None c.args.self.now new kept refl
    (IfSome_then c.args.self.now.untimed kept.waits
    (λ untimed but. told_timed c.args.response c.args.self.now.timers c.stop_lost.new.timers c.in_ok-changed.changed untimed c.args.self.now.reached c.args.self.now.cache c.take_told.new.cache c.in_ok-changed.ensures.step stops but))
    (c.in_ok-changed.ensures.knows s came past ps now is kept.knows)
    (changed_lost past ps c.args.self.now.timers c.stop_lost.new.timers c.in_ok-changed.changed c.args.self.now.reached c.args.self.now.cache c.take_told.new.cache kept.timed kept.knows kept.keys_are c.in_ok-changed.ensures.listed stops)
