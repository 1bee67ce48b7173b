use Rattle.std.proofs.Common.{refl, sym, ◌∙◌, subst}
use Rattle.std.specs.Prelude.{IfSome}
use Rattle.book_fates.specs.declared.timed_fates.Fates.{Fates}
use Rattle.book_fates.specs.FatesKept.{StayTimed}
use Rattle.book_fates.specs.Timing.{AreTimedBut}
use Rattle.book_fates.proofs.KeptLemmas.{settled}
use Rattle.book_fates.proofs.TimedLemmas.{still_timed}
use Rattle.book_fates.proofs.timed_fates.Fates.settle.Goals as goal

pub returns-clause-kept : goal.returns-clause-kept
returns-clause-kept g c s came past ps page turn marks was by watching watched now_is turn_is asks =
    let stays : StayTimed c.args.self.now c.args.next =
    λ same. still_timed marks c.args.self.now c.args.next.keys by watching (c.requires.stays same ∙ by.keys_are) was.waits in
    let new : Fates = record { alloc = c.start.new.self.alloc; cache = c.start.new.self.cache; timers = c.start.new.self.timers; reached = c.args.next.keys; untimed = c.start.new.self.untimed } in
    settled s came past ps page c.args.now turn marks c.args.self.now new c.args.next.keys c.args.sent.now was by watching watched now_is turn_is asks
    (c.in_ok-start.ensures.started stays)
    (subst (λ rows. IfSome new.untimed (λ keys. AreTimedBut keys c.args.next.keys rows new.timers)) (sym c.in_ok-start.ensures.cache) (c.in_ok-start.ensures.timed stays))
    c.in_ok-start.ensures.cache refl
