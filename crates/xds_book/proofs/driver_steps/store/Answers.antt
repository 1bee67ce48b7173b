use Rattle.std.proofs.Common.{sym, subst}
use Rattle.xds_book.specs.Publishing.{Renews}
use Rattle.xds_book.proofs.driver_steps.store.Goals as goal

pub returns-in-Ok-clause-turns : goal.returns-in-Ok-clause-turns
returns-in-Ok-clause-turns g c =
    subst (λ published. Renews c.args.trees.now published c.args.turns.now c.renew.new.self) (sym c.in-Some.is)
    (λ s past e at published serves marked. c.in_ok-renew.ensures s past e at published serves marked)
