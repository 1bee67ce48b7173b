use Rattle.std.proofs.Common.{refl, ap}
use Rattle.dep_manager.proofs.RootLemmas.{keeps_at}
use Rattle.dep_manager.proofs.kept_assembly.Kept.keeps_roots.Goals as goal

pub returns : goal.returns
returns c r reached is =
    keeps_at r reached c.args.self.now is c.args.references.now c.get.result.now.clusters c.as_slice.result.now c.args.references.now c.in_ok-keeps.keeps
    (ap (λ config. config.clusters) c.get.ensures) c.as_slice.ensures refl c.in_ok-keeps.ensures
