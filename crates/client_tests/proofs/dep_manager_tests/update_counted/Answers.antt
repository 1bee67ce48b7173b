use Rattle.std.proofs.Common.{refl, sym, subst}
use Rattle.dep_manager.specs.KeptAssemblies.{IsRightBy}
use Rattle.client_tests.proofs.dep_manager_tests.update_counted.Goals as goal

pub update-requires-clause-changed : goal.update-requires-clause-changed
update-requires-clause-changed g c =
    (c.new-cache.result, subst (IsRightBy c.bootstrap-boot.result.authorities c.new-cache.result) (sym c.in_ok-deps.ensures.new) tt, record { watched = λ key. refl; others = λ key lone. refl })
