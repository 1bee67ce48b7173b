use Rattle.std.proofs.Common.{◌≡◌, Some, sym, ap, ◌∙◌, subst}
use Rattle.std.specs.Prelude.{IfSome}
use Rattle.config_assembly.specs.ReachedResources.{resources}
use Rattle.dep_manager.specs.KeptAssemblies.{IsKeptOf}
use Rattle.dep_manager.specs.ServedCalls.{Serves}
use Rattle.dep_manager.specs.UpdateOutcomes.{IsOutcomeBy}
use Rattle.dep_manager.proofs.RootLemmas.{kept_of}
use Rattle.dep_manager.proofs.deps.Deps.update_in_place.Goals as goal

pub returns-clause-outcome : goal.returns-clause-outcome
returns-clause-outcome g c entries known references right changes serves =
    let last : c.args.self.now.last ≡ Some c.in-Some.last = sym (c.take.ensures.value ∙ ap (λ d. d.last) c.self.view_is) ∙ c.in-Some.is in
    subst (λ target. IsOutcomeBy (resources target entries c.args.cache.now) references c.in_ok-outcome.outcome) (ap (λ d. d.target) c.self.view_is)
    (c.in_ok-outcome.ensures.outcome entries known references (subst (λ d. IsKeptOf entries known d.target d.reached c.in-Some.last) (sym c.self.view_is) (kept_of entries known c.args.self.now c.in-Some.last right last)) changes
    (subst (λ o. IfSome o (Serves references)) last serves))
