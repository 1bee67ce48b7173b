use Rattle.std.proofs.Common.{◌≡◌, List, true, sym, ◌∙◌, subst}
use Rattle.std.specs.Prelude.{IfSome, IsSomeAnd}
use Rattle.xc_base.specs.declared.names.Key.{Key}
use Rattle.config_assembly.specs.ReachedResources.{Resources}
use Rattle.dep_manager.specs.CallsAlone.{KeepsRoots}
use Rattle.dep_manager.specs.EndpointNews.{are_endpoints}
use Rattle.dep_manager.specs.KeptAssemblies.{IsAssembledOf, kept_for}
use Rattle.dep_manager.proofs.RootLemmas.{if_any, stays_of}
use Rattle.dep_manager.proofs.kept_assembly.last_to_follow.Goals as goal

pub returns-clause-kept : goal.returns-clause-kept
returns-clause-kept c = subst (λ o. IfSome c.in_ok-found.found (λ kept. IsSomeAnd o (λ before. kept ≡ kept_for before c.args.references.now))) (sym c.in-Some.is) c.in_ok-found.ensures.kept

pub returns-clause-stays : goal.returns-clause-stays
returns-clause-stays c =
    subst (λ o. IfSome c.in_ok-found.found (λ kept. IfSome o (λ before. (r : Resources) (reached : List Key) → IsAssembledOf r reached before → KeepsRoots r before.references c.args.references.now))) (sym c.in-Some.is)
    (stays_of c.in_ok-found.found c.in-Some.kept c.args.references.now c.in_ok-found.ensures.stays)

pub returns-clause-endpoints : goal.returns-clause-endpoints
returns-clause-endpoints c = if_any c.in_ok-found.found (are_endpoints c.args.changed.now ≡ true) (sym c.are_endpoints.ensures ∙ c.if-not-are_endpoints.false)

pub returns-clause-some : goal.returns-clause-some
returns-clause-some c before r reached last_is is keeps endpoints =
    let same : before ≡ c.in-Some.kept = cc (sym last_is ∙ c.in-Some.is) in
    (c.in_ok-found.ensures.stays r reached (subst (IsAssembledOf r reached) same is)).1 (subst (λ k. KeepsRoots r k.references c.args.references.now) same keeps)
