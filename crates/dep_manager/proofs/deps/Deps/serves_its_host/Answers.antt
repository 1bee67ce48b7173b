use Rattle.std.proofs.Common.{◌≡◌, Some, sym, ap, ◌∙◌, subst}
use Rattle.std.specs.Prelude.{IfSome}
use Rattle.dep_manager.specs.ServedCalls.{IsHandedOut}
use Rattle.dep_manager.proofs.ServedLemmas.{no_members, serves_its_host}
use Rattle.dep_manager.proofs.deps.Deps.serves_its_host.Goals as goal

pub returns-then-is_empty : goal.returns-then-is_empty
returns-then-is_empty c none_awaited entries known references right shown =
    let last : c.args.self.now.last ≡ Some c.in-Some.kept = sym (ap (λ d. d.last) c.self.view_is) ∙ c.in-Some.is in
    serves_its_host entries known c.args.self.now c.in-Some.kept references right last
    (subst (λ d. IfSome d.last (IsHandedOut d.shown)) c.self.view_is c.self.invariant.3)
    (c.is_empty.ensures.0 c.if-is_empty.true) (no_members c.in-Some.kept.awaited.keys (c.is_empty-then-is_empty.ensures.0 none_awaited)) shown
