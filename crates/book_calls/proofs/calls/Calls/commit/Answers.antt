use Rattle.std.proofs.Common.{◌∙◌, subst}
use Rattle.std.specs.Prelude.{IfSome}
use Rattle.cluster_refs.specs.CallReferences.{IsHeld}
use Rattle.book_calls.proofs.CallsProofs.{calls_released}
use Rattle.book_calls.proofs.calls.Calls.commit.Goals as goal

pub returns-clause-kept : goal.returns-clause-kept
returns-clause-kept c = λ archive s past actor line reply kept.
    calls_released archive s past actor line c.args.call reply c.args.self.now c.end_hold-released.new.refs c.holds_stay-self.result c.end_hold-released.ensures.gone c.holds_stay-self.ensures.before
    (λ same. subst (λ o. IfSome o (IsHeld c.end_hold-released.new.refs)) (c.as_ref.ensures.value ∙ c.end_hold-released.ensures.held) (c.holds_stay-self.ensures.held same)) kept
