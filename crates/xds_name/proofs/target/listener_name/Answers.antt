use Rattle.std.proofs.Common.{refl, sym}
use Rattle.xds_name.proofs.TargetLemmas.{no_target, target_has_form}
use Rattle.xds_name.proofs.target.listener_name.Goals as goal

pub returns-in-Some-clause-bad_target : goal.returns-in-Some-clause-bad_target
returns-in-Some-clause-bad_target c = (
  λ bad. absurd (c.listener_of_form.ensures.formed bad),
  λ none. absurd (none _ _ (target_has_form c.args.target.now _ _ (sym c.in-Some.ensures))),
)

pub returns-in-None-clause-bad_target : goal.returns-in-None-clause-bad_target
returns-in-None-clause-bad_target c = (λ e. no_target c.args.target.now c.in-None.ensures, λ none. refl)
