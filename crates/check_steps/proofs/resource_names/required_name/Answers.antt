use Rattle.std.proofs.Common.{◌≢◌, [], List, ℕ, ap, sym, subst, ◌∙◌}
use Rattle.xc_base.specs.declared.reason.Reason.TheVariants.{NoName}
use Rattle.xds_name.specs.Names.{canonical_of}
use Rattle.check_steps.proofs.NameLemmas.{canonical_some, some_of}
use Rattle.check_steps.proofs.resource_names.required_name.Goals as goal

pub returns-clause-some : goal.returns-clause-some
returns-clause-some c =
    subst (λ (name : List ℕ). name ≢ []) (sym (c.in_ok-name.ensures ∙ ap canonical_of c.as_str.ensures))
    (canonical_some c.args.text.now (some_of c.args.text.now _ NoName c.is_empty.ensures c.in_ok-demand.ensures))
