use Rattle.std.proofs.Common.{◌≡◌, ◌≢◌, [], List, ℕ, Bool, Ok, ap, sym, subst, ◌∙◌}
use Rattle.xc_base.specs.declared.reason.Reason.TheVariants.{NoName}
use Rattle.xds_name.specs.Names.{canonical_of}
use Rattle.check_steps.specs.TableSteps.{demand}
use Rattle.check_steps.proofs.NameLemmas.{served}
use Rattle.check_clusters.proofs.cluster_check.eds_shape.Goals as goal

pub returns-clause-lawful : goal.returns-clause-lawful
returns-clause-lawful c = λ xdstp.
    let holds = subst (λ (b : Bool). demand b NoName ≡ Ok tt) c.is_served.ensures c.in_ok-demand-3.ensures in
    subst (λ (service : List ℕ). service ≢ []) (sym (c.in_ok-service.ensures ∙ ap canonical_of c.as_str.ensures))
    (served c.args.name.now c.unwrap_or-eds.result.now.service_name NoName holds xdstp)
