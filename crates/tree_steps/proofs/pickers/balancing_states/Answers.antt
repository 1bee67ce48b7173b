use Rattle.std.specs.Prelude.{IfOk}
use Rattle.xds_config.specs.Endpoints.{IsLawfulEndpoints}
use Rattle.tree_steps.specs.Reports.{Child}
use Rattle.tree_steps.proofs.ChildLemmas.{lent_holds}
use Rattle.tree_steps.proofs.pickers.balancing_states.Goals as goal

pub balancing_state-requires : goal.balancing_state-requires
balancing_state-requires c = lent_holds (λ (child : Child). IfOk child.0.state IsLawfulEndpoints) c.args.children.now c.loop-child.child-index c.child-item.result c.requires c.loop-child-test.true c.child-item.is
