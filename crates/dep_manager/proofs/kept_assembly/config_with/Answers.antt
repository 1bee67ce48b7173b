use Rattle.std.proofs.Common.{◌≡◌, sym, subst, ◌∙◌}
use Rattle.std.specs.Prelude.{All}
use Rattle.aggregate_expand.specs.Leaves.{leaves_of}
use Rattle.config_assembly.specs.Orders.{name_cmp, sorted}
use Rattle.config_assembly.specs.ReachedResources.{Resources}
use Rattle.config_assembly.specs.Reach.{aggregates, on_chains}
use Rattle.config_assembly.specs.Tables.{Holds, row_at}
use Rattle.config_assembly.specs.DepsViews.{seen}
use Rattle.config_assembly.proofs.ReachLemmas.{leaves_alike}
use Rattle.dep_manager.proofs.kept_assembly.config_with.Goals as goal

pub config-requires-clause-leaves : goal.config-requires-clause-leaves
config-requires-clause-leaves g c =
    let r : Resources = seen c.args.sight in
    let listed : c.as_slice.result.now ≡ sorted name_cmp (on_chains (aggregates r) 16 c.args.names.now.roots) = c.as_slice.ensures ∙ c.requires.clusters in
    let holds : Holds (aggregates r) (sorted name_cmp (on_chains (aggregates r) 16 c.args.names.now.roots)) (row_at c.in_ok-table.table) = subst (λ names. Holds (aggregates r) names (row_at c.in_ok-table.table)) listed c.in_ok-table.ensures.rows in
    subst (All (λ name. leaves_of (row_at c.in_ok-table.table) name ≡ leaves_of (aggregates r) name)) (sym c.as_slice-2.ensures) (leaves_alike (aggregates r) (row_at c.in_ok-table.table) c.args.names.now.roots holds)
