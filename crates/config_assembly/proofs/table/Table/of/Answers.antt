use Rattle.std.proofs.Common.{[], refl, sym, ap, subst}
use Rattle.xds_cache.specs.KeptFates.{shown}
use Rattle.config_assembly.specs.Reach.{aggregates, children_of}
use Rattle.config_assembly.specs.Tables.{AreLawfulRows, Holds, row_at}
use Rattle.config_assembly.specs.DepsViews.{seen}
use Rattle.config_assembly.proofs.TableLemmas.{holds_more, no_rows}
use Rattle.config_assembly.proofs.table.Table.of.Goals as goal

pub loop-cluster-init : goal.loop-cluster-init
loop-cluster-init g c = (subst (λ rows. Holds (aggregates (seen c.args.sight)) [] (row_at rows)) (sym c.new-table.ensures) (λ name. refl), subst AreLawfulRows (sym c.new-table.ensures) no_rows)

pub loop-cluster-preserved : goal.loop-cluster-preserved
loop-cluster-preserved g c = (
  holds_more (aggregates (seen c.args.sight)) c.args.clusters.now c.loop-cluster.cluster-index c.cluster-item.result (shown c.in_ok-fate.field-0) c.loop-cluster.table c.put.new.self c.loop-cluster-test.true c.cluster-item.is (sym (ap children_of c.in_ok-fate.ensures.fate)) c.in_ok-put.ensures.row c.loop-cluster.invariant.0,
  c.in_ok-put.ensures.lawful c.loop-cluster.invariant.1,
)
