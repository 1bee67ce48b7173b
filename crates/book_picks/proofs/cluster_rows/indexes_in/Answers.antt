use Rattle.std.proofs.Common.{Bor, arith}
use Rattle.xds_config.specs.declared.endpoint_values.Locality.{Locality}
use Rattle.book_picks.specs.ClusterRows.{key_in}
use Rattle.book_picks.proofs.CountedLemmas.{extends_on}
use Rattle.book_picks.proofs.IndexLemmas.{index_step, index_end}
use Rattle.book_picks.proofs.cluster_rows.indexes_in.Goals as goal

pub loop-locality-preserved : goal.loop-locality-preserved
loop-locality-preserved c = record {
  extends = extends_on c.args.counts.now c.loop-locality.counts c.index_in.new.counts c.loop-locality.invariant.extends c.in_ok-index.ensures.extends;
  indexes = index_step (λ (r : Bor Locality). key_in c.args.cluster.now c.args.child.now r.now.id) c.args.localities.now c.loop-locality.locality-index c.locality-item.result c.loop-locality.counts c.index_in.new.counts
      c.loop-locality.indexes c.push.new.self c.in_ok-index.index c.loop-locality-test.true c.locality-item.is c.in_ok-index.ensures.extends c.in_ok-index.ensures.index c.in_ok-push.ensures.ok c.loop-locality.invariant.indexes;
}

pub returns-clause-indexes : goal.returns-clause-indexes
returns-clause-indexes c =
    index_end (λ (l : Locality). key_in c.args.cluster.now c.args.child.now l.id) (λ (r : Bor Locality). r.now) c.args.localities.now c.loop-locality.locality-index c.loop-locality.counts c.loop-locality.indexes (omega (arith, c.loop-locality-test.false)) c.loop-locality.invariant.indexes
