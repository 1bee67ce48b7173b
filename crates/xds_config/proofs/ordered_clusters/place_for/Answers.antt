use Rattle.std.proofs.Common.{◌+◌, ◌-◌, ◌/◌, Some, sym, ap, subst, ◌∙◌, arith}
use Rattle.std.proofs.lemmas.Option.{get_or_from_slice_get}
use Rattle.xds_config.specs.declared.config.ClusterEntry.{ClusterEntry}
use Rattle.xds_config.specs.SearchedLists.{IsNameBefore}
use Rattle.xds_config.proofs.HalvesLemmas.{further, nearer}
use Rattle.xds_config.proofs.ordered_clusters.place_for.Goals as goal

pub loop-from-preserved-then-is_before : goal.loop-from-preserved-then-is_before
loop-from-preserved-then-is_before c =
    let middle = c.loop-from.from + (c.loop-from.to - c.loop-from.from) / 2 in
    let at = c.at.ensures ∙ ap Some (sym c.get.ensures) in
    further c.args.clusters.now c.args.name.now c.loop-from.from c.loop-from.to middle c.requires c.loop-from.invariant (omega (arith, c.loop-from-test.true)) (omega arith)
    (λ d. subst (λ (e : ClusterEntry). IsNameBefore e.name c.args.name.now) (sym (get_or_from_slice_get c.args.clusters.now middle c.get.result.now d at)) (c.is_before.ensures.0 c.if-is_before.true))

pub loop-from-preserved : goal.loop-from-preserved
loop-from-preserved c =
    let middle = c.loop-from.from + (c.loop-from.to - c.loop-from.from) / 2 in
    let at = c.at.ensures ∙ ap Some (sym c.get.ensures) in
    nearer c.args.clusters.now c.args.name.now c.loop-from.from c.loop-from.to middle c.requires c.loop-from.invariant (omega (arith, c.loop-from-test.true)) (omega arith)
    (λ d before. let is = c.is_before.ensures.1 (subst (λ (e : ClusterEntry). IsNameBefore e.name c.args.name.now) (get_or_from_slice_get c.args.clusters.now middle c.get.result.now d at) before) in absurd (cc))
