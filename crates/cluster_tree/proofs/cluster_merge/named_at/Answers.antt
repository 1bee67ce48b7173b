use Rattle.std.proofs.Common.{◌≡◌, true, false, None, Some, length, rules, refl, sym, ◌∙◌, subst}
use Rattle.std.specs.Prelude.{option_map, slice_get}
use Rattle.std.proofs.lemmas.Option.{slice_get_past, slice_get_read}
use Rattle.xds_config.specs.declared.config.ClusterEntry.{ClusterEntry}
use Rattle.cluster_tree.proofs.MergeLemmas.{found_here, found_none, found_other}
use Rattle.cluster_tree.proofs.cluster_merge.named_at.Goals as goal

pub returns-in_err-cluster-clause-named : goal.returns-in_err-cluster-clause-named
returns-in_err-cluster-clause-named c =
    let none : option_map (λ r. r.now) c.from_residual.result ≡ None = search rules in
    none ∙ found_none c.args.clusters.now c.args.place c.args.name.now c.requires.rising c.requires.place (slice_get_past c.args.clusters.now c.args.place c.in_err-cluster.ensures.lookup.3)

pub returns-then-same-clause-named : goal.returns-then-same-clause-named
returns-then-same-clause-named c =
    let at : slice_get c.args.clusters.now c.args.place ≡ Some c.in_ok-cluster.cluster.now =
    slice_get_read c.args.clusters.now (length c.args.clusters.now) c.args.place c.in_ok-cluster.cluster.now refl c.in_ok-cluster.ensures.lookup.3.0 c.in_ok-cluster.ensures.lookup.1 in
    found_here c.args.clusters.now c.args.place c.in_ok-cluster.cluster.now c.args.name.now c.requires.place at
    (subst (λ (e : ClusterEntry). e.name ≡ c.args.name.now) c.get-2.ensures (c.same.ensures.0 c.if-same.true))

pub returns-else-same-clause-named : goal.returns-else-same-clause-named
returns-else-same-clause-named c =
    let at : slice_get c.args.clusters.now c.args.place ≡ Some c.in_ok-cluster.cluster.now =
    slice_get_read c.args.clusters.now (length c.args.clusters.now) c.args.place c.in_ok-cluster.cluster.now refl c.in_ok-cluster.ensures.lookup.3.0 c.in_ok-cluster.ensures.lookup.1 in
    found_other c.args.clusters.now c.args.place c.in_ok-cluster.cluster.now c.args.name.now c.requires.rising c.requires.place at
    (λ is. (let clash : true ≡ false = sym (c.same.ensures.1 (subst (λ (e : ClusterEntry). e.name ≡ c.args.name.now) (sym c.get-2.ensures) is)) ∙ c.if-same.false in cc))
