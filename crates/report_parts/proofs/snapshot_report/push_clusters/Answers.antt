use Rattle.std.proofs.Common.{◌≡◌, ◌+◌, ◌<◌, ◌++◌, ◌∷◌, drop, length, string_bytes, Some, sym, ap, ◌∙◌, arith}
use Rattle.std.specs.Prelude.{slice_get}
use Rattle.std.proofs.lemmas.List.{append_assoc, drop_more}
use Rattle.std.proofs.lemmas.Option.{get_or_from_slice_get}
use Rattle.report_parts.specs.Snapshots.{cluster_text, clusters_from}
use Rattle.report_parts.proofs.snapshot_report.push_clusters.Goals as goal

pub loop-place-preserved : goal.loop-place-preserved
unfolding clusters_from
loop-place-preserved c =
    let place = c.loop-place.place in
    let clusters = c.args.clusters.now in
    let cluster = c.get.result.now in
    let at : slice_get clusters place ≡ Some cluster = c.at.ensures ∙ ap Some (sym c.get.ensures) in
    let less : place < length clusters = omega (arith, c.loop-place-test.true, c.len-place-end.ensures) in
    let next : drop place clusters ≡ cluster ∷ drop (place + 1) clusters =
    drop_more clusters place cluster less ∙ ap (λ e. e ∷ drop (place + 1) clusters) (get_or_from_slice_get clusters place cluster cluster at) in
    let text = cluster_text cluster (slice_get c.args.trees.now place) in
    let left = clusters_from c.args.trees.now (place + 1) (drop (place + 1) clusters) in
    let added = c.in_ok-push_cluster.ensures ∙ ap (λ tree. string_bytes c.loop-place.out ++ cluster_text cluster tree) c.tree_at.ensures in
    ap (λ bytes. bytes ++ left) added
    ∙ (append_assoc (string_bytes c.loop-place.out) text left
    ∙ (sym (ap (λ cs. string_bytes c.loop-place.out ++ clusters_from c.args.trees.now place cs) next) ∙ c.loop-place.invariant))
