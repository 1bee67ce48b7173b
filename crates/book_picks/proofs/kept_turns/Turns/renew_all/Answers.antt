use Rattle.std.proofs.Common.{◌≡◌, length, refl, ap, ◌∙◌, subst}
use Rattle.xds_config.specs.declared.config.ClusterEntry.{ClusterEntry}
use Rattle.book_trees.specs.xds_history.Pages.{page_of, pages}
use Rattle.book_picks.specs.declared.kept_turns.Turns.{Turns}
use Rattle.book_picks.specs.NamedPlaces.{ArePlacesOf}
use Rattle.book_picks.proofs.RenewedLemmas.{all_marked, page_of_snapshot, remade}
use Rattle.book_picks.proofs.kept_turns.Turns.renew_all.Goals as goal

pub returns : goal.returns
returns c s past e are published serves =
    let bare : Turns = record { alloc = c.args.self.now.alloc; counts = c.args.self.now.counts; places = c.in_ok-self.field-0; rows = c.in_ok-self-2.field-0 } in
    let clusters : c.as_blocks-clusters.result.now ≡ c.args.snapshot.now.config.clusters = c.as_blocks-clusters.ensures.same ∙ ap (λ x. x.clusters) c.get.ensures in
    let many : c.len-count.result ≡ length c.args.snapshot.now.config.clusters = c.len-count.ensures ∙ ap (λ cs. length cs) clusters in
    remade (pages s past) (page_of s e e.what past (pages s past)) c.args.snapshot.now c.args.trees.now c.in_ok-marks.marks c.args.self.now bare c.renew_rows.new.self are (page_of_snapshot s past e c.args.snapshot.now published) serves refl
    (subst (λ cs. ArePlacesOf cs c.in_ok-self.field-0.entries) clusters c.in_ok-self.ensures)
    (c.in_ok-self-2.ensures ∙ many)
    (all_marked c.in_ok-marks.marks c.len-count.result (length c.args.snapshot.now.config.clusters) c.in_ok-marks.ensures many)
    c.in_ok-renew_rows.ensures
