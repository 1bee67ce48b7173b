use Rattle.std.proofs.Common.{◌∙◌, map, sym, subst, ap}
use Rattle.std.specs.List.{list_any}
use Rattle.dep_manager.specs.EndpointNews.{is_told}
use Rattle.dep_manager.specs.ToldPlaces.{AreToldFrom}
use Rattle.dep_manager.proofs.RenewLemmas.{renewed_names}
use Rattle.dep_manager.proofs.ToldLemmas.{entries_read, told_marked}
use Rattle.dep_manager.proofs.config_renewal.renewed_clusters.Goals as goal

pub renewed_blocks-requires-clause-told : goal.renewed_blocks-requires-clause-told
renewed_blocks-requires-clause-told c =
    subst (λ told. AreToldFrom told c.places.result.now 0 c.as_slice.result.now) (sym c.of-reader.ensures)
    (told_marked c.args.news.now c.args.told.now c.places.result.now c.as_slice.result.now (c.requires ∙ ap (map (list_any (is_told c.args.news.now))) (sym c.as_slice.ensures)) c.places.ensures.rising c.places.ensures.marked)

pub renewed-requires : goal.renewed-requires
renewed-requires c = rw (entries_read c.of-reader.result c.args.news.now c.as_blocks-before.result.now c.args.clusters.now c.in_ok-blocks.blocks c.as_slice.result.now c.args.sources.now c.in_ok-blocks.ensures.blocks c.of-reader.ensures c.as_blocks-before.ensures.same c.as_slice.ensures) (renewed_names c.args.news.now c.args.clusters.now c.args.sources.now)

pub returns : goal.returns
returns c = c.renewed.ensures ∙ entries_read c.of-reader.result c.args.news.now c.as_blocks-before.result.now c.args.clusters.now c.in_ok-blocks.blocks c.as_slice.result.now c.args.sources.now c.in_ok-blocks.ensures.blocks c.of-reader.ensures c.as_blocks-before.ensures.same c.as_slice.ensures
