use Rattle.std.proofs.Common.{◌∙◌, rules}
use Rattle.std.proofs.lemmas.List.Sorted.{IsPartitionPoint-from_clause, IsPartitionedBy-leb}
use Rattle.xc_base.specs.declared.names.Key.{Key}
use Rattle.xc_keys.specs.Keys.{kind_place}
use Rattle.book_fates.specs.KindRanges.{is_upto}
use Rattle.book_fates.proofs.KindLemmas.{kinds_rise, parted}
use Rattle.book_fates.proofs.kind_ranges.keys_upto.Goals as goal

pub returns : goal.returns
returns c =
    let rise = IsPartitionedBy-leb (λ (key : Key). kind_place key.kind) c.args.keys.now c.args.place (kinds_rise c.args.keys.now c.requires) in
    let point = IsPartitionPoint-from_clause (is_upto c.args.place) _ _ c.partition_point-count.ensures.partitioned rise (λ a r q k. search rules) in
    c.split_at.ensures.front ∙ (parted (is_upto c.args.place) c.args.keys.now c.partition_point-count.result point.0 point.1 c.partition_point-count.ensures.bound).0
