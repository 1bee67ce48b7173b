use Rattle.std.proofs.Common.{ap, subst, sym, ◌∙◌}
use Rattle.std.specs.List.Sorted.{IsStrictlySortedBy}
use Rattle.std.proofs.lemmas.List.Kept.{IsStrictlySortedBy-filter}
use Rattle.xc_keys.specs.Keys.{key_cmp}
use Rattle.std.specs.Prelude.{filter, not}
use Rattle.book_fates.specs.KindRanges.{is_below, is_upto}
use Rattle.book_fates.proofs.KindLemmas.{of_one_kind}
use Rattle.book_fates.proofs.kind_ranges.of_kind.Goals as goal

pub keys_upto-requires : goal.keys_upto-requires
keys_upto-requires c =
    subst (IsStrictlySortedBy key_cmp) (sym c.keys_from.ensures)
    (IsStrictlySortedBy-filter key_cmp (λ key. not (is_below c.kind_place-place.result key)) c.args.keys.now c.requires)

pub returns : goal.returns
returns c =
    c.keys_upto.ensures
    ∙ ap (filter (is_upto c.kind_place-place.result)) c.keys_from.ensures
    ∙ ap (λ place. filter (is_upto place) (filter (λ key. not (is_below place key)) c.args.keys.now)) c.kind_place-place.ensures
    ∙ of_one_kind c.args.kind c.args.keys.now
