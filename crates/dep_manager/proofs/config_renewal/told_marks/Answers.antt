use Rattle.std.proofs.Common.{◌≡◌, ◌+◌, ◌∷◌, ◌∙◌, drop, ap, arith}
use Rattle.std.specs.Map.{keys_of}
use Rattle.std.proofs.lemmas.List.{at_drop_more, drop_all}
use Rattle.std.proofs.lemmas.Map.Entries.{length-keys_of}
use Rattle.std.proofs.lemmas.Option.{get_or_from_slice_get, slice_get_within}
use Rattle.dep_manager.proofs.PlaceLemmas.{has_any, marks_all, marks_next}
use Rattle.dep_manager.proofs.config_renewal.told_marks.Goals as goal

pub loop-place-preserved : goal.loop-place-preserved
loop-place-preserved c =
    let keys = keys_of c.args.news.now in
    let first : drop c.loop-place.place keys ≡ c.key.result.now ∷ drop (c.loop-place.place + 1) keys =
    at_drop_more (λ left. left) keys c.loop-place.place c.key.result.now (slice_get_within keys c.loop-place.place c.key.result.now c.key.ensures)
    ∙ ap (λ key. key ∷ drop (c.loop-place.place + 1) keys) (get_or_from_slice_get keys c.loop-place.place c.key.result.now c.key.result.now c.key.ensures) in
    record {
      count = c.in_ok-more.ensures.count ∙ c.loop-place.invariant.count;
      marked = marks_next c.loop-place.told c.in_ok-more.more c.places_of-places.result.now c.key.result.now (drop c.loop-place.place keys) (drop (c.loop-place.place + 1) keys) c.args.sources.now (has_any keys c.args.sources.now)
          first c.in_ok-more.ensures.set c.places_of-places.ensures.listed c.in_ok-more.ensures.count c.loop-place.invariant.marked;
    }

pub returns : goal.returns
returns c =
    let keys = keys_of c.args.news.now in
    let long = length-keys_of c.args.news.now in
    marks_all c.args.news.now c.loop-place.told c.args.sources.now (drop c.loop-place.place keys) c.loop-place.invariant.count (drop_all c.loop-place.place keys (omega (arith, long, c.loop-place-test.false, c.len-place-end.ensures))) c.loop-place.invariant.marked
