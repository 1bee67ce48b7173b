use Rattle.std.proofs.Common.{◌≡◌, false, ◌∙◌, ap, arith}
use Rattle.std.specs.Prelude.{replicate}
use Rattle.ads_stream.specs.StreamSteps.{unopened}
use Rattle.book_streams.proofs.StepLemmas.{new_more}
use Rattle.book_streams.proofs.TellLemmas.{kept_new}
use Rattle.book_streams.proofs.all_streams.Streams.new.Goals as goal

pub loop-place-preserved : goal.loop-place-preserved
loop-place-preserved c = record {
  few = omega (arith, c.loop-place-test.true);
  items = c.in_ok-push.ensures.items ∙ new_more c.args.node.now c.loop-place.streams.items c.loop-place.place _ c.loop-place.invariant.items (c.new.ensures ∙ ap unopened c.in_ok-copy_of.ensures);
}

pub invariant_of-result : goal.invariant_of-result
invariant_of-result c =
    let all : c.args.count ≡ c.loop-place.place = omega (arith, c.loop-place.invariant.few, c.loop-place-test.false) in (
      kept_new c.args.node.now c.loop-place.streams.items _ _ c.loop-place.place c.loop-place.invariant.items (c.in_ok-marks.ensures ∙ ap (λ n. replicate n false) all) (omega (arith, c.loop-place.invariant.few, c.requires)),
      λ place kind state is at. absurd (cc is),
    )
