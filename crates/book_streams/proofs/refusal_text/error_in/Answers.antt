use Rattle.std.proofs.Common.{◌∙◌, arith}
use Rattle.std.specs.String.{string_bytes}
use Rattle.book_streams.proofs.ErrorLemmas.{error_is}
use Rattle.book_streams.proofs.refusal_text.error_in.Goals as goal

pub returns : goal.returns
returns c =
    c.in_ok-error.ensures
    ∙ error_is c.loop-place.place c.args.parts.now c.loop-place.is_later (string_bytes c.loop-place.text) (omega (arith, c.loop-place-test.false)) c.loop-place.invariant.later c.loop-place.invariant.text
