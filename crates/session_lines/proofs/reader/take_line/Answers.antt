use Rattle.std.proofs.Common.{arith}
use Rattle.session_lines.proofs.KeptLemmas.{fits_data, fits_call}
use Rattle.session_lines.proofs.reader.take_line.Goals as goal

pub with_line-requires-clause-bytes : goal.with_line-requires-clause-bytes
with_line-requires-clause-bytes c =
    let is = rw c.reader.view_is at c.reader.invariant.bytes_is in
    let few = c.reader.invariant.few_bytes in
    fits_data c.in-Ok.line.work c.args.reader c.in-Ok.ensures.fits (omega (arith, is, few))

pub with_line-requires-clause-call : goal.with_line-requires-clause-call
with_line-requires-clause-call c = fits_call c.in-Ok.line.work c.args.reader c.in-Ok.ensures.fits
