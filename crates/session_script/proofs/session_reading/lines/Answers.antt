use Rattle.std.proofs.Common.{sym, ◌∙◌, ◌+◌, length}
use Rattle.std.proofs.lemmas.Result.{err_from_is_err_and}
use Rattle.session_lines.specs.Lines.{lines_of}
use Rattle.session_script.proofs.SessionLemmas.{lines_fail, lines_go, lines_end}
use Rattle.session_script.proofs.session_reading.lines.Goals as goal

pub returns-in_err-reader : goal.returns-in_err-reader
returns-in_err-reader c =
    let p = err_from_is_err_and c.from_residual.result c.from_residual.ensures.1 in
    rw (p.1, p.2, ← c.loop-line.invariant, c.in-Some.ensures.some)
    (lines_fail _ c.args.head.now c.loop-line.reader (length c.loop-line.reader + 5) c.in-Some.line.now (lines_of c.in-Some.after.now) c.in_err-reader.ensures)

pub loop-line-preserved : goal.loop-line-preserved
loop-line-preserved c =
    rw (← lines_go c.args.head.now c.loop-line.reader c.in_ok-reader.reader c.in-Some.line.now (lines_of c.in-Some.after.now) c.in_ok-reader.ensures, ← c.in-Some.ensures.some)
    c.loop-line.invariant

pub returns : goal.returns
returns c = sym c.loop-line.invariant ∙ lines_end c.args.head.now c.loop-line.reader _ c.loop-line.rest.now c.in_default.ensures.none
