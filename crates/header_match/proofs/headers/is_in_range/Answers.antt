use Rattle.std.proofs.Common.{sym, ◌∙◌, subst}
use Rattle.std.proofs.lemmas.Int.{to_z-of_z}
use Rattle.std.specs.Prelude.{FitsSigned}
use mir.Syntax.{w64}
use Rattle.header_match.proofs.RangeLemmas.{range_of_number, range_of_none, range_of_plus, no_plus, is_plus}
use Rattle.header_match.proofs.headers.is_in_range.Goals as goal

pub returns-then-has_plus : goal.returns-then-has_plus
returns-then-has_plus c = sym (range_of_plus c.args.text.now c.args.start c.args.end (is_plus _ c.if-has_plus.ensures))

pub returns-in-Ok : goal.returns-in-Ok
returns-in-Ok c =
    let read = c.in-Ok.ensures.value.0 in
    let low : FitsSigned w64 c.args.start = c.ranges.start in
    let high : FitsSigned w64 c.args.end = c.ranges.end in
    let fits : FitsSigned w64 c.in-Ok.number = subst (FitsSigned w64) (sym read.1) read.0.1 in
    (simp to_z-of_z at c.is_between.ensures) ∙ sym (range_of_number c.args.text.now c.args.start c.args.end c.in-Ok.number (no_plus _ c.if-has_plus.ensures) read.0.0 read.0.1 read.1)

pub returns-in-Err : goal.returns-in-Err
returns-in-Err c =
    sym (range_of_none c.args.text.now c.args.start c.args.end (no_plus _ c.if-has_plus.ensures) c.in-Err.ensures.value.0)
