use Rattle.std.proofs.Common.{◌≡◌, true, false, sym, ◌∙◌}
use Rattle.session_lines.specs.Lines.{is_gate}
use Rattle.session_lines.proofs.WordLemmas.{driver_past, driver_here, driver_last}
use Rattle.session_lines.proofs.lines.is_driver_line.Goals as goal

pub loop-word-preserved : goal.loop-word-preserved
loop-word-preserved c =
    let gate : is_gate c.in-Some.word.now ≡ true = cc in
    sym (driver_past c.loop-word.rest.now _ _ c.in-Some.ensures.parts gate) ∙ c.loop-word.invariant

pub returns-else-is_gate : goal.returns-else-is_gate
returns-else-is_gate c =
    let gate : is_gate c.in-Some.word.now ≡ false = cc in
    c.is_driver.ensures ∙ (driver_here c.loop-word.rest.now _ _ c.in-Some.ensures.parts gate ∙ c.loop-word.invariant)

pub returns-then-is_gate-2 : goal.returns-then-is_gate-2
returns-then-is_gate-2 c =
    let gate : is_gate c.loop-word.rest.now ≡ true = cc in
    driver_last c.loop-word.rest.now true c.in_default.ensures.parts gate ∙ c.loop-word.invariant

pub returns-else-is_gate-2 : goal.returns-else-is_gate-2
returns-else-is_gate-2 c =
    let gate : is_gate c.loop-word.rest.now ≡ false = cc in
    c.is_driver-else-is_gate-2.ensures ∙ (driver_last c.loop-word.rest.now false c.in_default.ensures.parts gate ∙ c.loop-word.invariant)
