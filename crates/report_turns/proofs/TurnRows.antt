-- Lines of reports, read by the definitions.
use Rattle.std.specs.Prelude.{◌≡◌, [], ◌∷◌, codes, Some, None, refl}
use Rattle.std.specs.Fmt.{digits}
use Rattle.session_lines.specs.Lines.{lines_of}
use Rattle.xc_base.specs.Numbers.{number_of}
use Rattle.report_turns.specs.TurnLines.{actor_in, end, entry, finding_at, findings_in, line_in, place_in, strange, turn_in}

-- the driver's entry and a caller's, and the last sweep, which has line 0
driver_row : turn_in (codes "7 12 d open - ok whole") ≡ Some record { actor = 0; line = 12 }
unfolding turn_in place_in line_in actor_in number_of digits
driver_row = refl

caller_row : turn_in (codes "1 4294967295 c65535 commit 0 released") ≡ Some record { actor = 65535; line = 4294967295 }
unfolding turn_in place_in line_in actor_in number_of digits
caller_row = refl

sweep_row : turn_in (codes "x 0 d ") ≡ Some record { actor = 0; line = 0 }
unfolding turn_in place_in line_in actor_in number_of digits
sweep_row = refl

-- no space behind the actor, numbers outside of their bounds or with a zero before them, and a word too many before them
too_short : turn_in (codes "7 12 d") ≡ None
unfolding turn_in place_in line_in actor_in number_of digits
too_short = refl

caller_0 : turn_in (codes "7 12 c0 commit 0") ≡ None
unfolding turn_in place_in line_in actor_in number_of digits
caller_0 = refl

caller_above : turn_in (codes "7 12 c65536 commit 0") ≡ None
unfolding turn_in place_in line_in actor_in number_of digits
caller_above = refl

line_above : turn_in (codes "7 4294967296 d sweep") ≡ None
unfolding turn_in place_in line_in actor_in number_of digits
line_above = refl

padded : turn_in (codes "7 012 d sweep") ≡ None
unfolding turn_in place_in line_in actor_in number_of digits
padded = refl

doubled_space : turn_in (codes "7  12 d sweep") ≡ None
unfolding turn_in place_in line_in actor_in number_of digits
doubled_space = refl

-- lines that go on are passed over, nothing is read behind the end, and a line with one space before it is strange
whole : findings_in (lines_of (codes "1 5 d open - ok\n  req - x\n2 6 c1 pin 0 nosnapshot\n  snap 1\nend 2 0\n3 7 d x\n"))
    ≡ entry record { actor = 0; line = 5 } ∷ entry record { actor = 1; line = 6 } ∷ end ∷ []
unfolding lines_of finding_at turn_in place_in line_in actor_in number_of digits
whole = refl

cut_off : findings_in (lines_of (codes "1 5 d endpoint \n ready ok whole\n")) ≡ entry record { actor = 0; line = 5 } ∷ strange ∷ []
unfolding lines_of finding_at turn_in place_in line_in actor_in number_of digits
cut_off = refl

no_end : findings_in (lines_of (codes "  x")) ≡ end ∷ []
unfolding lines_of
no_end = refl
