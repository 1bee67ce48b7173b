-- The texts that were refused as patterns.
use Rattle.std.specs.Prelude.{ℕ, List, [], ◌∷◌, ◌++◌, Result, Ok, Err}
use Rattle.header_match.specs.declared.patterns.PatternFault.{PatternFault}
use Rattle.header_match.specs.declared.patterns.PatternFault.TheVariants.{Refused, Memory}

-- those after a fault at one more text: the text is added at the end where it is refused
abbrev pub after_fault : List (List ℕ) → List ℕ → PatternFault → List (List ℕ)
after_fault before text Refused = before ++ text ∷ []
after_fault before text Memory = before

-- those after an answer for one more text
abbrev pub refused_after : {T : Type 0} → List (List ℕ) → List ℕ → Result T PatternFault → List (List ℕ)
refused_after before text (Ok _) = before
refused_after before text (Err fault) = after_fault before text fault
