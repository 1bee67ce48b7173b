-- The patterns that stand behind an entry's first line are texts, so they are read back from their lines.
use Rattle.std.proofs.Common.{◌≡◌, ℕ, List, ◌∷◌, All, Some, ap, ◌∙◌}
use Rattle.std.specs.Str.{IsUtf8}
use Rattle.turn_law.specs.xds_history.Setting.{Setting, setting_of}
use Rattle.turn_law.specs.xds_history.Responses.{refused_in}
use Rattle.turn_law.specs.xds_history.Right.{Right}
use Rattle.turn_law.proofs.xds_history.KeepProofs.{right_past}
use Rattle.listed_patterns.specs.ListedPatterns.{listed_from, listed_in}
use Rattle.listed_patterns.proofs.ListedProofs.{listed_of_lines}
use Rattle.turn_law.proofs.text_law.RefusedLemmas.{refused_are_texts}
use Rattle.turn_law.specs.LinesBehind.{ListsPatterns, lines_behind}
use Rattle.turn_law.proofs.ListedLemmas.{patterns_listed}
use Rattle.listed_law.specs.ListedLaw.{ListedOfLegal}

-- lines that begin with those of texts, before a line of another form, list these texts
lines_list : (patterns : List (List ℕ)) (lines : List (List ℕ)) → All IsUtf8 patterns → ListsPatterns patterns lines → listed_from lines ≡ Some patterns
unfolding listed_in
lines_list patterns lines texts lists = ap listed_from lists.begins ∙ listed_of_lines patterns lists.rest texts lists.ends

pub listed_of_legal : ListedOfLegal
listed_of_legal session later past e legal =
    let s : Setting = setting_of session.boot session.target in
    let right : Right s (e ∷ past) = right_past s later (e ∷ past) legal.right in
    lines_list (refused_in e.what) (lines_behind s session.boot.authorities later (e ∷ past))
    (refused_are_texts session.boot session.target e past right) (patterns_listed s session.boot.authorities later e past)
