use Rattle.session_lines.proofs.WordLemmas.{word_cut, word_last}
use Rattle.session_lines.proofs.words.first_of.Goals as goal

pub returns-in-Some : goal.returns-in-Some
returns-in-Some c = word_cut c.args.line.now _ _ c.in-Some.ensures

pub returns-in-None : goal.returns-in-None
returns-in-None c = word_last c.args.line.now c.in-None.ensures
