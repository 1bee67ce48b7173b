use Rattle.std.proofs.Common.{arith}
use Rattle.std.proofs.lemmas.Bool.Decides.{nat_tests}
use Rattle.session_script.proofs.CountLemmas.{entries_reverse}
use Rattle.session_script.proofs.session_reading.read_session.Goals as goal

pub returns-clause-few : goal.returns-clause-few
returns-clause-few c =
    let few = c.if-entries.false in
    let made = c.entries.ensures in
    let same = entries_reverse c.in_ok-reader.reader in
    rw (c.from_vec.ensures, c.into_lines.ensures, same) (grind (arith, nat_tests))
