use Rattle.std.proofs.Common.{◌==◌}
use Rattle.line_output.proofs.FirstPlaces.{first_place}
use Rattle.line_output.proofs.byte_search.find_byte.Goals as goal

pub returns-clause-place : goal.returns-clause-place
returns-clause-place c = first_place (λ b. b == c.args.byte) c.args.bytes.now c.memchr.result c.memchr.ensures
