use Rattle.std.proofs.Common.{ap, ◌∙◌, ◌&&◌, not}
use Rattle.book_fates.proofs.NameLemmas.{lacks_is}
use Rattle.book_fates.proofs.part_names.lacks.Goals as goal

pub returns : goal.returns
returns c = λ told are. c.is_lacking.ensures ∙ ap (λ b. c.args.names.now.all_named && not b) c.contains-is_there.ensures ∙ lacks_is c.args.names.now c.args.key.now told are
