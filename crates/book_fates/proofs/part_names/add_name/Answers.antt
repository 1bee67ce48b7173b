use Rattle.book_fates.specs.NamedParts.{has_name}
use Rattle.book_fates.proofs.NameLemmas.{gained}
use Rattle.book_fates.proofs.part_names.add_name.Goals as goal

pub returns : goal.returns
returns c = λ other. gained c.args.name other (has_name c.args.names.now other) (has_name c.insert.new.self other) (c.in_ok-insert.ensures.updates.0 other)
