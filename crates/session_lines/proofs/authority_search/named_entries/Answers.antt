use Rattle.std.proofs.Common.{sym, ◌∙◌}
use Rattle.session_lines.proofs.SearchLemmas.{named_is, some_entry}
use Rattle.session_lines.proofs.authority_search.named_entries.Goals as goal

pub split_at-requires : goal.split_at-requires
split_at-requires c = some_entry c.args.entries.now c.requires.lawful

pub returns-clause-named : goal.returns-clause-named
returns-clause-named c = c.split_at.ensures.back ∙ sym (named_is c.args.entries.now c.requires.lawful)
