use Rattle.std.proofs.Common.{◌∙◌, rules}
use Rattle.std.proofs.lemmas.Fn.{always_returns_same}
use Rattle.session_lines.proofs.SearchLemmas.{compared, searched}
use Rattle.session_lines.proofs.authority_search.place_among.Goals as goal

pub returns-clause-place : goal.returns-clause-place
returns-clause-place c =
    let facts = c.binary_search_by.ensures in
    let by_name = facts.position (compared c.args.name.now) (always_returns_same _ _ _ (λ a r f k. search rules)) in
    c.ok.ensures.value ∙ searched c.args.entries.now c.args.name.now c.requires.rising c.binary_search_by.result facts.bound by_name
