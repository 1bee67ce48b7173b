use Rattle.std.proofs.Common.{◌∙◌, ap, rules}
use Rattle.std.specs.Prelude.{option_and_then}
use Rattle.std.proofs.lemmas.Fn.{always_returns_same}
use Rattle.xc_keys.specs.Keys.{key_cmp}
use Rattle.key_table.specs.Rows.{value_at}
use Rattle.key_table.proofs.RowLemmas.{searched}
use Rattle.key_table.proofs.key_table.search.Goals as goal

pub returns : goal.returns
returns g c =
    let facts = c.binary_search_by.ensures in
    let by_key = facts.position (λ row. key_cmp row.0 c.args.key.now) (always_returns_same _ _ _ (λ a r f k. search rules)) in
    ap (option_and_then (value_at c.args.rows.now)) c.ok.ensures.value ∙ searched c.args.rows.now c.requires c.args.key.now c.binary_search_by.result facts.bound by_key
