use Rattle.std.proofs.Common.{◌≡◌, ◌∙◌}
use Rattle.key_table.proofs.RowLemmas.{rows_rise}
use Rattle.key_table.proofs.key_table.KeyTable.of.Goals as goal

pub invariant_of-result : goal.invariant_of-result
invariant_of-result g c =
    let (run, from, whole, gives) = c.in_ok-rows.ensures.runs tt in
    let shown = c.into_iter.ensures.into_iter_gives in
    let same : c.from_vec.result ≡ c.args.map.entries = c.from_vec.ensures ∙ gives.0 ∙ (shown.2 run run.seen).4 whole ∙ from ∙ shown.0 in
    rows_rise c.from_vec.result c.args.map.entries same shown.5
