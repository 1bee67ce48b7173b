use Rattle.std.proofs.Common.{◌∙◌, ap, sym}
use Rattle.std.specs.Ordering.{is_eq}
use Rattle.key_table.proofs.RowLemmas.{tried}
use Rattle.key_table.proofs.key_table.is_at.Goals as goal

pub returns-in-Some : goal.returns-in-Some
returns-in-Some g c = tried c.args.rows.now c.args.key.now c.args.place c.in-Some.row.now c.is_eq.result c.requires (sym c.in-Some.ensures) (c.is_eq.ensures ∙ ap is_eq c.compared.ensures)
