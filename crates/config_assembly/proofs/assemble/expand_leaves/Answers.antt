use Rattle.std.proofs.Common.{sym, subst, ap, ◌∙◌, ◌<◌, map}
use Rattle.std.specs.Prelude.{◌^◌}
use Rattle.xds_config.specs.Configs.{AreLawfulLeaves}
use Rattle.config_assembly.specs.WholeConfigs.{leaf_of}
use Rattle.config_assembly.specs.Tables.{row_at}
use Rattle.config_assembly.specs.DepsViews.{seen}
use Rattle.config_assembly.proofs.LawfulLemmas.{are_lawful, leaves_some, rows_have_children}
use Rattle.config_assembly.proofs.assemble.expand_leaves.Goals as goal

pub returns-in_ok-new-in-Ok-clause-lawful : goal.returns-in_ok-new-in-Ok-clause-lawful
returns-in_ok-new-in-Ok-clause-lawful g c =
    subst AreLawfulLeaves (sym c.in_ok-new-in-Ok.ensures.ok)
    (are_lawful (seen c.args.sight) c.args.aggregate c.in-Ok.names c.in_ok-leaves-in-Ok.leaves
    (c.in_ok-leaves-in-Ok.ensures.leaves ∙ ap (map (leaf_of (seen c.args.sight))) c.as_slice.ensures)
    (leaves_some (row_at c.args.table.now) c.args.name.now c.in-Ok.names (rows_have_children c.args.table.now c.requires.rows) c.in-Ok.ensures.ok)
    c.in-Ok.ensures.led.once
    c.in_ok-leaves-in-Ok.ensures.lawful
    (subst (λ n. n < 2 ^ 31) c.len.ensures c.if-len-lt-TOO_MANY.true))
