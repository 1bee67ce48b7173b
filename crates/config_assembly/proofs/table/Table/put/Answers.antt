use Rattle.std.proofs.Common.{◌≡◌, rules, sym, subst}
use Rattle.xds_config.specs.declared.value.Value.{Value}
use Rattle.xds_cache.specs.KeptFates.{shown}
use Rattle.xds_cache.specs.declared.fate.Known.{Known}
use Rattle.config_assembly.specs.Tables.{AreLawfulRows}
use Rattle.config_assembly.proofs.TableLemmas.{lawful_more, lawful_cluster, row_put}
use Rattle.config_assembly.proofs.table.Table.put.Goals as goal

pub returns-clause-lawful : goal.returns-clause-lawful
returns-clause-lawful c =
    let known : shown c.args.fate ≡ Known.Value (Value.Cluster c.in_ok-share.field-0) = search rules in
    λ lawful. lawful_more c.self.inside.rows.entries c.insert-2.new.self.entries c.in_ok-clone.field-0 c.in_ok-share.field-0 (subst AreLawfulRows (sym c.self.view_is) lawful) (lawful_cluster (shown c.args.fate) c.in_ok-share.field-0 known c.requires) c.in_ok-before.ensures.updates.0

pub returns-clause-row : goal.returns-clause-row
returns-clause-row c =
    let known : shown c.args.fate ≡ Known.Value (Value.Cluster c.in_ok-share.field-0) = search rules in
    let copy : c.in_ok-clone.field-0 ≡ c.args.name.now = search rules in
    row_put c.self.inside.rows.entries c.args.self.now c.insert-2.new.self.entries c.in_ok-clone.field-0 c.args.name.now (shown c.args.fate) c.in_ok-share.field-0 known copy c.self.view_is c.in_ok-before.ensures.updates.0
