use Rattle.std.proofs.Common.{sym, subst, ap, ◌∙◌}
use Rattle.xds_config.specs.Configs.{IsLawfulConfig}
use Rattle.xds_config.specs.SearchedLists.{AreByName}
use Rattle.config_assembly.specs.DepsViews.{seen}
use Rattle.config_assembly.proofs.LawfulLemmas.{entries_by_name, is_lawful}
use Rattle.config_assembly.proofs.assemble.config.Goals as goal

pub from_blocks-clusters-requires : goal.from_blocks-clusters-requires
from_blocks-clusters-requires g c =
    subst AreByName (sym c.in_ok-in_blocks.ensures) (entries_by_name (seen c.args.sight) c.args.names.now c.in_ok-entries.entries c.requires.rising c.in_ok-entries.ensures.entries c.if-names-ge-TOO_MANY.false)

pub returns-clause-lawful : goal.returns-clause-lawful
returns-clause-lawful g c =
    let ordered = entries_by_name (seen c.args.sight) c.args.names.now c.in_ok-entries.entries c.requires.rising c.in_ok-entries.ensures.entries c.if-names-ge-TOO_MANY.false in
    subst IsLawfulConfig (sym (c.in_ok-new.ensures.ok ∙ ap (λ clusters. record { front = c.args.front; clusters = clusters }) (c.from_blocks-clusters.ensures ∙ c.in_ok-in_blocks.ensures)))
    (is_lawful c.args.front c.in_ok-entries.entries c.requires.front c.in_ok-entries.ensures.lawful ordered)
