use Rattle.std.proofs.Common.{◌≡◌, ◌*◌, ◌∙◌, [], subst, rules}
use Rattle.std.specs.Prelude.{IfOk}
use Rattle.dep_manager.specs.RenewedConfigs.{renewed_entries}
use Rattle.dep_manager.proofs.ToldLemmas.{no_block}
use Rattle.dep_manager.proofs.block_renewal.block_at.Goals as goal

pub returns-in-Some-clause-block : goal.returns-in-Some-clause-block
returns-in-Some-clause-block c = subst (λ es. IfOk c.renewed_block.result (λ block. block ≡ renewed_entries c.args.news.now es c.args.sources.now)) c.in-Some.ensures.members c.renewed_block.ensures.block

pub returns-in_ok-new-in-None-clause-block : goal.returns-in_ok-new-in-None-clause-block
returns-in_ok-new-in-None-clause-block c =
    let made : c.in_ok-new-in-None.field-0 ≡ [] = search rules in
    made ∙ no_block c.args.news.now c.args.clusters.now (32 * c.args.number) c.args.sources.now (c.block.ensures.none c.in-None.is)
