use Rattle.std.proofs.Common.{◌≡◌, ◌≤◌, length, subst, rules}
use Rattle.std.specs.Prelude.{IfOk}
use Rattle.dep_manager.proofs.ToldLemmas.{entries_stand}
use Rattle.dep_manager.proofs.block_renewal.renewed_block.Goals as goal

pub returns-then-len-sources-clause-block : goal.returns-then-len-sources-clause-block
returns-then-len-sources-clause-block c =
    let few : length c.args.block.now ≤ length c.args.sources.now = search rules in
    subst (λ seen. IfOk c.share.result (λ block. block ≡ seen)) (entries_stand c.args.news.now c.args.block.now c.args.sources.now few (c.requires.untouched c.if-not-is_touched.true)) c.share.ensures
