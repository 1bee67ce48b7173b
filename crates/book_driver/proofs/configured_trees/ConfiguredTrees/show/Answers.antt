use Rattle.std.proofs.Common.{◌∙◌, sym, ap, subst}
use Rattle.std.specs.Prelude.{IfSome}
use Rattle.std.specs.Option.{option_or}
use Rattle.xds_config.specs.Configs.{IsLawfulConfig}
use Rattle.book_driver.specs.ShownTrees.{published_by}
use Rattle.book_driver.proofs.PublishedLemmas.{either_lawful, shown_by}
use Rattle.book_driver.proofs.configured_trees.ConfiguredTrees.show.Goals as goal

pub returns-clause-published : goal.returns-clause-published
returns-clause-published c s past with shows latest_is =
    let config = option_or c.args.made c.args.self.now.config in
    let are = c.in_ok-seen.ensures.seen s past with in
    let lawful = either_lawful c.args.made c.args.self.now.config c.requires.lawful c.requires.before in
    shown_by s c.args.event.now past c.due-number.result config c.in_ok-seen.seen c.in_ok-published.published are lawful
    (c.due-number.ensures.number s c.args.event.now past config are lawful shows latest_is)
    (c.in_ok-published.ensures ∙ ap (λ o. published_by c.due-number.result o c.in_ok-seen.seen) c.in_ok-seen.ensures.config)

pub returns-clause-lawful : goal.returns-clause-lawful
returns-clause-lawful c =
    subst (λ o. IfSome o IsLawfulConfig) (sym c.in_ok-seen.ensures.config) (either_lawful c.args.made c.args.self.now.config c.requires.lawful c.requires.before)
