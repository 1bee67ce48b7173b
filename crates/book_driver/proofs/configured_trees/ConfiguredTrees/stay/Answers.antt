use Rattle.std.proofs.Common.{◌∙◌, ap, not, subst}
use Rattle.book_trees.specs.xds_history.Pages.{pages}
use Rattle.book_trees.specs.TreesKept.{IsPageOf}
use Rattle.book_driver.proofs.PublishedLemmas.{seen_where, some_of}
use Rattle.book_driver.proofs.configured_trees.ConfiguredTrees.stay.Goals as goal

pub returns-clause-seen : goal.returns-clause-seen
returns-clause-seen c s past with =
    seen_where s c.args.event.now past c.args.self.now.config c.in_ok-seen.seen (c.is_none.ensures ∙ ap not c.if-is_none.false)
    (λ config same. c.in_ok-seen.ensures.seen s past config with same)

pub returns-clause-kept : goal.returns-clause-kept
returns-clause-kept c s past line reply page with of =
    let (config, same) = some_of c.args.self.now.config (c.is_none.ensures ∙ ap not c.if-is_none.false) in
    c.in_ok-seen.ensures.kept s past config line reply page with same (subst (λ o. IsPageOf c.args.event.now past (pages s past) o page) same of)
