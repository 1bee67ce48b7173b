use Rattle.std.proofs.Common.{Some, sym, subst}
use Rattle.book_trees.specs.xds_history.Pages.{pages}
use Rattle.book_trees.specs.TreesKept.{IsPageOf}
use Rattle.std.specs.Prelude.{IfSome}
use Rattle.dep_manager.specs.ShownEntries.{StandAsShown}
use Rattle.book_driver.specs.ShownTrees.{AreSeen}
use Rattle.book_driver.proofs.EntryLemmas.{entries_stay}
use Rattle.book_driver.proofs.PublishedLemmas.{news_are}
use Rattle.book_driver.proofs.configured_trees.ConfiguredTrees.follow.Goals as goal

pub returns-in_ok-seen-in-Some-clause-seen : goal.returns-in_ok-seen-in-Some-clause-seen
returns-in_ok-seen-in-Some-clause-seen c s past with =
    subst (λ o. AreSeen s c.args.event.now past o (Some c.in_ok-seen-in-Some.seen)) (sym (news_are c.args.made c.args.self.now.config c.in-Some.config c.in-Some.ensures))
    (c.in_ok-seen-in-Some.ensures.seen s past with c.in-Some.ensures.1)

pub returns-in_ok-seen-in-Some-clause-kept : goal.returns-in_ok-seen-in-Some-clause-kept
returns-in_ok-seen-in-Some-clause-kept c s past line reply page with of =
    c.in_ok-seen-in-Some.ensures.kept s past line reply page with
    (subst (λ o. IsPageOf c.args.event.now past (pages s past) o page) (news_are c.args.made c.args.self.now.config c.in-Some.config c.in-Some.ensures) of)

pub returns-in_ok-seen-in-None-clause-kept : goal.returns-in_ok-seen-in-None-clause-kept
returns-in_ok-seen-in-None-clause-kept c s past line reply page with of =
    c.in_ok-seen-in-None.ensures.kept s past line reply page with (subst (λ o. IsPageOf c.args.event.now past (pages s past) o page) c.in-None.ensures of)

pub turn-requires-clause-shown : goal.turn-requires-clause-shown
turn-requires-clause-shown c = subst (λ o. IfSome o (λ config. StandAsShown c.args.others.now c.args.self.now.config config)) c.in-Some.ensures.0 c.requires.others

pub turn-requires-clause-others : goal.turn-requires-clause-others
turn-requires-clause-others c =
    entries_stay c.args.others.now c.args.self.now.config c.in-Some.config c.args.self.now.trees.trees.clusters c.requires.entries
    (subst (λ o. IfSome o (λ config. StandAsShown c.args.others.now c.args.self.now.config config)) c.in-Some.ensures.0 c.requires.others)
