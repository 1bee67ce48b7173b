use Rattle.std.proofs.Common.{◌≡◌, false, ◌∙◌, sym, ap, subst}
use Rattle.std.specs.Prelude.{Some}
use Rattle.cluster_tree.specs.ViewChanges.{IsChangeMark}
use Rattle.book_trees.specs.xds_history.Pages.{pages}
use Rattle.book_trees.specs.xds_history.Page.{config_now}
use Rattle.book_trees.specs.ReportedLaws.{stands_now}
use Rattle.book_trees.specs.TreesKept.{cluster_names}
use Rattle.book_trees.proofs.FollowLemmas.{lawful_now}
use Rattle.book_trees.proofs.MarkedLemmas.{marks_tell_change}
use Rattle.book_driver.proofs.PublishedLemmas.{old_mark}
use Rattle.book_driver.proofs.configured_trees.ConfiguredTrees.stand.Goals as goal

pub returns-clause-seen : goal.returns-clause-seen
returns-clause-seen c s past config with same =
    let stands : config_now (pages s past) ≡ Some config = sym with.config_is ∙ same in
    let marked = c.in_ok-seen.ensures.changed past (pages s past) config with.trees_are stands in
    let lawful = lawful_now c.args.event.now past (pages s past) c.args.self.now.trees config with.trees_are stands in
    record {
      views_are = c.in_ok-seen.ensures.views past (pages s past) config with.trees_are stands;
      pickable = c.in_ok-seen.ensures.pickable;
      differs_is =
          subst (λ b. IsChangeMark b (stands_now past (pages s past)) (config, c.in_ok-seen.seen.views)) (sym c.differs.ensures)
          (marks_tell_change past (pages s past) config c.in_ok-seen.seen.views c.in_ok-seen.seen.changed false lawful marked (old_mark (config_now (pages s past)) config stands));
      marks_are = c.in_ok-seen.ensures.still past (pages s past) config with.trees_are stands;
      names_stay = λ never. ap cluster_names stands;
    }

pub returns-clause-kept : goal.returns-clause-kept
returns-clause-kept c s past config line reply page with same of = c.in_ok-seen.ensures.kept past (pages s past) config 0 line reply page with.trees_are (sym with.config_is ∙ same) of
