use Rattle.std.proofs.Common.{true, ◌∙◌, sym, ap}
use Rattle.std.specs.Prelude.{Some}
use Rattle.xds_config.specs.declared.config.Config.{Config}
use Rattle.book_trees.specs.xds_history.Pages.{pages}
use Rattle.book_trees.specs.xds_history.Page.{config_now}
use Rattle.book_trees.specs.TreesKept.{cluster_names}
use Rattle.book_trees.proofs.MarkedLemmas.{marks_tell_change}
use Rattle.book_driver.proofs.EntryLemmas.{named_alike}
use Rattle.book_driver.proofs.PublishedLemmas.{new_mark}
use Rattle.book_driver.proofs.configured_trees.ConfiguredTrees.turn.Goals as goal

pub returns-clause-seen : goal.returns-clause-seen
returns-clause-seen c s past with other = record {
  views_are = c.in_ok-seen.ensures.views past (pages s past) with.trees_are;
  pickable = c.in_ok-seen.ensures.pickable;
  differs_is =
      let marked = c.in_ok-seen.ensures.changed past (pages s past) with.trees_are in
      marks_tell_change past (pages s past) c.args.config c.in_ok-seen.field-0.seen.views c.in_ok-seen.field-0.seen.changed true c.requires.lawful marked
      (new_mark (config_now (pages s past)) c.args.config (λ e. other (with.config_is ∙ e)));
  marks_are = c.in_ok-seen.ensures.still past (pages s past) with.trees_are;
  names_stay = λ same. ap cluster_names (sym with.config_is) ∙ c.is_renamed-is_renamed.ensures same ∙ ap (λ (x : Config). cluster_names (Some x)) c.get.ensures;
}

pub returns-clause-kept : goal.returns-clause-kept
returns-clause-kept c s past line reply page with of = c.in_ok-seen.ensures.kept past (pages s past) 0 line reply page with.trees_are of

pub follow-requires-clause-names : goal.follow-requires-clause-names
follow-requires-clause-names c same =
    named_alike c.args.self.now.config c.args.config c.args.self.now.trees.trees.clusters c.requires.entries
    (c.is_renamed-is_renamed.ensures same ∙ ap (λ (x : Config). cluster_names (Some x)) c.get.ensures)
