use Rattle.std.proofs.Common.{◌∙◌, sym, ap, subst}
use Rattle.std.specs.Option.{option_or}
use Rattle.std.specs.Prelude.{IfSome}
use Rattle.dep_manager.specs.ShownEntries.{StandAsShown}
use Rattle.book_trees.specs.xds_history.Page.{config_now}
use Rattle.book_trees.specs.xds_history.Pages.{pages}
use Rattle.book_trees.specs.TreesKept.{clusters_of}
use Rattle.book_trees.proofs.FollowLemmas.{entries_kept}
use Rattle.book_driver.specs.WatcherKept.{setting_by}
use Rattle.book_driver.proofs.SteppedLemmas.{came_with_trees, referred_at, stepped_at}
use Rattle.book_driver.proofs.channel_driver.Driver.step.Goals as goal

pub show-requires-clause-changes : goal.show-requires-clause-changes
show-requires-clause-changes g c =
    let s = setting_by c.args.self.now.subscriptions.watcher in
    let with = c.in_ok-came.ensures c.requires.at.past (pages s c.requires.at.past) c.requires.at.at.configured.trees_are in
    (with.last, with.forest.updated, with.differ)

pub show-requires-clause-entries : goal.show-requires-clause-entries
show-requires-clause-entries g c =
    let at = c.requires.at.at.configured in
    let with = c.in_ok-came.ensures c.requires.at.past (pages (setting_by c.args.self.now.subscriptions.watcher) c.requires.at.past) at.trees_are in
    entries_kept with.last (pages (setting_by c.args.self.now.subscriptions.watcher) c.requires.at.past) (config_now (pages (setting_by c.args.self.now.subscriptions.watcher) c.requires.at.past)) c.came.new.self.trees with.forest.clusters_are ∙ ap clusters_of (sym at.config_is)

pub show-requires-clause-others : goal.show-requires-clause-others
show-requires-clause-others g c =
    subst (λ shown. IfSome c.in_ok-renewal.renewal.made (λ config. StandAsShown c.in_ok-renewal.renewal.others shown config)) c.requires.at.at.shown_is c.in_ok-renewal.ensures.others

pub returns-clause-step : goal.returns-clause-step
returns-clause-step g c s past due =
    let trees = c.in_ok-came.ensures past (pages s past) due.at.configured.trees_are in
    let with = came_with_trees s c.args.event.now past c.came.new.self c.args.self.now.trees.config trees due.at.configured.config_is in
    stepped_at s past c.args.event.now c.args.prepared c.in_ok-renewal.renewal c.answer.new.self c.in_ok-published.published c.show.new.self c.args.self.now.trees.config due.at.configured.config_is (c.in_ok-renewal.ensures.shown ∙ ap (option_or c.in_ok-renewal.renewal.made) due.at.shown_is)
    (c.in_ok-renewal.ensures.step s past due.at.subscribed (record { now_is = trees.now_is; referred = referred_at s past c.args.self.now c.args.calls c.args.latest due }))
    (c.in_ok-published.ensures.published s past with due.shows due.latest_is)
    c.in_ok-published.ensures.config c.in_ok-published.ensures.lawful
    (λ line page of. c.in_ok-published.ensures.kept s past line _ page with of)

pub returns-clause-still : goal.returns-clause-still
returns-clause-still g c s past due repeat = c.in_ok-renewal.ensures.still s past due.at.subscribed (referred_at s past c.args.self.now c.args.calls c.args.latest due) repeat

pub returns-in_err-renewal-clause-still : goal.returns-in_err-renewal-clause-still
returns-in_err-renewal-clause-still g c s past due repeat = c.answer.ensures.still s past due.at.subscribed (referred_at s past c.args.self.now c.args.calls c.args.latest due) repeat

pub returns-in_err-published-clause-still : goal.returns-in_err-published-clause-still
returns-in_err-published-clause-still g c s past due repeat = c.answer.ensures.still s past due.at.subscribed (referred_at s past c.args.self.now c.args.calls c.args.latest due) repeat
