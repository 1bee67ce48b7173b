-- A driver's whole step by its parts.
use Rattle.std.proofs.Common.{◌≡◌, ℕ, List, ◌∷◌, Option, refl, sym, ap, ◌∙◌, subst, option_map}
use Rattle.std.specs.Prelude.{IfSome}
use Rattle.std.specs.Option.{option_or}
use Rattle.xds_config.specs.declared.config.Config.{Config}
use Rattle.xds_config.specs.Configs.{IsLawfulConfig}
use Rattle.book_trees.specs.resource_check.declared.delivery.Prepared.{Prepared}
use Rattle.call_journal.specs.declared.event.DriverEvent.{DriverEvent}
use Rattle.call_journal.specs.declared.entry.Entry.{Entry}
use Rattle.book_trees.specs.xds_history.Setting.{Setting}
use Rattle.book_trees.specs.xds_history.declared.page.Page.{Page}
use Rattle.book_trees.specs.xds_history.Page.{config_now}
use Rattle.book_trees.specs.xds_history.Pages.{driven, pages}
use Rattle.book_trees.specs.declared.reported_trees.ReportedTrees.{ReportedTrees}
use Rattle.book_trees.specs.TreesKept.{AreTreesAt, AreTreesWith, IsPageOf}
use Rattle.driver_step.specs.DriverSteps.{IsAnswer, IsNextDriven}
use Rattle.driver_step.proofs.AnswerSteps.{answers_are_next}
use Rattle.book_driver.specs.declared.channel_driver.Stepped.{Stepped}
use Rattle.book_driver.specs.declared.configured_trees.ConfiguredTrees.{ConfiguredTrees}
use Rattle.book_driver.specs.declared.configured_trees.Published.{Published}
use Rattle.book_driver.specs.declared.key_renewal.Renewal.{Renewal}
use Rattle.book_driver.specs.declared.subscriptions.Subscriptions.{Subscriptions}
use Rattle.book_driver.specs.WatcherKept.{assembly_with}
use Rattle.book_driver.specs.Subscribed.{IsAnsweredAt}
use Rattle.book_driver.specs.ShownTrees.{AreConfiguredAt, AreConfiguredWith, IsPublication, IsShownBy}
use Rattle.book_driver.specs.DriverKept.{CallersLeaveDriver, IsDueAt, IsStepAt, page_in, reply_in}
use Rattle.book_driver.specs.ReferredClusters.{AreReferredAt}
use Rattle.book_driver.specs.declared.call_refs.CallRefs.{CallRefs}
use Rattle.book_driver.specs.declared.channel_driver.Driver.{Driver}
use Rattle.book_driver.proofs.ServedLemmas.{all_shown}
use Rattle.book_driver.proofs.SubscribedLemmas.{callers_leave_subscribed}

-- what an answer and what is shown come to
abbrev pub stepped_of : Renewal → Option Published → Stepped
stepped_of r published = record { verdict = r.verdict; sent = r.sent; missing = r.missing; refused = r.refused; published = published }

answer_is : (s : Setting) (past : List Entry) (event : DriverEvent) (prepared : Option Prepared) (r : Renewal) (v : Subscriptions) (published : Option Published) (is : IsAnsweredAt s past event prepared r v) →
    IsShownBy s event past (option_or r.made (config_now (pages s past))) published → IsAnswer s past (pages s past) event (reply_in (stepped_of r published)) (assembly_with s past is.reached r.missing r.made)
answer_is s past event prepared r v published is shown = record {
  verdict_is = is.told.verdict_is;
  refused_is = is.told.refused_are;
  sent_is = is.sent_are;
  missing_is = refl;
  number_is = shown.number_is;
}

next_is : (s : Setting) (past : List Entry) (line : ℕ) (event : DriverEvent) (prepared : Option Prepared) (r : Renewal) (v : Subscriptions) (published : Option Published) (is : IsAnsweredAt s past event prepared r v) →
    IsShownBy s event past (option_or r.made (config_now (pages s past))) published → IsNextDriven s past (pages s past) line event (reply_in (stepped_of r published)) (assembly_with s past is.reached r.missing r.made)
next_is s past line event prepared r v published is shown =
    answers_are_next s past (pages s past) line event (reply_in (stepped_of r published)) (assembly_with s past is.reached r.missing r.made) is.assembly (answer_is s past event prepared r v published is shown)

-- the page has this configuration and the trees after it
page_is_of : (s : Setting) (past : List Entry) (line : ℕ) (event : DriverEvent) (prepared : Option Prepared) (r : Renewal) (v : Subscriptions) (published : Option Published) (is : IsAnsweredAt s past event prepared r v) →
    IsShownBy s event past (option_or r.made (config_now (pages s past))) published → IsPageOf event past (pages s past) (option_or r.made (config_now (pages s past))) (page_in s past line event (stepped_of r published))
page_is_of s past line event prepared r v published is shown =
    let next = next_is s past line event prepared r v published is shown in
    record { config_is = ap (λ p. p.config) next.page_is; trees_are = ap (λ p. p.trees) next.page_is }

configured_after : (s : Setting) (past : List Entry) (line : ℕ) (event : DriverEvent) (prepared : Option Prepared) (r : Renewal) (v : Subscriptions) (published : Option Published) (t : ConfiguredTrees) (is : IsAnsweredAt s past event prepared r v) →
    IsShownBy s event past (option_or r.made (config_now (pages s past))) published → t.config ≡ option_or r.made (config_now (pages s past)) → IfSome t.config IsLawfulConfig →
    ((page : Page) → IsPageOf event past (pages s past) (option_or r.made (config_now (pages s past))) page → AreTreesAt (driven 0 line event (reply_in (stepped_of r published)) ∷ past) (page ∷ pages s past) t.trees) →
    AreConfiguredAt s (driven 0 line event (reply_in (stepped_of r published)) ∷ past) t
configured_after s past line event prepared r v published t is shown config lawful keeps =
    let of = page_is_of s past line event prepared r v published is shown in record {
      trees_are = keeps (page_in s past line event (stepped_of r published)) of;
      config_is = config ∙ sym of.config_is;
      lawful = lawful;
    }

-- once an event came, the configuration stands
pub came_with_trees : (s : Setting) (event : DriverEvent) (past : List Entry) (t : ReportedTrees) (config : Option Config) → AreTreesWith event past (pages s past) t → config ≡ config_now (pages s past) →
    AreConfiguredWith s event past (record { trees = t; config = config })
came_with_trees s event past t config trees same = record { trees_are = trees; config_is = same }

pub stepped_at : (s : Setting) (past : List Entry) (event : DriverEvent) (prepared : Option Prepared) (r : Renewal) (v : Subscriptions) (published : Option Published) (t : ConfiguredTrees) (before : Option Config) →
    before ≡ config_now (pages s past) → v.watcher.deps.shown ≡ option_or r.made before → IsAnsweredAt s past event prepared r v → IsShownBy s event past (option_or r.made before) published → t.config ≡ option_or r.made before → IfSome t.config IsLawfulConfig →
    ((line : ℕ) (page : Page) → IsPageOf event past (pages s past) (option_or r.made before) page → AreTreesAt (driven 0 line event (reply_in (stepped_of r published)) ∷ past) (page ∷ pages s past) t.trees) →
    IsStepAt s past event prepared (stepped_of r published) (record { subscriptions = v; trees = t })
stepped_at s past event prepared r v published t before same made_is is shown_before config_before lawful keeps_before =
    let shown : IsShownBy s event past (option_or r.made (config_now (pages s past))) published = subst (λ o. IsShownBy s event past (option_or r.made o) published) same shown_before in
    let config : t.config ≡ option_or r.made (config_now (pages s past)) = config_before ∙ ap (option_or r.made) same in
    let keeps : (line : ℕ) (page : Page) → IsPageOf event past (pages s past) (option_or r.made (config_now (pages s past))) page → AreTreesAt (driven 0 line event (reply_in (stepped_of r published)) ∷ past) (page ∷ pages s past) t.trees =
    λ line page of. keeps_before line page (subst (λ o. IsPageOf event past (pages s past) (option_or r.made o) page) (sym same) of) in
    record {
      reply_is = λ line. (next_is s past line event prepared r v published is shown).reply_is;
      texts_are = is.told.texts_are;
      snapshot_is = λ line. ap (λ p. p.snapshot) (next_is s past line event prepared r v published is shown).page_is ∙ shown.snapshot_is;
      published = subst (λ o. IfSome published (IsPublication s event past o)) (sym config) shown.published_is;
      kept = λ line.
          record {
            subscribed = is.kept line (option_map (λ p. p.number) published);
            configured = configured_after s past line event prepared r v published t is shown config lawful (keeps line);
            shown_is = made_is ∙ sym config_before;
          };
    }

-- what is told of calls, where the configuration that was handed out last is the one that stands
pub referred_at : (s : Setting) (past : List Entry) (d : Driver) (calls : CallRefs) (latest : Option ℕ) → IsDueAt s past calls latest d → AreReferredAt (pages s past) d.subscriptions.watcher.deps.shown calls
referred_at s past d calls latest due = record {
  called = due.called;
  shown_are = all_shown s past d.subscriptions.watcher.deps.shown (due.at.shown_is ∙ due.at.configured.config_is) due.shows due.latest_has;
}

-- ---- a caller's entry

pub callers_leave_driver : CallersLeaveDriver
callers_leave_driver s past actor line event reply d at = record {
  subscribed = callers_leave_subscribed s past actor line event reply d.subscriptions at.subscribed;
  configured = record {
    trees_are = record {
      reports_are = at.configured.trees_are.reports_are;
      now_is = at.configured.trees_are.now_is;
      forest = record {
        clusters_are = at.configured.trees_are.forest.clusters_are;
        updated = at.configured.trees_are.forest.updated;
        lawful = at.configured.trees_are.forest.lawful;
        grown = at.configured.trees_are.forest.grown;
      };
    };
    config_is = at.configured.config_is;
    lawful = at.configured.lawful;
  };
  shown_is = at.shown_is;
}
