-- What is reached where what was made last is brought up to date in place.
use Rattle.std.proofs.Common.{◌≡◌, true, List, [], Option, Some, None, Bool, refl, sym, ap, ◌∙◌, subst}
use Rattle.std.specs.Prelude.{IfSome, IsSomeAnd}
use Rattle.std.specs.Option.{option_or}
use Rattle.std.specs.List.Sorted.{IsStrictlySortedBy}
use Rattle.xc_base.specs.declared.names.Key.{Key}
use Rattle.xc_base.specs.declared.names.Time.{Time}
use Rattle.xc_keys.specs.Keys.{key_cmp}
use Rattle.xds_bootstrap.specs.declared.bootstrap.AuthorityEntry.{AuthorityEntry}
use Rattle.xds_cache.specs.KeptFates.{Watched as Rows}
use Rattle.call_journal.specs.declared.entry.Entry.{Entry}
use Rattle.cluster_refs.specs.CallReferences.{AreRetained}
use Rattle.config_assembly.specs.Orders.{Name}
use Rattle.config_assembly.specs.ReachedResources.{resources}
use Rattle.config_assembly.specs.Watching.{IsWatching}
use Rattle.dep_manager.specs.KeptAssemblies.{AreChanges, HaveChanged, IsRightBy, Managed}
use Rattle.dep_manager.specs.ServedCalls.{IsServing, Serves}
use Rattle.dep_manager.specs.ShownEntries.{StandAsShown}
use Rattle.dep_manager.specs.UpdateOutcomes.{IsOutcomeBy}
use Rattle.dep_manager.specs.declared.deps.Outcome.{Outcome}
use Rattle.book_trees.specs.xds_history.Setting.{Setting}
use Rattle.book_trees.specs.xds_history.Responses.{Came}
use Rattle.book_trees.specs.xds_history.declared.page.Page.{Page}
use Rattle.book_trees.specs.xds_history.Pages.{pages}
use Rattle.book_trees.specs.xds_history.References.{references, references_seen}
use Rattle.book_driver.specs.declared.call_refs.CallRefs.{CallRefs}
use Rattle.book_driver.specs.declared.watcher.Watcher.{Watcher}
use Rattle.book_driver.specs.Assembled.{IsAssembledBy}
use Rattle.book_driver.specs.ReferredClusters.{AreReferredAt}
use Rattle.book_driver.specs.WatcherKept.{IsHeardBy, IsTimely}
use Rattle.book_driver.proofs.ServedLemmas.{own_names, serves_own_names}
use Rattle.book_driver.proofs.WatcherLemmas.{assembly_by, none_wanted, reached_by}

-- calls are known to be served
abbrev pub AreKnownServed : CallRefs → Managed → Type 0
AreKnownServed calls d = (entries : List AuthorityEntry) (known : Rows) (ps : List Page) → IsRightBy entries known d → AreReferredAt ps d.shown calls → IfSome d.last (Serves (references_seen ps)) → IfSome d.last (Serves (references ps))

-- what an update in place answers
pub record IsFollowed (old : Watcher) (changed : List Key) (deps : Managed) (o : Outcome) : Type 0 where
  pub outcome : (entries : List AuthorityEntry) (known : Rows) (names : List Name) → IsRightBy entries known old.deps → AreChanges known old.fates.cache changed → IfSome old.deps.last (Serves names) → IsOutcomeBy (resources old.deps.target entries old.fates.cache) names o
  pub serves : (entries : List AuthorityEntry) (known : Rows) (names : List Name) → IsRightBy entries known old.deps → AreChanges known old.fates.cache changed → IfSome old.deps.last (Serves names) → IsServing deps names
  pub watched : (entries : List AuthorityEntry) (known : Rows) → IsRightBy entries known old.deps → AreChanges known old.fates.cache changed → IsWatching old.fates.cache old.fates.cache o.reached
  pub kept : (entries : List AuthorityEntry) (known : Rows) → IsRightBy entries known old.deps → AreChanges known old.fates.cache changed → IsRightBy entries old.fates.cache deps
  pub held : (deps.target ≡ old.deps.target) × (deps.reached ≡ o.reached)
  pub stays : (o.stays ≡ true) × (o.reached ≡ old.deps.reached)
  pub rising : IsStrictlySortedBy key_cmp o.reached
  pub others : IfSome o.config (λ config. StandAsShown o.others old.deps.shown config)
  pub shown : deps.shown ≡ option_or o.config old.deps.shown

module _ (old : Watcher) (changed : List Key) (deps : Managed) where
  pub followed : (found : Option Outcome) →
      IfSome found (λ o. (entries : List AuthorityEntry) (known : Rows) (names : List Name) → IsRightBy entries known old.deps → AreChanges known old.fates.cache changed → IfSome old.deps.last (Serves names) → IsOutcomeBy (resources old.deps.target entries old.fates.cache) names o) →
      IfSome found (λ o. (entries : List AuthorityEntry) (known : Rows) (names : List Name) → IsRightBy entries known old.deps → AreChanges known old.fates.cache changed → IfSome old.deps.last (Serves names) → IsServing deps names) →
      IfSome found (λ o. (entries : List AuthorityEntry) (known : Rows) → IsRightBy entries known old.deps → AreChanges known old.fates.cache changed → IsWatching old.fates.cache old.fates.cache o.reached) →
      IfSome found (λ o. (entries : List AuthorityEntry) (known : Rows) → IsRightBy entries known old.deps → AreChanges known old.fates.cache changed → IsRightBy entries old.fates.cache deps) →
      IfSome found (λ o. (deps.target ≡ old.deps.target) × (deps.reached ≡ o.reached)) → IfSome found (λ o. (o.stays ≡ true) × (o.reached ≡ old.deps.reached)) → IfSome found (λ o. IsStrictlySortedBy key_cmp o.reached) →
      IfSome found (λ o. IfSome o.config (λ config. StandAsShown o.others old.deps.shown config)) → IfSome found (λ o. deps.shown ≡ option_or o.config old.deps.shown) → IfSome found (IsFollowed old changed deps)
  followed None outcome serves watched kept held stays rising others shown = tt
  followed (Some o) outcome serves watched kept held stays rising others shown =
      record { outcome = outcome; serves = serves; watched = watched; kept = kept; held = held; stays = stays; rising = rising; others = others; shown = shown }

-- with what it leaves
abbrev pub watcher_with : Watcher → Managed → Watcher
watcher_with w deps = record { alloc = w.alloc; boot = w.boot; deps = deps; streams = w.streams; fates = w.fates }

module _ (calls : CallRefs) (old : Watcher) (changed : List Key) (deps : Managed) (same : old.deps.reached ≡ old.fates.reached) (has : HaveChanged old.boot.authorities old.deps old.fates.cache changed) (served : AreKnownServed calls old.deps) where
  in_place : (o : Outcome) → IsFollowed old changed deps o → IsAssembledBy calls old (watcher_with old deps) o
  in_place o is =
      let (known, right, changes) = has in
      let entries : List AuthorityEntry = old.boot.authorities in
      let now_served : (ps : List Page) → AreReferredAt ps old.deps.shown calls → IfSome old.deps.last (Serves (references_seen ps)) → IfSome old.deps.last (Serves (references ps)) = λ ps. served entries known ps right in
      let own : IsOutcomeBy (resources old.deps.target entries old.fates.cache) (own_names old.deps.last) o = is.outcome entries known (own_names old.deps.last) right changes (serves_own_names old.deps.last) in
      record {
        reached = λ s past c now by. reached_by s past c now o.reached old (watcher_with old deps) by refl refl refl refl refl is.held.0 is.held.1 is.rising (is.watched entries known right changes) (is.kept entries known right changes);
        assembly = λ s past c now by timely.
            let whole = is.outcome entries known (references (pages s past)) right changes (now_served (pages s past) timely.referred by.serves) in
            assembly_by s past c now (references (pages s past)) old o.reached o.missing o.config by timely.now_is refl
            (record { reached_are = whole.reached_are; missing_is = whole.missing_is; config_is = whole.config_is }) whole.whole;
        serves = λ s past c now by timely. is.serves entries known (references (pages s past)) right changes (now_served (pages s past) timely.referred by.serves);
        known = λ none. none_wanted old.fates.cache old.fates.cache o.reached o.missing own.missing_is (is.watched entries known right changes) none;
        stays = λ says. is.stays.1 ∙ same;
        whole = own.whole;
        lawful = own.lawful;
        others = is.others;
        shown = is.shown;
      }

  pub found_in_place : (found : Option Outcome) → IfSome found (IsFollowed old changed deps) → IfSome found (IsAssembledBy calls old (watcher_with old deps))
  found_in_place None is = tt
  found_in_place (Some o) is = in_place o is

-- ---- where it isn't

-- what an update comes to, with the clusters that calls refer to
pub record IsUpdated (old : Watcher) (names : List Name) (deps : Managed) (cache : Rows) (o : Outcome) : Type 0 where
  pub outcome : IsOutcomeBy (resources old.deps.target old.boot.authorities old.fates.cache) names o
  pub serves : IsServing deps names
  pub watched : IsWatching old.fates.cache cache o.reached
  pub kept : IsRightBy old.boot.authorities cache deps
  pub held : (deps.target ≡ old.deps.target) × (deps.reached ≡ o.reached)
  pub stays : o.stays ≡ true → o.reached ≡ old.deps.reached
  pub rising : IsStrictlySortedBy key_cmp o.reached
  pub others : IfSome o.config (λ config. StandAsShown o.others old.deps.shown config)
  pub shown : deps.shown ≡ option_or o.config old.deps.shown

abbrev pub watcher_by : Watcher → Managed → Rows → Watcher
watcher_by w deps cache =
    record { alloc = w.alloc; boot = w.boot; deps = deps; streams = w.streams; fates = record { alloc = w.fates.alloc; cache = cache; timers = w.fates.timers; reached = w.fates.reached; untimed = w.fates.untimed } }

pub updated : (calls : CallRefs) (old : Watcher) (names : List Name) (deps : Managed) (cache : Rows) (o : Outcome) → old.deps.reached ≡ old.fates.reached → AreRetained calls.refs.now names → IsUpdated old names deps cache o → IsAssembledBy calls old (watcher_by old deps cache) o
updated calls old names deps cache o same retained is = record {
  reached = λ s past c now by. reached_by s past c now o.reached old (watcher_by old deps cache) by refl refl refl refl refl is.held.0 is.held.1 is.rising is.watched is.kept;
  assembly = λ s past c now by timely.
      assembly_by s past c now names old o.reached o.missing o.config by timely.now_is (timely.referred.called.names_are names retained)
      (record { reached_are = is.outcome.reached_are; missing_is = is.outcome.missing_is; config_is = is.outcome.config_is }) is.outcome.whole;
  serves = λ s past c now by timely. subst (IsServing deps) (timely.referred.called.names_are names retained) is.serves;
  known = λ none. none_wanted old.fates.cache cache o.reached o.missing is.outcome.missing_is is.watched none;
  stays = λ says. is.stays says ∙ same;
  whole = is.outcome.whole;
  lawful = is.outcome.lawful;
  others = is.others;
  shown = is.shown;
}
