-- What was made last serves calls.
use Rattle.std.proofs.Common.{◌≡◌, List, [], ◌++◌, map, Option, Some, None, Result, refl, sym, ap, ◌∙◌, subst, option_map}
use Rattle.std.specs.Prelude.{Contains, IfSome, IsSome, IsSomeAnd}
use Rattle.xc_base.specs.declared.names.Key.{Key}
use Rattle.xc_base.specs.declared.reason.Reason.{Reason}
use Rattle.xds_config.specs.declared.config.Config.{Config}
use Rattle.xds_config.specs.declared.config.Front.{Front}
use Rattle.cluster_tree.specs.declared.snapshot.Snapshot.{Snapshot}
use Rattle.call_journal.specs.declared.entry.Entry.{Entry}
use Rattle.config_assembly.specs.Orders.{Name, name_cmp, sorted}
use Rattle.config_assembly.specs.ReachedResources.{Resources, resources}
use Rattle.config_assembly.specs.Front.{front, names_of}
use Rattle.config_assembly.specs.Reach.{missing, reach}
use Rattle.config_assembly.specs.WholeConfigs.{cluster_entry, config_with, whole_config}
use Rattle.dep_manager.specs.CallsAlone.{KeepsRoots}
use Rattle.dep_manager.specs.KeptAssemblies.{IsKeptOf, IsRightBy, Managed}
use Rattle.dep_manager.specs.Laws.{IsSame}
use Rattle.dep_manager.specs.ServedCalls.{AreShown, IsServing, Serves}
use Rattle.dep_manager.specs.declared.kept_assembly.Kept.{Kept}
use Rattle.dep_manager.proofs.RootLemmas.{assembled_for}
use Rattle.dep_manager.proofs.ServedLemmas.{keeps_by_served}
use Rattle.book_trees.specs.xds_history.Setting.{Setting, setting_of}
use Rattle.book_trees.specs.xds_history.declared.page.Page.{Page}
use Rattle.book_trees.specs.xds_history.Page.{config_now, latest, trees_now, watched_now}
use Rattle.book_trees.specs.xds_history.Fates.{fate_in, watch}
use Rattle.book_trees.specs.xds_history.Pages.{config_after, pages}
use Rattle.book_trees.specs.xds_history.References.{references}
use Rattle.book_trees.specs.xds_history.Right.{Shown, shown, standing}
use Rattle.book_trees.specs.xds_history.Trees.{Present}
use Rattle.book_trees.specs.xds_history.declared.page.ClusterTrees.{ClusterTrees}
use Rattle.book_trees.specs.xds_history.HistoryLaws.{LatestHas}
use Rattle.book_trees.specs.ReportedLaws.{ShowsWhatStands}
use Rattle.book_trees.specs.TreesKept.{present}
use Rattle.driver_step.specs.book_fates.FateSteps.{Knows}
use Rattle.driver_step.specs.SettledKeys.{IsSettledAt, known_now}
use Rattle.driver_step.proofs.AnswerSteps.{made_same}
use Rattle.book_driver.specs.declared.watcher.Watcher.{Watcher}
use Rattle.book_driver.specs.ReferredClusters.{LatestHasAll}

-- ---- what was made last, if anything was

if_some : {X : Type 0} (o : Option X) (P : X → Type 0) → IsSomeAnd o P → IfSome o P
if_some None P is = absurd is
if_some (Some x) P is = is

some_of : {X : Type 0} (o : Option X) (P : X → Type 0) → IsSomeAnd o P → IsSome o
some_of None P is = absurd is
some_of (Some x) P is = refl

and_some : {X : Type 0} (o : Option X) (P : X → Type 0) → IsSome o → IfSome o P → IsSomeAnd o P
and_some None P some is = absurd (cc some)
and_some (Some x) P some is = is

pub if_serving : (d : Managed) (names : List Name) → IsServing d names → IfSome d.last (Serves names)
if_serving d names is = if_some d.last (Serves names) is

pub is_made : (d : Managed) (names : List Name) → IsServing d names → IsSome d.last
is_made d names is = some_of d.last (Serves names) is

pub serving_made : (d : Managed) (names : List Name) → IsSome d.last → IfSome d.last (Serves names) → IsServing d names
serving_made d names made is = and_some d.last (Serves names) made is

-- the clusters for which it was made
abbrev pub own_names : Option Kept → List Name
own_names None = []
own_names (Some kept) = kept.references

pub serves_own_names : (last : Option Kept) → IfSome last (Serves (own_names last))
serves_own_names None = tt
serves_own_names (Some kept) = refl

-- ---- what is settled for some calls is so for others that are served

whole_at : (r : Resources) (names others : List Name) (o : Option (Result Front Reason)) → front r ≡ o → KeepsRoots r others names → option_map (config_with r names) o ≡ option_map (config_with r others) o
whole_at r names others None is keeps = refl
whole_at r names others (Some found) is keeps =
    let with : List Name → Option Config = λ roots. Some record { front = found; clusters = map (cluster_entry r) roots } in
    ap with (subst (λ o. sorted name_cmp (names_of o ++ names) ≡ sorted name_cmp (names_of o ++ others)) is keeps)

whole_kept : (r : Resources) (names others : List Name) → KeepsRoots r others names → whole_config r names ≡ whole_config r others
whole_kept r names others keeps = whole_at r names others (front r) refl keeps

config_alike : (r : Resources) (names others : List Name) (least : Option Key) (before : Option Config) → whole_config r names ≡ whole_config r others → config_after r names least before ≡ config_after r others least before
config_alike r names others None before same = same
config_alike r names others (Some key) before same = refl

settled_alike : (s : Setting) (past : List Entry) (ps : List Page) (names others : List Name) (least : Option Key) → reach (known_now s ps) names ≡ reach (known_now s ps) others → whole_config (known_now s ps) names ≡ whole_config (known_now s ps) others →
    IsSettledAt s past ps others least → IsSettledAt s past ps names least
settled_alike s past ps names others least keys whole is = record {
  watches = ap (watch (watched_now ps)) keys ∙ is.watches;
  awaits = is.awaits ∙ ap (missing (fate_in (watched_now ps))) (sym keys);
  stays = config_alike (known_now s ps) names others least (config_now ps) whole ∙ is.stays;
  asked = is.asked;
}

module _ (w : Watcher) (past : List Entry) (ps : List Page) (knows : Knows w.fates.cache (watched_now ps)) (kept : Kept) (of : IsKeptOf w.boot.authorities w.fates.cache w.deps.target w.deps.reached kept) (names others : List Name) (serves : Serves names kept) (also : Serves others kept) where
  abbrev r : Resources
  r = resources w.deps.target w.boot.authorities w.fates.cache

  abbrev s : Setting
  s = setting_of w.boot w.deps.target

  keeps : KeepsRoots r others names
  keeps = keeps_by_served r w.deps.reached kept of.assembled names serves ∙ sym (keeps_by_served r w.deps.reached kept of.assembled others also)

  reach_same : reach r names ≡ reach r others
  reach_same =
      sym (assembled_for r w.deps.reached kept of.assembled names (keeps_by_served r w.deps.reached kept of.assembled names serves)).reached_are
      ∙ (assembled_for r w.deps.reached kept of.assembled others (keeps_by_served r w.deps.reached kept of.assembled others also)).reached_are

  same : (ns : List Name) → IsSame r (known_now s ps) ns
  same ns = made_same w.boot w.deps.target w.fates.cache (watched_now ps) ns knows

  settled_by : (least : Option Key) → IsSettledAt s past ps others least → IsSettledAt s past ps names least
  settled_by least is =
      settled_alike s past ps names others least ((same names).reached ∙ reach_same ∙ sym (same others).reached) ((same names).config ∙ whole_kept r names others keeps ∙ sym (same others).config) is

settled_with : (w : Watcher) (past : List Entry) (ps : List Page) (o : Option Kept) (names others : List Name) (least : Option Key) → Knows w.fates.cache (watched_now ps) → IfSome o (IsKeptOf w.boot.authorities w.fates.cache w.deps.target w.deps.reached) →
    IsSomeAnd o (Serves names) → IfSome o (Serves others) → IsSettledAt (setting_of w.boot w.deps.target) past ps others least → IsSettledAt (setting_of w.boot w.deps.target) past ps names least
settled_with w past ps None names others least knows of serves also is = absurd serves
settled_with w past ps (Some kept) names others least knows of serves also is = settled_by w past ps knows kept of names others serves also least is

-- what is settled with what calls referred to is so with what they refer to, where what was made last serves both
pub settled_served : (s : Setting) (past : List Entry) (w : Watcher) (names others : List Name) (least : Option Key) → s ≡ setting_of w.boot w.deps.target → Knows w.fates.cache (watched_now (pages s past)) → IsRightBy w.boot.authorities w.fates.cache w.deps →
    IsServing w.deps names → IfSome w.deps.last (Serves others) → IsSettledAt s past (pages s past) others least → IsSettledAt s past (pages s past) names least
settled_served s past w names others least setting knows right serves also is =
    subst (λ t. IsSettledAt t past (pages s past) names least) (sym setting)
    (settled_with w past (pages s past) w.deps.last names others least knows right serves also (subst (λ t. IsSettledAt t past (pages s past) others least) setting is))

-- ---- the configuration that was handed out last has what calls refer to

stands_config : (present : Present) (config : Option Config) (trees : List ClusterTrees) (x : Snapshot) → standing present config trees ≡ Some (shown x) → config ≡ Some x.config
stands_config present None trees x is = absurd (cc is)
stands_config present (Some config) trees x is = let of : Shown → Config = λ s. s.0 in ap (option_map of) is

shown_at : (present : Present) (o config : Option Config) (trees : List ClusterTrees) (last : Option Snapshot) (name : Name) → o ≡ config → standing present config trees ≡ option_map shown last → LatestHas last name → IsSomeAnd o (λ c. Contains (map (λ e. e.name) c.clusters) name)
shown_at present o config trees None name same stands has = absurd has
shown_at present o config trees (Some x) name same stands has = subst (λ c. IsSomeAnd c (λ config. Contains (map (λ e. e.name) config.clusters) name)) (sym (same ∙ stands_config present config trees x stands)) has

pub all_shown : (s : Setting) (past : List Entry) (o : Option Config) → o ≡ config_now (pages s past) → ShowsWhatStands past (pages s past) → LatestHasAll (pages s past) → AreShown o (references (pages s past))
all_shown s past o same shows has = λ name contains. shown_at (present past) o (config_now (pages s past)) (trees_now (pages s past)) (latest (pages s past)) name same shows (has name contains)
