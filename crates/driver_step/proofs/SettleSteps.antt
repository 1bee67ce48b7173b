-- What is watched is settled by each driver's entry.
use Rattle.std.proofs.Common.{◌≡◌, Option, Some, None, List, ◌∷◌, refl, sym, ap, ◌∙◌}
use Rattle.xc_base.specs.declared.names.Key.{Key}
use Rattle.xds_config.specs.declared.config.Config.{Config}
use Rattle.call_journal.specs.declared.entry.What.{What}
use Rattle.book_fates.specs.config_assembly.Orders.{Name}
use Rattle.book_fates.specs.config_assembly.ReachedResources.{Resources}
use Rattle.book_fates.specs.config_assembly.Reach.{missing, reach}
use Rattle.book_fates.specs.config_assembly.WholeConfigs.{whole_config}
use Rattle.book_fates.specs.dep_manager.Laws.{IsSame}
use Rattle.book_fates.proofs.dep_manager.DecideLemmas.{fates_of_reached_keys_decide}
use Rattle.book_fates.specs.xds_history.Setting.{known_as}
use Rattle.book_fates.specs.xds_history.Requests.{requests}
use Rattle.book_fates.specs.xds_history.declared.page.Page.{Page}
use Rattle.book_fates.specs.xds_history.declared.page.Watched.{Watched}
use Rattle.book_fates.specs.xds_history.Page.{config_now, watched_now}
use Rattle.book_fates.specs.xds_history.Fates.{fate_in, watch}
use Rattle.book_fates.specs.xds_history.Pages.{came, config_after, driven, pages}
use Rattle.book_fates.specs.xds_history.References.{references}
use Rattle.book_fates.proofs.xds_history.AskLemmas.{asked_after, asked_still}
use Rattle.book_fates.proofs.xds_history.WatchLemmas.{same_fates, watch_twice}
use Rattle.driver_step.specs.DriverSteps.{marks_with, watched_by}
use Rattle.driver_step.specs.SettledKeys.{CallersLeaveSettled, DriversSettleKeys}
use Rattle.driver_step.proofs.AnswerSteps.{page_by_is}

-- ---- what is watched decides what is reached

same_config : (r other : Resources) (names : List Name) (least : Option Key) (before now : Option Config) → whole_config other names ≡ whole_config r names → now ≡ config_after r names least before → config_after other names least now ≡ now
same_config r other names None before now same is = same ∙ sym is
same_config r other names (Some key) before now same is = refl

pub drivers_settle_keys : DriversSettleKeys
drivers_settle_keys s past line event reply a by sent =
    let ps : List Page = pages s past in
    let qs : List Page = pages s (driven 0 line event reply ∷ past) in
    let names : List Name = references ps in
    let old : List Watched = marks_with s (came event reply) past ps in
    let keys : List Key = reach (known_as s (fate_in old)) names in
    let now : List Watched = watch old keys in
    let same : IsSame (known_as s (fate_in old)) (known_as s (fate_in now)) names = fates_of_reached_keys_decide (known_as s (fate_in old)) names (fate_in now) (same_fates old keys) in
    let watched : watched_by s (came event reply) past ps a ≡ now = ap (watch old) by.reached_are in
    let page = page_by_is s (came event reply) past ps a (driven 0 line event reply) reply.snapshot by in
    let are : watched_now qs ≡ now = refl in
    let least : a.missing ≡ missing (fate_in now) (reach (known_as s (fate_in now)) names) = by.missing_is ∙ ap (missing (fate_in old)) by.reached_are ∙ sym same.missing in
    let config : config_now qs ≡ config_after (known_as s (fate_in old)) names a.missing (config_now ps) = ap (λ p. p.config) page ∙ by.config_is in record {
      watches = ap (watch now) same.reached ∙ watch_twice old keys;
      awaits = least;
      stays = same_config (known_as s (fate_in old)) (known_as s (fate_in now)) names a.missing (config_now ps) (config_now qs) same.config config;
      asked = λ whose has. asked_after s past 0 line event reply (watched_now qs) (sent ∙ ap (λ ws. requests s (came event reply) past ws) watched) whose has;
    }

pub callers_leave_settled : CallersLeaveSettled
callers_leave_settled s past actor line event reply names least settled = record {
  watches = settled.watches;
  awaits = settled.awaits;
  stays = settled.stays;
  asked = asked_still s past actor line (What.Caller event reply) (watched_now (pages s past)) refl settled.asked;
}
