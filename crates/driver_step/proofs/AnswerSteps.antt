-- A driver's entry by its pieces.
use Rattle.std.proofs.Common.{◌≡◌, ℕ, List, Option, Some, None, refl, sym, ap, ◌∙◌, subst}
use Rattle.xc_base.specs.declared.names.Key.{Key}
use Rattle.xds_bootstrap.specs.declared.bootstrap.Bootstrap.{Bootstrap}
use Rattle.xds_name.specs.declared.target.Target.{Target}
use Rattle.xds_config.specs.declared.config.Config.{Config}
use Rattle.xds_cache.specs.KeptFates.{Watched as Rows, fate_at, fate_of}
use Rattle.call_journal.specs.declared.event.DriverEvent.{DriverEvent}
use Rattle.call_journal.specs.declared.reply.DriverReply.{DriverReply}
use Rattle.call_journal.specs.declared.entry.What.{What}
use Rattle.call_journal.specs.declared.entry.Entry.{Entry}
use Rattle.book_fates.specs.config_assembly.Orders.{Name}
use Rattle.book_fates.specs.config_assembly.ReachedResources.{Resources, resources}
use Rattle.book_fates.specs.config_assembly.Reach.{missing}
use Rattle.book_fates.specs.config_assembly.WholeConfigs.{config_where, whole_config}
use Rattle.book_fates.specs.dep_manager.Laws.{IsSame}
use Rattle.book_fates.proofs.dep_manager.DecideLemmas.{fates_of_reached_keys_decide}
use Rattle.book_fates.specs.xds_history.Setting.{Setting, known_as, setting_of}
use Rattle.book_fates.specs.xds_history.Responses.{Came}
use Rattle.book_fates.specs.xds_history.declared.page.Page.{Page}
use Rattle.book_fates.specs.xds_history.declared.page.Watched.{Watched}
use Rattle.book_fates.specs.xds_history.Page.{config_now}
use Rattle.book_fates.specs.xds_history.Fates.{fate_in, watch}
use Rattle.book_fates.specs.xds_history.References.{references}
use Rattle.book_fates.specs.xds_history.Trees.{Present}
use Rattle.book_fates.specs.xds_history.Pages.{came, config_after, driven, driver_page, page_of, page_with_config, page_with_missing, page_with_reach, present_after}
use Rattle.book_fates.specs.xds_history.Right.{IsDriverReply}
use Rattle.book_fates.specs.FateSteps.{Knows}
use Rattle.driver_step.specs.DriverSteps.{Assembly, IsAssembly, IsAnswer, AnswersAreNext, CachesAssemble, made_or, marks_with, page_by}

-- ---- the page

-- each piece is what the definitions make of those before it
pub page_by_is : (s : Setting) (c : Came) (past : List Entry) (ps : List Page) (a : Assembly) (e : Entry) (number : Option ℕ) → IsAssembly s c past ps a →
    driver_page s e c number past ps (present_after past c.event) ≡ page_by s c past ps a e number
page_by_is s c past ps a e number by =
    let p : Present = present_after past c.event in
    let marks : List Watched = marks_with s c past ps in
    let names : List Name = references ps in
    ap (page_with_reach s e p ps number marks names) (sym by.reached_are)
    ∙ ap (page_with_missing s e p ps number marks names a.reached) (sym by.missing_is)
    ∙ ap (page_with_config e p ps (watch marks a.reached) a.missing number) (sym by.config_is)

-- ---- the reply

replied : (s : Setting) (past : List Entry) (ps : List Page) (event : DriverEvent) (reply : DriverReply) (a : Assembly) (e : Entry) → IsAnswer s past ps event reply a →
    IsDriverReply s event reply past ps (page_by s (came event reply) past ps a e reply.snapshot)
replied s past ps event reply a e by = record {
  verdict_is = by.verdict_is;
  refused_is = by.refused_is;
  sent_is = by.sent_is;
  missing_is = by.missing_is;
  number_is = by.number_is;
}

pub answers_are_next : AnswersAreNext
answers_are_next s past ps line event reply a assembled by =
    let e : Entry = driven 0 line event reply in
    let same : page_of s e (What.Driver event reply) past ps ≡ page_by s (came event reply) past ps a e reply.snapshot = page_by_is s (came event reply) past ps a e reply.snapshot assembled in record {
      reply_is = subst (λ page. IsDriverReply s event reply past ps page) (sym same) (replied s past ps event reply a e by);
      page_is = same;
    }

-- ---- what a cache makes

pub made_same : (boot : Bootstrap) (target : Target) (rows : Rows) (marks : List Watched) (names : List Name) → Knows rows marks
    → IsSame (resources target boot.authorities rows) (known_as (setting_of boot target) (fate_in marks)) names
made_same boot target rows marks names knows =
    fates_of_reached_keys_decide (resources target boot.authorities rows) names (fate_in marks) (λ key has. ap (fate_at key.home) (sym (knows key)))

made_after : (least : Option Key) (r other : Resources) (names : List Name) (made before : Option Config) → whole_config other names ≡ whole_config r names → made ≡ config_where least r names →
    made_or least made before ≡ config_after other names least before
made_after None r other names made before same is = is ∙ sym same
made_after (Some key) r other names made before same is = refl

pub caches_assemble : CachesAssemble
caches_assemble boot target c past ps rows reached least made knows is =
    let s : Setting = setting_of boot target in
    let marks : List Watched = marks_with s c past ps in
    let same : IsSame (resources target boot.authorities rows) (known_as s (fate_in marks)) (references ps) = made_same boot target rows marks (references ps) knows in
    let reached_is = is.reached_are ∙ sym same.reached in record {
      reached_are = reached_is;
      missing_is = is.missing_is ∙ ap (missing (fate_of rows)) is.reached_are ∙ sym same.missing ∙ ap (missing (fate_in marks)) (sym reached_is);
      config_is = made_after least (resources target boot.authorities rows) (known_as s (fate_in marks)) (references ps) made (config_now ps) same.config is.config_is;
    }
