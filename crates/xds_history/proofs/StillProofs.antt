-- A report of an endpoint's state, or a sweep, changes nothing.
use Rattle.std.proofs.Common.{◌≡◌, ℕ, Bool, true, false, ◌&&◌, not, Option, Some, None, List, [], ◌∷◌, ◌++◌, refl, sym, ap, ◌∙◌, IsTrue}
use Rattle.std.specs.List.{list_all}
use Rattle.xc_base.specs.declared.names.Key.{Key}
use Rattle.xds_config.specs.declared.config.Config.{Config}
use Rattle.call_journal.specs.declared.event.DriverEvent.{DriverEvent}
use Rattle.call_journal.specs.declared.reply.DriverReply.{DriverReply}
use Rattle.call_journal.specs.declared.entry.What.{What}
use Rattle.call_journal.specs.declared.entry.Entry.{Entry}
use Rattle.config_assembly.specs.Orders.{Name}
use Rattle.config_assembly.specs.ReachedResources.{Resources}
use Rattle.config_assembly.specs.Reach.{reach, missing}
use Rattle.config_assembly.specs.WholeConfigs.{whole_config}
use Rattle.dep_manager.specs.Laws.{IsSame}
use Rattle.xds_history.specs.Setting.{Setting, known_as}
use Rattle.xds_history.specs.declared.page.Page.{Page}
use Rattle.xds_history.specs.declared.page.Watched.{Watched}
use Rattle.xds_history.specs.Page.{config_now, watched_now}
use Rattle.xds_history.specs.Fates.{fate_in, watch}
use Rattle.xds_history.specs.References.{references}
use Rattle.xds_history.specs.Requests.{requests}
use Rattle.xds_history.specs.Pages.{pages, came, present_after, config_after}
use Rattle.xds_history.specs.Right.{Right, IsReply}
use Rattle.xds_history.specs.HistoryLaws.{ChangesNothing, ReportsChangeNothing, is_call, is_report, reports}
use Rattle.xds_history.proofs.LawProofs.{entry_of}
use Rattle.xds_history.proofs.KeepProofs.{marks_at, keys_at, missing_at, config_at, right_past}
use Rattle.dep_manager.proofs.DecideLemmas.{fates_of_reached_keys_decide}
use Rattle.xds_history.proofs.WatchLemmas.{same_fates, same_marks, watch_twice}
use Rattle.xds_history.proofs.AskLemmas.{AreAsked, asked_after, asked_still, none_sent}

-- ---- entries of calls

-- after these entries this is watched and configured, and was asked for
record Stands (s : Setting) (past : List Entry) (watched : List Watched) (config : Option Config) : Type 0 where
  watches : watched_now (pages s past) ≡ watched
  configured : config_now (pages s past) ≡ config
  are_asked : AreAsked s past watched

stands_more : (s : Setting) (past : List Entry) (actor line : ℕ) (what : What) (watched : List Watched) (config : Option Config) → IsTrue (is_call what) → Stands s past watched config → Stands s (entry_of actor line what ∷ past) watched config
stands_more s past actor line (What.Driver event reply) watched config is stands = absurd (cc is)
stands_more s past actor line (What.Caller event reply) watched config is stands = record {
  watches = stands.watches;
  configured = stands.configured;
  are_asked = asked_still s past actor line (What.Caller event reply) watched refl stands.are_asked;
}

both : (a b : Bool) → IsTrue (a && b) → IsTrue a × IsTrue b
both true b is = (refl, is)
both false b is = absurd (cc is)

stands_after : (s : Setting) (between past : List Entry) (watched : List Watched) (config : Option Config) → IsTrue (list_all (λ c. is_call c.what) between) → Stands s past watched config → Stands s (between ++ past) watched config
stands_after s [] past watched config calls stands = stands
stands_after s (e ∷ between) past watched config calls stands =
    let (first, rest) = both (is_call e.what) (list_all (λ c. is_call c.what) between) calls in
    stands_more s (between ++ past) e.actor e.line e.what watched config first (stands_after s between past watched config rest stands)

-- ---- a report

-- what the driver's entry before made
abbrev made : Setting → List Entry → DriverEvent → DriverReply → List Watched
made s past event reply = watch (marks_at s event reply past (pages s past)) (keys_at s event reply past (pages s past))

stands_first : (s : Setting) (past : List Entry) (actor line : ℕ) (event : DriverEvent) (reply : DriverReply) → IsReply s (entry_of actor line (What.Driver event reply)) (What.Driver event reply) past (pages s past) →
    Stands s (entry_of actor line (What.Driver event reply) ∷ past) (made s past event reply) (config_at s event reply past (pages s past))
stands_first s past actor line event reply right = record {
  watches = refl;
  configured = refl;
  are_asked = asked_after s past actor line event reply (made s past event reply) right.sent_is;
}

same_config : (r other : Resources) (references : List Name) (least : Option Key) (before now : Option Config) → whole_config other references ≡ whole_config r references → now ≡ config_after r references least before → config_after other references least now ≡ now
same_config r other references None before now same is = same ∙ sym is
same_config r other references (Some key) before now same is = refl

still_at : (s : Setting) (past earlier : List Entry) (e_actor e_line actor line : ℕ) (event report : DriverEvent) (reply told : DriverReply) →
    IsTrue (is_report report) → references (pages s past) ≡ references (pages s earlier) →
    Stands s past (made s earlier event reply) (config_at s event reply earlier (pages s earlier)) →
    IsReply s (entry_of e_actor e_line (What.Driver report told)) (What.Driver report told) past (pages s past) →
    IsReply s (entry_of actor line (What.Driver event reply)) (What.Driver event reply) earlier (pages s earlier) →
    ChangesNothing s (entry_of e_actor e_line (What.Driver report told)) past (entry_of actor line (What.Driver event reply))
still_at s past earlier e_actor e_line actor line event report reply told is refs stands right right_before =
    let ps : List Page = pages s past in
    let qs : List Page = pages s earlier in
    let old : List Watched = marks_at s event reply earlier qs in
    let keys : List Key = keys_at s event reply earlier qs in
    let now : List Watched = watch old keys in
    let same : IsSame (known_as s (fate_in old)) (known_as s (fate_in now)) (references qs) = fates_of_reached_keys_decide (known_as s (fate_in old)) (references qs) (fate_in now) (same_fates old keys) in
    let marks : marks_at s report told past ps ≡ now = same_marks s report told past ps (present_after past report).now is ∙ stands.watches in
    let reached : keys_at s report told past ps ≡ keys =
    ap (λ ws. reach (known_as s (fate_in ws)) (references ps)) marks ∙ ap (λ names. reach (known_as s (fate_in now)) names) refs ∙ same.reached in
    let least : missing_at s report told past ps ≡ missing_at s event reply earlier qs =
    ap (λ ws. missing (fate_in ws) (reach (known_as s (fate_in ws)) (references ps))) marks ∙ ap (λ names. missing (fate_in now) (reach (known_as s (fate_in now)) names)) refs ∙ same.missing in
    let again : made s past report told ≡ now = ap (λ ws. watch ws (keys_at s report told past ps)) marks ∙ ap (λ ks. watch now ks) reached ∙ watch_twice old keys in
    let config : config_at s report told past ps ≡ config_now ps =
    ap (λ ws. config_after (known_as s (fate_in ws)) (references ps) (missing_at s report told past ps) (config_now ps)) marks
    ∙ ap (λ names. config_after (known_as s (fate_in now)) names (missing_at s report told past ps) (config_now ps)) refs
    ∙ ap (λ o. config_after (known_as s (fate_in now)) (references qs) o (config_now ps)) least
    ∙ same_config (known_as s (fate_in old)) (known_as s (fate_in now)) (references qs) (missing_at s event reply earlier qs) (config_now qs) (config_now ps) same.config stands.configured in record {
      watched = again ∙ sym stands.watches;
      config = config;
      awaited = right.missing_is ∙ least ∙ sym right_before.missing_is;
      sent = right.sent_is ∙ (ap (λ ws. requests s (came report told) past ws) again ∙ none_sent s past report told now is stands.are_asked);
    }

still_by : (s : Setting) (between earlier : List Entry) (e_actor e_line actor line : ℕ) (e_what what : What) →
    Right s (entry_of e_actor e_line e_what ∷ (between ++ entry_of actor line what ∷ earlier)) → Right s (entry_of actor line what ∷ earlier) →
    IsTrue (reports e_what) → IsTrue (list_all (λ c. is_call c.what) between) → IsTrue (not (is_call what)) →
    references (pages s (between ++ entry_of actor line what ∷ earlier)) ≡ references (pages s earlier) →
    ChangesNothing s (entry_of e_actor e_line e_what) (between ++ entry_of actor line what ∷ earlier) (entry_of actor line what)
still_by s between earlier e_actor e_line actor line (What.Driver report told) (What.Driver event reply) right before is calls driven refs =
    still_at s (between ++ entry_of actor line (What.Driver event reply) ∷ earlier) earlier e_actor e_line actor line event report reply told is refs
    (stands_after s between (entry_of actor line (What.Driver event reply) ∷ earlier) (made s earlier event reply) (config_at s event reply earlier (pages s earlier)) calls (stands_first s earlier actor line event reply before.0))
    right.0 before.0
still_by s between earlier e_actor e_line actor line (What.Driver report told) (What.Caller event reply) right before is calls driven refs = absurd (cc driven)
still_by s between earlier e_actor e_line actor line (What.Caller report told) what right before is calls driven refs = absurd (cc is)

pub reports_change_nothing : ReportsChangeNothing
reports_change_nothing s later e between before earlier right is calls driven refs =
    let here = right_past s later (e ∷ (between ++ before ∷ earlier)) right in
    still_by s between earlier e.actor e.line before.actor before.line e.what before.what here (right_past s between (before ∷ earlier) here.1) is calls driven refs
