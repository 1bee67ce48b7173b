-- What an event brings for the watched keys, by its kind.
use Rattle.std.proofs.Common.{◌≡◌, true, List, [], Option, Some, None, Result, Ok, Err, refl, sym, ap₂, ◌∙◌, subst, option_map}
use Rattle.std.specs.Prelude.{OnOk}
use Rattle.xc_base.specs.declared.names.Time.{Time}
use Rattle.ads_stream.specs.declared.verdict.Verdict.{Verdict}
use Rattle.call_journal.specs.declared.event.DriverEvent.{DriverEvent}
use Rattle.call_journal.specs.declared.reply.DriverReply.{DriverReply}
use Rattle.call_journal.specs.declared.entry.Entry.{Entry}
use Rattle.book_trees.specs.xds_history.Setting.{Setting}
use Rattle.book_trees.specs.xds_history.Responses.{Came, answered}
use Rattle.book_trees.specs.xds_history.declared.responses.Told.{Told}
use Rattle.book_trees.specs.xds_history.declared.page.Page.{Page}
use Rattle.driver_step.specs.book_fates.declared.answered.Answered.{Answered}
use Rattle.driver_step.specs.book_fates.declared.timed_fates.Fates.{Fates}
use Rattle.driver_step.specs.book_fates.Delivered.{delivered_by, delivered_in}
use Rattle.driver_step.specs.book_fates.FatesKept.{IsMarkedAt, is_moment, turned_by}
use Rattle.driver_step.proofs.book_fates.PageLemmas.{answered_turns_none}

-- what a success gives
pub on_ok : {T E A B : Type 0} (result : Result T E) → OnOk result A → (A → B) → OnOk result B
on_ok (Ok value) is next = next is
on_ok (Err fault) is next = tt

pub as_ok : {T E A : Type 0} (result : Result T E) → A → OnOk result A
as_ok (Ok value) is = is
as_ok (Err fault) is = tt

-- time passes
pub moment_marks : (s : Setting) (c : Came) (past : List Entry) (ps : List Page) (now : Time) (event : DriverEvent) (v : Verdict) (new : Fates) → is_moment event ≡ true → c.event ≡ event →
    ((time : Time) → c.event ≡ DriverEvent.Moment time → IsMarkedAt s c past ps now None new) → IsMarkedAt s c past ps now (turned_by event v) new
moment_marks s c past ps now (DriverEvent.Moment time) v new is same marks = marks time same
moment_marks s c past ps now (DriverEvent.Opened a) v new is same marks = absurd (cc is)
moment_marks s c past ps now (DriverEvent.Response a payload) v new is same marks = absurd (cc is)
moment_marks s c past ps now (DriverEvent.Bytes a how) v new is same marks = absurd (cc is)
moment_marks s c past ps now (DriverEvent.Lost a) v new is same marks = absurd (cc is)
moment_marks s c past ps now (DriverEvent.Endpoint address state) v new is same marks = absurd (cc is)
moment_marks s c past ps now DriverEvent.Sweep v new is same marks = absurd (cc is)

-- an answered response turns no stream
abbrev reply_of : Came → DriverReply
reply_of c = record { verdict = c.verdict; sent = []; missing = None; snapshot = None; refused = c.refused }

turns_none : (s : Setting) (c : Came) (event : DriverEvent) (v : Verdict) (response : Answered) (o : Option Told) → answered s c ≡ o → c.event ≡ event → c.verdict ≡ v → Some (delivered_in response) ≡ option_map delivered_by o → turned_by event v ≡ None
turns_none s c event v response None is same verdict brings = absurd (cc brings)
turns_none s c event v response (Some t) is same verdict brings = ap₂ turned_by (sym same) (sym verdict) ∙ answered_turns_none s c.event (reply_of c) t is

pub response_marks : (s : Setting) (c : Came) (past : List Entry) (ps : List Page) (now : Time) (event : DriverEvent) (v : Verdict) (response : Answered) (new : Fates) → c.event ≡ event → c.verdict ≡ v →
    Some (delivered_in response) ≡ option_map delivered_by (answered s c) → IsMarkedAt s c past ps now None new → IsMarkedAt s c past ps now (turned_by event v) new
response_marks s c past ps now event v response new same verdict brings marked =
    subst (λ turn. IsMarkedAt s c past ps now turn new) (sym (turns_none s c event v response (answered s c) refl same verdict brings)) marked

-- nothing is answered
pub none_brought : (o : Option Told) → None ≡ option_map delivered_by o → o ≡ None
none_brought None is = refl
none_brought (Some t) is = absurd (cc is)
