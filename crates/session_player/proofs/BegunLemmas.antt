-- A call that hasn't begun has no pin and holds nothing.
use Rattle.std.proofs.Common.{◌≡◌, ℕ, List, [], ◌∷◌, take, reverse, ◌+◌, Bool, true, false, ◌&&◌, ◌||◌, Option, Some, None, refl, sym, ap, ◌∙◌, subst}
use Rattle.std.specs.Prelude.{◌==◌, unwrap_or, if◌then◌else◌}
use Rattle.std.specs.List.{slice_get}
use Rattle.std.specs.Option.{option_or}
use Rattle.std.proofs.lemmas.Bool.{cond-false}
use Rattle.xc_base.specs.declared.call.Call.{Call}
use Rattle.xc_base.specs.declared.names.CallId.{CallId}
use Rattle.call_journal.specs.declared.event.CallerEvent.{CallerEvent}
use Rattle.call_journal.specs.declared.reply.CallerReply.{CallerReply}
use Rattle.call_journal.specs.declared.entry.What.{What}
use Rattle.call_journal.specs.declared.entry.Entry.{Entry}
use Rattle.config_assembly.specs.Orders.{Name}
use Rattle.legal_plan.specs.xds_history.Setting.{Setting}
use Rattle.legal_plan.specs.xds_history.Words.{first_some}
use Rattle.legal_plan.specs.xds_history.declared.page.Page.{Page}
use Rattle.legal_plan.specs.xds_history.References.{held, holds_after, pinned, pins_after}
use Rattle.legal_plan.specs.xds_history.Pages.{page_of, pages}
use Rattle.session_lines.specs.Before.{call_in, is_started, starts}
use Rattle.session_lines.specs.declared.session.Act.{Act}
use Rattle.session_lines.specs.declared.session.Act.TheVariants as act
use Rattle.session_lines.specs.declared.session.Line.{Line}
use Rattle.session_lines.specs.declared.session.Session.{Session}
use Rattle.session_lines.specs.declared.session.Work.{Work}
use Rattle.session_lines.specs.declared.session.Work.TheVariants as work
use Rattle.session_player.specs.LineProgress.{AreBegunBy, has_begun, is_begun}
use Rattle.session_player.proofs.ShapeLemmas.{lines_more}

-- ---- pages

page_entry : (s : Setting) (e : Entry) (what : What) (past : List Entry) (ps : List Page) → (page_of s e what past ps).entry ≡ e
page_entry s e (What.Driver event reply) past ps = refl
page_entry s e (What.Caller event reply) past ps = refl

none_pinned : (id : CallId) (what : What) → is_begun id.0 what ≡ false → pins_after id what ≡ None
none_pinned id (What.Driver event reply) h = refl
none_pinned id (What.Caller (CallerEvent.Pin call) (CallerReply.Pinned number)) h = cond-false (call.id.0 == id.0) (Some (Some number)) None h
none_pinned id (What.Caller (CallerEvent.Pin call) CallerReply.NoSnapshot) h = cond-false (call.id.0 == id.0) (Some None) None h
none_pinned id (What.Caller (CallerEvent.Pin call) (CallerReply.Routed number answer)) h = cond-false (call.id.0 == id.0) (Some None) None h
none_pinned id (What.Caller (CallerEvent.Pin call) (CallerReply.Endpoint number child locality place)) h = cond-false (call.id.0 == id.0) (Some None) None h
none_pinned id (What.Caller (CallerEvent.Pin call) (CallerReply.Queue number)) h = cond-false (call.id.0 == id.0) (Some None) None h
none_pinned id (What.Caller (CallerEvent.Pin call) (CallerReply.Fail number reason)) h = cond-false (call.id.0 == id.0) (Some None) None h
none_pinned id (What.Caller (CallerEvent.Pin call) (CallerReply.Drop number rule)) h = cond-false (call.id.0 == id.0) (Some None) None h
none_pinned id (What.Caller (CallerEvent.Pin call) CallerReply.NotHeld) h = cond-false (call.id.0 == id.0) (Some None) None h
none_pinned id (What.Caller (CallerEvent.Pin call) CallerReply.Released) h = cond-false (call.id.0 == id.0) (Some None) None h
none_pinned id (What.Caller (CallerEvent.Hold call) reply) h = cond-false (call.id.0 == id.0) (Some None) None h
none_pinned id (What.Caller (CallerEvent.Pick other word) reply) h = refl
none_pinned id (What.Caller (CallerEvent.Commit other) reply) h = refl

none_after : (b : Bool) → ◌≡◌ {A = Option Name} (unwrap_or (if b then Some None else None) None) None
none_after true = refl
none_after false = refl

none_held : (id : CallId) (what : What) (ps : List Page) → is_begun id.0 what ≡ false → unwrap_or (holds_after id what ps) None ≡ None
none_held id (What.Driver event reply) ps h = refl
none_held id (What.Caller (CallerEvent.Pin call) reply) ps h = refl
none_held id (What.Caller (CallerEvent.Hold call) (CallerReply.Routed number answer)) ps h = ap (λ told. unwrap_or told None) (cond-false (call.id.0 == id.0) _ None h)
none_held id (What.Caller (CallerEvent.Hold call) (CallerReply.Pinned number)) ps h = refl
none_held id (What.Caller (CallerEvent.Hold call) CallerReply.NoSnapshot) ps h = refl
none_held id (What.Caller (CallerEvent.Hold call) (CallerReply.Endpoint number child locality place)) ps h = refl
none_held id (What.Caller (CallerEvent.Hold call) (CallerReply.Queue number)) ps h = refl
none_held id (What.Caller (CallerEvent.Hold call) (CallerReply.Fail number reason)) ps h = refl
none_held id (What.Caller (CallerEvent.Hold call) (CallerReply.Drop number rule)) ps h = refl
none_held id (What.Caller (CallerEvent.Hold call) CallerReply.NotHeld) ps h = refl
none_held id (What.Caller (CallerEvent.Hold call) CallerReply.Released) ps h = refl
none_held id (What.Caller (CallerEvent.Pick other word) reply) ps h = refl
none_held id (What.Caller (CallerEvent.Commit other) reply) ps h = none_after (other.0 == id.0)

or_both : (a b : Bool) → (a || b) ≡ false → (a ≡ false) × (b ≡ false)
or_both true b h = absurd (cc h)
or_both false b h = (refl, h)

pins_none : (s : Setting) (history : List Entry) (id : CallId) → has_begun id.0 history ≡ false → first_some (λ p. pins_after id p.entry.what) (pages s history) ≡ None
pins_none s [] id h = refl
pins_none s (e ∷ past) id h =
    let parts = or_both (is_begun id.0 e.what) (has_begun id.0 past) h in
    let here : pins_after id (page_of s e e.what past (pages s past)).entry.what ≡ None =
    ap (λ (x : Entry). pins_after id x.what) (page_entry s e e.what past (pages s past)) ∙ none_pinned id e.what parts.0 in
    ap (λ found. option_or found (first_some (λ p. pins_after id p.entry.what) (pages s past))) here ∙ pins_none s past id parts.1

pub no_pin : (s : Setting) (history : List Entry) (id : CallId) → has_begun id.0 history ≡ false → pinned (pages s history) id ≡ None
no_pin s history id h = ap (λ found. unwrap_or found None) (pins_none s history id h)

pub no_hold : (s : Setting) (history : List Entry) (id : CallId) → has_begun id.0 history ≡ false → held (pages s history) id ≡ None
no_hold s [] id h = refl
no_hold s (e ∷ past) id h =
    let parts = or_both (is_begun id.0 e.what) (has_begun id.0 past) h in
    let ps : List Page = pages s past in
    ap (λ (x : Entry). unwrap_or (holds_after id x.what ps) (held ps id)) (page_entry s e e.what past ps)
    ∙ (ap (λ before. unwrap_or (holds_after id e.what ps) before) (no_hold s past id parts.1) ∙ none_held id e.what ps parts.0)

-- ---- line by line

begun_by : (session : Session) (place : ℕ) (line : Line) (history new : List Entry) → slice_get session.lines place ≡ Some line → AreBegunBy session place history
    → ((id : ℕ) → starts id line.work ≡ false → has_begun id history ≡ false → has_begun id new ≡ false) → AreBegunBy session (place + 1) new
begun_by session place line history new get begun one id h =
    let before : is_started id (line ∷ reverse (take place session.lines)) ≡ false = subst (λ (ls : List Line). is_started id ls ≡ false) (lines_more session.lines place line get) h in
    let parts = or_both (starts id line.work) (is_started id (reverse (take place session.lines))) before in
    one id parts.0 (begun id parts.1)

neither : (a b : Bool) → a ≡ false → b ≡ false → (a || b) ≡ false
neither true b h k = absurd (cc h)
neither false b h k = k

-- an entry that begins no call
pub begun_more : (session : Session) (place : ℕ) (e : Entry) (history : List Entry) → ((id : ℕ) → is_begun id e.what ≡ false) → AreBegunBy session place history → AreBegunBy session place (e ∷ history)
begun_more session place e history none begun id h = neither (is_begun id e.what) (has_begun id history) (none id) (begun id h)

pub begun_next : (session : Session) (place : ℕ) (line : Line) (e : Entry) (history : List Entry) → slice_get session.lines place ≡ Some line → ((id : ℕ) → starts id line.work ≡ false → is_begun id e.what ≡ false)
    → AreBegunBy session place history → AreBegunBy session (place + 1) (e ∷ history)
begun_next session place line e history get none begun =
    begun_by session place line history (e ∷ history) get begun (λ id new before. neither (is_begun id e.what) (has_begun id history) (none id new) before)

pub begun_twice : (session : Session) (place : ℕ) (line : Line) (e f : Entry) (history : List Entry) → slice_get session.lines place ≡ Some line → ((id : ℕ) → starts id line.work ≡ false → is_begun id e.what ≡ false)
    → ((id : ℕ) → starts id line.work ≡ false → is_begun id f.what ≡ false) → AreBegunBy session place history → AreBegunBy session (place + 1) (f ∷ e ∷ history)
begun_twice session place line e f history get none nor begun =
    begun_by session place line history (f ∷ e ∷ history) get begun
    (λ id new before. neither (is_begun id f.what) (has_begun id (e ∷ history)) (nor id new) (neither (is_begun id e.what) (has_begun id history) (none id new) before))

-- a line that starts a call begins no other one
pub starts_own : (id number : ℕ) (call : Call) (w : Work) → w ≡ work.Caller number (act.Start call) → starts id w ≡ false → (call.id.0 == id) ≡ false
starts_own id number call w is new = sym (ap (starts id) is) ∙ new
