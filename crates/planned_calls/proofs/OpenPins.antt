-- What a call has pinned and holds, by the entries that begin it.
use Rattle.std.proofs.Common.{◌≡◌, ℕ, Bool, true, false, ◌==◌, List, [], ◌∷◌, Option, Some, None, refl, sym, ap, ◌∙◌, subst, eq-eqb, if◌then◌else◌}
use Rattle.std.specs.Prelude.{unwrap_or, slice_get}
use Rattle.std.specs.Option.{option_or}
use Rattle.std.proofs.lemmas.Bool.{cond-true, cond-false}
use Rattle.xc_base.specs.declared.call.Call.{Call}
use Rattle.xc_base.specs.declared.names.CallId.{CallId}
use Rattle.call_journal.specs.declared.event.CallerEvent.{CallerEvent}
use Rattle.call_journal.specs.declared.reply.CallerReply.{CallerReply}
use Rattle.call_journal.specs.declared.entry.What.{What}
use Rattle.call_journal.specs.declared.entry.Entry.{Entry}
use Rattle.call_journal.specs.declared.plan.Listed.{Listed}
use Rattle.config_assembly.specs.Orders.{Name}
use Rattle.xds_history.specs.Setting.{Setting}
use Rattle.xds_history.specs.Words.{first_some}
use Rattle.xds_history.specs.declared.page.Page.{Page}
use Rattle.xds_history.specs.References.{held, holds_after, pinned, pins_after}
use Rattle.xds_history.specs.Pages.{page_of, pages}
use Rattle.book_progress.specs.ActorCounts.{actor_entries}
use Rattle.book_progress.specs.PlayedPlans.{HasPlayed, IsPin, caller_event, got_snapshot}
use Rattle.book_progress.specs.PlayedPlans as played
use Rattle.planned_calls.proofs.BegunCalls.{Each, begins}

page_entry : (s : Setting) (e : Entry) (what : What) (past : List Entry) (ps : List Page) → (page_of s e what past ps).entry ≡ e
page_entry s e (What.Driver event reply) past ps = refl
page_entry s e (What.Caller event reply) past ps = refl

-- ---- an entry that doesn't begin the call

pins_not : (id : CallId) (what : What) → begins id.0 what ≡ false → pins_after id what ≡ None
pins_not id (What.Driver event reply) none = refl
pins_not id (What.Caller (CallerEvent.Pin call) (CallerReply.Pinned number)) none = cond-false (call.id.0 == id.0) (Some (Some number)) None none
pins_not id (What.Caller (CallerEvent.Pin call) CallerReply.NoSnapshot) none = cond-false (call.id.0 == id.0) (Some None) None none
pins_not id (What.Caller (CallerEvent.Pin call) (CallerReply.Routed number answer)) none = cond-false (call.id.0 == id.0) (Some None) None none
pins_not id (What.Caller (CallerEvent.Pin call) (CallerReply.Endpoint number child locality place)) none = cond-false (call.id.0 == id.0) (Some None) None none
pins_not id (What.Caller (CallerEvent.Pin call) (CallerReply.Queue number)) none = cond-false (call.id.0 == id.0) (Some None) None none
pins_not id (What.Caller (CallerEvent.Pin call) (CallerReply.Fail number reason)) none = cond-false (call.id.0 == id.0) (Some None) None none
pins_not id (What.Caller (CallerEvent.Pin call) (CallerReply.Drop number rule)) none = cond-false (call.id.0 == id.0) (Some None) None none
pins_not id (What.Caller (CallerEvent.Pin call) CallerReply.NotHeld) none = cond-false (call.id.0 == id.0) (Some None) None none
pins_not id (What.Caller (CallerEvent.Pin call) CallerReply.Released) none = cond-false (call.id.0 == id.0) (Some None) None none
pins_not id (What.Caller (CallerEvent.Hold call) reply) none = cond-false (call.id.0 == id.0) (Some None) None none
pins_not id (What.Caller (CallerEvent.Pick other word) reply) none = refl
pins_not id (What.Caller (CallerEvent.Commit other) reply) none = refl

none_after : (b : Bool) → ◌≡◌ {A = Option Name} (unwrap_or (if b then Some None else None) None) None
none_after true = refl
none_after false = refl

holds_not : (id : CallId) (what : What) (ps : List Page) → begins id.0 what ≡ false → unwrap_or (holds_after id what ps) None ≡ None
holds_not id (What.Driver event reply) ps none = refl
holds_not id (What.Caller (CallerEvent.Pin call) reply) ps none = refl
holds_not id (What.Caller (CallerEvent.Hold call) (CallerReply.Routed number answer)) ps none = ap (λ told. unwrap_or told None) (cond-false (call.id.0 == id.0) _ None none)
holds_not id (What.Caller (CallerEvent.Hold call) (CallerReply.Pinned number)) ps none = refl
holds_not id (What.Caller (CallerEvent.Hold call) CallerReply.NoSnapshot) ps none = refl
holds_not id (What.Caller (CallerEvent.Hold call) (CallerReply.Endpoint number child locality place)) ps none = refl
holds_not id (What.Caller (CallerEvent.Hold call) (CallerReply.Queue number)) ps none = refl
holds_not id (What.Caller (CallerEvent.Hold call) (CallerReply.Fail number reason)) ps none = refl
holds_not id (What.Caller (CallerEvent.Hold call) (CallerReply.Drop number rule)) ps none = refl
holds_not id (What.Caller (CallerEvent.Hold call) CallerReply.NotHeld) ps none = refl
holds_not id (What.Caller (CallerEvent.Hold call) CallerReply.Released) ps none = refl
holds_not id (What.Caller (CallerEvent.Pick other word) reply) ps none = refl
holds_not id (What.Caller (CallerEvent.Commit other) reply) ps none = none_after (other.0 == id.0)

-- what an entry that doesn't begin the call leaves
pin_stays : (s : Setting) (e : Entry) (past : List Entry) (id : CallId) → begins id.0 e.what ≡ false → pinned (pages s (e ∷ past)) id ≡ pinned (pages s past) id
pin_stays s e past id none =
    let here : pins_after id (page_of s e e.what past (pages s past)).entry.what ≡ None = ap (λ (x : Entry). pins_after id x.what) (page_entry s e e.what past (pages s past)) ∙ pins_not id e.what none in
    ap (λ found. unwrap_or (option_or found (first_some (λ p. pins_after id p.entry.what) (pages s past))) None) here

-- ---- a call that no entry begins

pub no_pin : (s : Setting) (history : List Entry) (id : CallId) → Each (λ e. begins id.0 e.what ≡ false) history → pinned (pages s history) id ≡ None
no_pin s [] id none = refl
no_pin s (e ∷ past) id none = pin_stays s e past id none.0 ∙ no_pin s past id none.1

pub no_hold : (s : Setting) (history : List Entry) (id : CallId) → Each (λ e. begins id.0 e.what ≡ false) history → held (pages s history) id ≡ None
no_hold s [] id none = refl
no_hold s (e ∷ past) id none =
    let ps : List Page = pages s past in
    ap (λ (x : Entry). unwrap_or (holds_after id x.what ps) (held ps id)) (page_entry s e e.what past ps)
    ∙ (ap (λ before. unwrap_or (holds_after id e.what ps) before) (no_hold s past id none.1) ∙ holds_not id e.what ps none.0)

-- ---- a pin that is up

-- the newest entry of an actor whose pin is up is that pin
pub record IsLastPin (list : List Listed) (n : ℕ) (es : List Entry) : Type 0 where
  pub pin : Entry
  pub earlier : List Entry
  pub is : es ≡ pin ∷ earlier
  pub next : Listed
  pub next_is : slice_get list n ≡ Some next
  pub pins : IsPin next.event pin.what true

pub last_pin : (list : List Listed) (n pins : ℕ) (es : List Entry) → HasPlayed list n pins es → pins ≡ 1 → IsLastPin list n es
last_pin list _ _ _ played.none one = absurd (cc one)
last_pin list _ _ _ (played.one n next e past get line event rest) one = absurd (cc one)
last_pin list _ _ _ (played.pin n next e past get line event rest) one = absurd (cc one)
last_pin list _ _ _ (played.up n next e past get line event rest) one = record { pin = e; earlier = past; is = refl; next = next; next_is = get; pins = event }
last_pin list _ _ _ (played.held n next e past get line event rest) one = absurd (cc one)

told_number : (call : Call) (reply : CallerReply) → got_snapshot (What.Caller (CallerEvent.Pin call) reply) ≡ true → (number : ℕ) × (pins_after call.id (What.Caller (CallerEvent.Pin call) reply) ≡ Some (Some number))
told_number call (CallerReply.Pinned number) got = (number, cond-true (call.id.0 == call.id.0) (Some (Some number)) None (eq-eqb call.id.0 call.id.0 refl))
told_number call CallerReply.NoSnapshot got = absurd (cc got)
told_number call (CallerReply.Routed number answer) got = absurd (cc got)
told_number call (CallerReply.Endpoint number child locality place) got = absurd (cc got)
told_number call (CallerReply.Queue number) got = absurd (cc got)
told_number call (CallerReply.Fail number reason) got = absurd (cc got)
told_number call (CallerReply.Drop number rule) got = absurd (cc got)
told_number call CallerReply.NotHeld got = absurd (cc got)
told_number call CallerReply.Released got = absurd (cc got)

-- a pin with a snapshot tells its number
pub pin_told : (what : What) (call : Call) → caller_event what ≡ Some (CallerEvent.Pin call) → got_snapshot what ≡ true → (number : ℕ) × (pins_after call.id what ≡ Some (Some number))
pin_told (What.Driver event reply) call is got = absurd (cc is)
pin_told (What.Caller event reply) call is got =
    let same : event ≡ CallerEvent.Pin call = cc is in
    subst (λ (e : CallerEvent). (number : ℕ) × (pins_after call.id (What.Caller e reply) ≡ Some (Some number))) (sym same) (told_number call reply got)

pinned_here : (s : Setting) (e : Entry) (past : List Entry) (id : CallId) (number : ℕ) → pins_after id e.what ≡ Some (Some number) → pinned (pages s (e ∷ past)) id ≡ Some number
pinned_here s e past id number told =
    let here : pins_after id (page_of s e e.what past (pages s past)).entry.what ≡ Some (Some number) = ap (λ (x : Entry). pins_after id x.what) (page_entry s e e.what past (pages s past)) ∙ told in
    ap (λ found. unwrap_or (option_or found (first_some (λ p. pins_after id p.entry.what) (pages s past))) None) here

-- of an actor's newest entry, and of the entries of others behind it
up_at : (s : Setting) (actor number : ℕ) (id : CallId) (e : Entry) (past : List Entry) (x : Entry) (rest : List Entry) (b : Bool) → (e.actor == actor) ≡ b
    → (if b then e ∷ actor_entries actor past else actor_entries actor past) ≡ x ∷ rest → pins_after id x.what ≡ Some (Some number) → ((e.actor == actor) ≡ false → begins id.0 e.what ≡ false)
    → (actor_entries actor past ≡ x ∷ rest → pinned (pages s past) id ≡ Some number) → pinned (pages s (e ∷ past)) id ≡ Some number
up_at s actor number id e past x rest true own is told none before =
    let same : e ≡ x = cc is in
    pinned_here s e past id number (ap (λ (y : Entry). pins_after id y.what) same ∙ told)
up_at s actor number id e past x rest false own is told none before = pin_stays s e past id (none own) ∙ before is

pub up_in : (s : Setting) (actor number : ℕ) (id : CallId) (history : List Entry) (x : Entry) (rest : List Entry) → actor_entries actor history ≡ x ∷ rest → pins_after id x.what ≡ Some (Some number)
    → Each (λ e. (e.actor == actor) ≡ false → begins id.0 e.what ≡ false) history → pinned (pages s history) id ≡ Some number
up_in s actor number id [] x rest is told none = absurd (cc is)
up_in s actor number id (e ∷ past) x rest is told none =
    up_at s actor number id e past x rest (e.actor == actor) refl is told none.0 (λ same. up_in s actor number id past x rest same told none.1)
