-- A plan is played on by the next entry of an actor.
use Rattle.std.proofs.Common.{◌≡◌, ℕ, ◌+◌, ◌-◌, ◌==◌, Bool, true, false, List, [], ◌∷◌, Option, Some, None, refl, sym, subst, if◌then◌else◌, eqb-true}
use Rattle.std.specs.Prelude.{slice_get}
use Rattle.xc_base.specs.declared.call.Call.{Call}
use Rattle.call_journal.specs.declared.event.DriverEvent.{DriverEvent}
use Rattle.call_journal.specs.declared.event.CallerEvent.{CallerEvent}
use Rattle.call_journal.specs.declared.reply.DriverReply.{DriverReply}
use Rattle.call_journal.specs.declared.reply.CallerReply.{CallerReply}
use Rattle.call_journal.specs.declared.entry.What.{What}
use Rattle.call_journal.specs.declared.entry.Entry.{Entry}
use Rattle.call_journal.specs.declared.plan.Count.{Count}
use Rattle.call_journal.specs.declared.plan.Listed.{Listed}
use Rattle.call_journal.specs.declared.plan.ListedEvent.{ListedEvent}
use Rattle.book_progress.specs.ActorCounts.{count_of, count_after, count_called, count_pinned, actor_entries}
use Rattle.book_progress.specs.PlayedPlans.{HasPlayed, IsOne, IsPin, IsHold, IsStep, IsCallStep, IsListed, IsGated, IsNextOf, IsNext, IsPlanPlayed, IsPlayed, PlayGoesOn, step_in, got_snapshot, is_pinned, caller_event}
use Rattle.book_progress.specs.PlayedPlans as played

-- ---- one list

one_more : (list : List Listed) (n pins : ℕ) (next : Listed) (e : Entry) (past : List Entry) → slice_get list n ≡ Some next → e.line ≡ next.line → IsOne next.event e.what → pins ≡ 0
    → HasPlayed list n pins past → HasPlayed list (n + 1) pins (e ∷ past)
one_more list n pins next e past get line event none before =
    subst (λ (p : ℕ). HasPlayed list (n + 1) p (e ∷ past)) (sym none) (played.one n next e past get line event (subst (λ (p : ℕ). HasPlayed list n p past) none before))

pin_more : (list : List Listed) (n pins : ℕ) (next : Listed) (e : Entry) (past : List Entry) → slice_get list n ≡ Some next → e.line ≡ next.line → IsPin next.event e.what false → pins ≡ 0
    → HasPlayed list n pins past → HasPlayed list (n + 1) pins (e ∷ past)
pin_more list n pins next e past get line event none before =
    subst (λ (p : ℕ). HasPlayed list (n + 1) p (e ∷ past)) (sym none) (played.pin n next e past get line event (subst (λ (p : ℕ). HasPlayed list n p past) none before))

up_more : (list : List Listed) (n pins : ℕ) (next : Listed) (e : Entry) (past : List Entry) → slice_get list n ≡ Some next → e.line ≡ next.line → IsPin next.event e.what true → pins ≡ 0
    → HasPlayed list n pins past → HasPlayed list n (pins + 1) (e ∷ past)
up_more list n pins next e past get line event none before =
    subst (λ (p : ℕ). HasPlayed list n (p + 1) (e ∷ past)) (sym none) (played.up n next e past get line event (subst (λ (p : ℕ). HasPlayed list n p past) none before))

held_more : (list : List Listed) (n pins : ℕ) (next : Listed) (e : Entry) (past : List Entry) → slice_get list n ≡ Some next → e.line ≡ next.line → IsHold next.event e.what → pins ≡ 1
    → HasPlayed list n pins past → HasPlayed list (n + 1) (pins - 1) (e ∷ past)
held_more list n pins next e past get line event one before =
    subst (λ (p : ℕ). HasPlayed list (n + 1) (p - 1) (e ∷ past)) (sym one) (played.held n next e past get line event (subst (λ (p : ℕ). HasPlayed list n p past) one before))

-- ---- one step of an actor

abbrev caller_of : Entry → CallerEvent → CallerReply → Entry
caller_of e event reply = record { actor = e.actor; line = e.line; what = What.Caller event reply }

abbrev driver_of : Entry → DriverEvent → DriverReply → Entry
driver_of e event reply = record { actor = e.actor; line = e.line; what = What.Driver event reply }

is_one : (event : ListedEvent) (listed : ListedEvent) (what : What) → listed ≡ event → IsOne event what → IsOne listed what
is_one event listed what is one = subst (λ (l : ListedEvent). IsOne l what) (sym is) one

pinned_more : (list : List Listed) (c : Count) (next : Listed) (e : Entry) (past : List Entry) (call : Call) (reply : CallerReply) → slice_get list c.ended ≡ Some next → e.line ≡ next.line
    → next.event ≡ ListedEvent.Start call → c.pins ≡ 0 → HasPlayed list c.ended c.pins past
    → HasPlayed list (count_pinned reply c).ended (count_pinned reply c).pins (caller_of e (CallerEvent.Pin call) reply ∷ past)
pinned_more list c next e past call (CallerReply.Pinned number) get line is none before =
    up_more list c.ended c.pins next (caller_of e (CallerEvent.Pin call) (CallerReply.Pinned number)) past get line (record { call = call; start = is; pin = refl; reply = refl }) none before
pinned_more list c next e past call CallerReply.NoSnapshot get line is none before =
    pin_more list c.ended c.pins next (caller_of e (CallerEvent.Pin call) CallerReply.NoSnapshot) past get line (record { call = call; start = is; pin = refl; reply = refl }) none before
pinned_more list c next e past call (CallerReply.Routed number answer) get line is none before =
    pin_more list c.ended c.pins next (caller_of e (CallerEvent.Pin call) (CallerReply.Routed number answer)) past get line (record { call = call; start = is; pin = refl; reply = refl }) none before
pinned_more list c next e past call (CallerReply.Endpoint number child locality place) get line is none before =
    pin_more list c.ended c.pins next (caller_of e (CallerEvent.Pin call) (CallerReply.Endpoint number child locality place)) past get line (record { call = call; start = is; pin = refl; reply = refl }) none before
pinned_more list c next e past call (CallerReply.Queue number) get line is none before =
    pin_more list c.ended c.pins next (caller_of e (CallerEvent.Pin call) (CallerReply.Queue number)) past get line (record { call = call; start = is; pin = refl; reply = refl }) none before
pinned_more list c next e past call (CallerReply.Fail number reason) get line is none before =
    pin_more list c.ended c.pins next (caller_of e (CallerEvent.Pin call) (CallerReply.Fail number reason)) past get line (record { call = call; start = is; pin = refl; reply = refl }) none before
pinned_more list c next e past call (CallerReply.Drop number rule) get line is none before =
    pin_more list c.ended c.pins next (caller_of e (CallerEvent.Pin call) (CallerReply.Drop number rule)) past get line (record { call = call; start = is; pin = refl; reply = refl }) none before
pinned_more list c next e past call CallerReply.NotHeld get line is none before =
    pin_more list c.ended c.pins next (caller_of e (CallerEvent.Pin call) CallerReply.NotHeld) past get line (record { call = call; start = is; pin = refl; reply = refl }) none before
pinned_more list c next e past call CallerReply.Released get line is none before =
    pin_more list c.ended c.pins next (caller_of e (CallerEvent.Pin call) CallerReply.Released) past get line (record { call = call; start = is; pin = refl; reply = refl }) none before

called_more : (list : List Listed) (c : Count) (next : Listed) (e : Entry) (past : List Entry) (event : CallerEvent) (reply : CallerReply) → slice_get list c.ended ≡ Some next → e.line ≡ next.line
    → IsCallStep event next.event c.pins → HasPlayed list c.ended c.pins past
    → HasPlayed list (count_called event reply c).ended (count_called event reply c).pins (caller_of e event reply ∷ past)
called_more list c next e past (CallerEvent.Pin call) reply get line is before = pinned_more list c next e past call reply get line is.0 is.1 before
called_more list c next e past (CallerEvent.Hold call) reply get line is before =
    held_more list c.ended c.pins next (caller_of e (CallerEvent.Hold call) reply) past get line (record { call = call; start = is.0; hold = refl }) is.1 before
called_more list c next e past (CallerEvent.Pick id word) reply get line is before =
    one_more list c.ended c.pins next (caller_of e (CallerEvent.Pick id word) reply) past get line
    (is_one (ListedEvent.Pick id word) next.event (What.Caller (CallerEvent.Pick id word) reply) is.0 refl) is.1 before
called_more list c next e past (CallerEvent.Commit id) reply get line is before =
    one_more list c.ended c.pins next (caller_of e (CallerEvent.Commit id) reply) past get line
    (is_one (ListedEvent.Commit id) next.event (What.Caller (CallerEvent.Commit id) reply) is.0 refl) is.1 before

stepped : (list : List Listed) (c : Count) (next : Listed) (actor line : ℕ) (what : What) (past : List Entry) → slice_get list c.ended ≡ Some next → line ≡ next.line
    → IsStep (step_in what) next.event c.pins → HasPlayed list c.ended c.pins past
    → HasPlayed list (count_after what c).ended (count_after what c).pins (record { actor = actor; line = line; what = what } ∷ past)
stepped list c next actor line (What.Driver event reply) past get is step before =
    one_more list c.ended c.pins next (record { actor = actor; line = line; what = What.Driver event reply }) past get is
    (is_one (ListedEvent.Driver event) next.event (What.Driver event reply) step.0 refl) step.1 before
stepped list c next actor line (What.Caller event reply) past get is step before =
    called_more list c next (record { actor = actor; line = line; what = What.Caller event reply }) past event reply get is step before

-- ---- all actors

by_actor : (list : List Listed) (b : Bool) (next c : Count) (e : Entry) (es : List Entry) → (b ≡ true → HasPlayed list next.ended next.pins (e ∷ es)) → HasPlayed list c.ended c.pins es
    → HasPlayed list (if b then next else c).ended (if b then next else c).pins (if b then e ∷ es else es)
by_actor list true next c e es new old = new refl
by_actor list false next c e es new old = old

abbrev PlayedBy : ℕ → List Listed → List Entry → Type 0
PlayedBy actor list history = HasPlayed list (count_of actor history).ended (count_of actor history).pins (actor_entries actor history)

own_more : (plan : List (List Listed)) (e : Entry) (past : List Entry) (actor : ℕ) (list : List Listed) → slice_get plan actor ≡ Some list → e.actor ≡ actor
    → IsNextOf plan e.actor (count_of e.actor past) e.line (step_in e.what) past → PlayedBy actor list past
    → HasPlayed list (count_after e.what (count_of actor past)).ended (count_after e.what (count_of actor past)).pins (e ∷ actor_entries actor past)
own_more plan e past actor list get own next before =
    let c : Count = count_of actor past in
    let of : IsListed plan actor c next.listed = subst (λ (a : ℕ). IsListed plan a (count_of a past) next.listed) own next.is in
    let same : of.list ≡ list = cc (of.actor_is, get) in
    let step : IsStep (step_in e.what) next.listed.event c.pins = subst (λ (a : ℕ). IsStep (step_in e.what) next.listed.event (count_of a past).pins) own next.step_is in
    stepped list c next.listed e.actor e.line e.what (actor_entries actor past) (subst (λ (l : List Listed). slice_get l c.ended ≡ Some next.listed) same of.next_is) next.line_is step before

plan_goes_on : (plan : List (List Listed)) (e : Entry) (past : List Entry) → IsPlanPlayed plan past → IsNextOf plan e.actor (count_of e.actor past) e.line (step_in e.what) past → IsPlanPlayed plan (e ∷ past)
plan_goes_on plan e past before next = record {
  played = λ actor list get.
      by_actor list (e.actor == actor) (count_after e.what (count_of actor past)) (count_of actor past) e (actor_entries actor past)
      (λ is. own_more plan e past actor list get (eqb-true e.actor actor is) next (before.played actor list get)) (before.played actor list get);
  gated = (record { listed = next.listed; is = next.is; gate = next.gate }, before.gated);
}

pub play_goes_on : PlayGoesOn
play_goes_on None e past before next = tt
play_goes_on (Some plan) e past before next = plan_goes_on plan e past before next

-- ---- nothing has been played

pub nothing_played : (plan : Option (List (List Listed))) → IsPlayed plan []
nothing_played None = tt
nothing_played (Some plan) = record { played = λ actor list get. played.none; gated = tt }
