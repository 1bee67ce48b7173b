-- A hold stands behind a pin exactly where the pin got a snapshot.
use Rattle.std.proofs.Common.{◌≡◌, ℕ, List, [], ◌∷◌, true, false, Bool, Option, Some, None, refl, sym, ◌∙◌}
use Rattle.call_journal.specs.declared.event.CallerEvent.{CallerEvent}
use Rattle.call_journal.specs.declared.reply.CallerReply.{CallerReply}
use Rattle.call_journal.specs.declared.entry.Entry.{Entry}
use Rattle.call_journal.specs.declared.entry.What.{What}
use Rattle.call_journal.specs.declared.plan.Listed.{Listed}
use Rattle.call_journal.specs.declared.plan.ListedEvent.{ListedEvent}
use Rattle.call_journal.specs.declared.plan.ListedEvent.TheVariants as listed
use Rattle.xc_base.specs.declared.call.Call.{Call}
use Rattle.legal_history.specs.session_script.Plan.{caller_event, driver_event}
use Rattle.legal_history.specs.Legal.{AreStarted, IsStarted, begins_with_hold, is_hold, is_pinned}
use Rattle.session_plan.specs.PlayedEvents.{IsOne, IsPin, IsHold, Plays, got_snapshot, is_snapshot}
use Rattle.session_plan.specs.PlayedEvents as played

one_no_hold : (event : ListedEvent) (w : What) → IsOne event w → is_hold w ≡ false
one_no_hold (listed.Driver event) (What.Driver other reply) h = refl
one_no_hold (listed.Driver event) (What.Caller other reply) h = absurd (cc h)
one_no_hold (listed.Start call) w h = absurd h
one_no_hold (listed.Pick id word) (What.Driver other reply) h = refl
one_no_hold (listed.Pick id word) (What.Caller (CallerEvent.Pin call) reply) h = refl
one_no_hold (listed.Pick id word) (What.Caller (CallerEvent.Hold call) reply) h = absurd (cc h)
one_no_hold (listed.Pick id word) (What.Caller (CallerEvent.Pick other draws) reply) h = refl
one_no_hold (listed.Pick id word) (What.Caller (CallerEvent.Commit other) reply) h = refl
one_no_hold (listed.Commit id) (What.Driver other reply) h = refl
one_no_hold (listed.Commit id) (What.Caller (CallerEvent.Pin call) reply) h = refl
one_no_hold (listed.Commit id) (What.Caller (CallerEvent.Hold call) reply) h = absurd (cc h)
one_no_hold (listed.Commit id) (What.Caller (CallerEvent.Pick other draws) reply) h = refl
one_no_hold (listed.Commit id) (What.Caller (CallerEvent.Commit other) reply) h = refl

one_started : (event : ListedEvent) (w : What) (later : List Entry) → IsOne event w → IsStarted w later
one_started event (What.Driver other reply) later h = tt
one_started event (What.Caller (CallerEvent.Hold call) reply) later h = tt
one_started event (What.Caller (CallerEvent.Pick other draws) reply) later h = tt
one_started event (What.Caller (CallerEvent.Commit other) reply) later h = tt
one_started (listed.Driver event) (What.Caller (CallerEvent.Pin call) reply) later h = absurd (cc h)
one_started (listed.Start start) (What.Caller (CallerEvent.Pin call) reply) later h = absurd h
one_started (listed.Pick id word) (What.Caller (CallerEvent.Pin call) reply) later h = absurd (cc h)
one_started (listed.Commit id) (What.Caller (CallerEvent.Pin call) reply) later h = absurd (cc h)

same_reply : (r : CallerReply) → is_snapshot r ≡ is_pinned r
same_reply (CallerReply.Pinned number) = refl
same_reply CallerReply.NoSnapshot = refl
same_reply (CallerReply.Routed number answer) = refl
same_reply (CallerReply.Endpoint number child locality place) = refl
same_reply (CallerReply.Queue number) = refl
same_reply (CallerReply.Fail number reason) = refl
same_reply (CallerReply.Drop number rule) = refl
same_reply CallerReply.NotHeld = refl
same_reply CallerReply.Released = refl

pin_started : (w : What) (later : List Entry) (call : Call) → caller_event w ≡ Some (CallerEvent.Pin call) → begins_with_hold later ≡ got_snapshot w → IsStarted w later
pin_started (What.Driver other reply) later call is h = tt
pin_started (What.Caller (CallerEvent.Pin started) reply) later call is h = h ∙ same_reply reply
pin_started (What.Caller (CallerEvent.Hold started) reply) later call is h = tt
pin_started (What.Caller (CallerEvent.Pick other draws) reply) later call is h = tt
pin_started (What.Caller (CallerEvent.Commit other) reply) later call is h = tt

pin_no_hold : (w : What) (call : Call) → caller_event w ≡ Some (CallerEvent.Pin call) → is_hold w ≡ false
pin_no_hold (What.Driver other reply) call is = refl
pin_no_hold (What.Caller (CallerEvent.Pin started) reply) call is = refl
pin_no_hold (What.Caller (CallerEvent.Hold started) reply) call is = absurd (cc is)
pin_no_hold (What.Caller (CallerEvent.Pick other draws) reply) call is = refl
pin_no_hold (What.Caller (CallerEvent.Commit other) reply) call is = refl

hold_is : (w : What) (call : Call) → caller_event w ≡ Some (CallerEvent.Hold call) → is_hold w ≡ true
hold_is (What.Driver other reply) call is = absurd (cc is)
hold_is (What.Caller (CallerEvent.Pin started) reply) call is = absurd (cc is)
hold_is (What.Caller (CallerEvent.Hold started) reply) call is = refl
hold_is (What.Caller (CallerEvent.Pick other draws) reply) call is = absurd (cc is)
hold_is (What.Caller (CallerEvent.Commit other) reply) call is = absurd (cc is)

hold_started : (w : What) (later : List Entry) (call : Call) → caller_event w ≡ Some (CallerEvent.Hold call) → IsStarted w later
hold_started (What.Driver other reply) later call is = tt
hold_started (What.Caller (CallerEvent.Pin started) reply) later call is = absurd (cc is)
hold_started (What.Caller (CallerEvent.Hold started) reply) later call is = tt
hold_started (What.Caller (CallerEvent.Pick other draws) reply) later call is = tt
hold_started (What.Caller (CallerEvent.Commit other) reply) later call is = tt

begins : (ls : List Listed) (es : List Entry) → Plays ls es → begins_with_hold es ≡ false
begins [] _ played.all = refl
begins (l ∷ ls) _ (played.one _ _ e es line event rest) = one_no_hold l.event e.what event
begins (l ∷ ls) _ (played.pin _ _ e es line event rest) = pin_no_hold e.what event.call event.pin
begins (l ∷ ls) _ (played.start _ _ e f es line event again hold rest) = pin_no_hold e.what event.call event.pin

pub plays_started : (ls : List Listed) (es : List Entry) → Plays ls es → AreStarted es
plays_started [] _ played.all = tt
plays_started (l ∷ ls) _ (played.one _ _ e es line event rest) = (one_started l.event e.what es event, plays_started ls es rest)
plays_started (l ∷ ls) _ (played.pin _ _ e es line event rest) = (pin_started e.what es event.call event.pin (begins ls es rest ∙ sym event.reply), plays_started ls es rest)
plays_started (l ∷ ls) _ (played.start _ _ e f es line event again hold rest) =
    (pin_started e.what (f ∷ es) event.call event.pin (hold_is f.what hold.call hold.hold ∙ sym event.reply), (hold_started f.what es hold.call hold.hold, plays_started ls es rest))
