-- What the steps of a Book make at a seat.
use Rattle.std.proofs.Common.{◌≡◌, ◌<◌, ℕ, ◌-◌, List, [], Option, Some, None, Result, Ok, Err, refl, sym, subst, ap, ◌∙◌}
use Rattle.std.specs.Prelude.{IfNone, IfSome, OnOk}
use Rattle.xc_base.specs.declared.call.Call.{Call}
use Rattle.call_journal.specs.declared.event.CallerEvent.{CallerEvent}
use Rattle.call_journal.specs.declared.reply.CallerReply.{CallerReply}
use Rattle.call_journal.specs.declared.entry.What.{What}
use Rattle.call_journal.specs.declared.plan.Listed.{Listed}
use Rattle.call_journal.specs.declared.plan.ListedEvent.{ListedEvent}
use Rattle.turn_steps.specs.xds_history.Setting.{Setting}
use Rattle.book_progress.specs.ActorCounts.{count_called}
use Rattle.session_player.specs.xds_book.BookEntries.{Makes, answered_call}
use Rattle.session_player.specs.xds_book.BookViews.{BookView, LaneView}
use Rattle.turn_steps.specs.channel_calls.ChannelPlans.{HasListed, HasUp}
use Rattle.turn_player.specs.TurnPlans.{SeatView, UpView}
use Rattle.turn_player.specs.DueEvents.{IsOf, MakesTurn, called}

if_none : {X : Type 0} (o : Option X) (P : Type 0) → P → IfNone o P
if_none None P holds = holds
if_none (Some x) P holds = tt

-- what is listed next tells how many pins are up
pub pins_of : (plan : Option (List (List Listed))) (lane : LaneView) (pins line : ℕ) (after : Option ℕ) (event : ListedEvent) → HasListed plan lane pins line after event → lane.count.pins ≡ pins
pins_of None lane pins line after event has = absurd has
pins_of (Some plan) lane pins line after event has = has.pins_are

-- ---- callers

called_of : (actor : ℕ) (event : CallerEvent) → 0 < actor → IsOf actor (called event)
called_of actor (CallerEvent.Pin call) own = own
called_of actor (CallerEvent.Hold call) own = own
called_of actor (CallerEvent.Pick id word) own = own
called_of actor (CallerEvent.Commit id) own = own

pub calls_turn : (line : ℕ) (event : CallerEvent) (reply : CallerReply) (old new : BookView) (seat later : SeatView) → Makes line (What.Caller event reply) old new seat.lane later.lane
    → (count_called event reply seat.lane.count).pins ≡ 0 → 0 < seat.lane.actor → MakesTurn line (called event) [] old new seat later
calls_turn line event reply old new seat later makes none own = record {
  what = What.Caller event reply;
  event_is = refl;
  makes = makes;
  refused = refl;
  free = if_none later.up _ (ap (λ (l : LaneView). l.count.pins) makes.lane ∙ none);
  of = called_of seat.lane.actor event own;
}

-- a hold, of the call whose pin is up
held_turn : (plan : Option (List (List Listed))) (line : ℕ) (after : Option ℕ) (call : Call) (reply : CallerReply) (old new : BookView) (seat later : SeatView) → HasUp plan seat.lane line after call → 0 < seat.lane.actor
    → Makes line (What.Caller (CallerEvent.Hold call) reply) old new seat.lane later.lane → MakesTurn line (ListedEvent.Start call) [] old new seat later
held_turn plan line after call reply old new seat later has own makes =
    calls_turn line (CallerEvent.Hold call) reply old new seat later makes (ap (λ (n : ℕ). n - 1) (pins_of plan seat.lane 1 line after (ListedEvent.Start call) has)) own

pub hold_turn : {T E : Type 0} (result : Result T E) (s : Setting) (plan : Option (List (List Listed))) (old new : BookView) (seat now later : SeatView) (up : UpView) → seat ≡ now → seat.up ≡ Some up
    → HasUp plan seat.lane up.line up.after up.token.call → 0 < seat.lane.actor → OnOk result (Makes up.line (answered_call s old.entries (CallerEvent.Hold up.token.call)) old new seat.lane later.lane)
    → OnOk result (IfSome now.up (λ u. MakesTurn u.line (ListedEvent.Start u.token.call) [] old new now later))
hold_turn (Err halt) s plan old new seat now later up same is has own makes = tt
hold_turn (Ok value) s plan old new seat now later up same is has own makes =
    let turn : IfSome seat.up (λ u. MakesTurn u.line (ListedEvent.Start u.token.call) [] old new seat later) =
    subst (λ (o : Option UpView). IfSome o (λ u. MakesTurn u.line (ListedEvent.Start u.token.call) [] old new seat later)) (sym is) (held_turn plan up.line up.after up.token.call _ old new seat later has own makes) in
    subst (λ (x : SeatView). IfSome x.up (λ u. MakesTurn u.line (ListedEvent.Start u.token.call) [] old new x later)) same turn
