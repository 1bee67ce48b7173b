-- The beginning, and the end with the last sweep.
use Rattle.std.proofs.Common.{◌≡◌, ◌<◌, ◌≤◌, ℕ, zero, suc, ◌+◌, List, [], ◌∷◌, ◌++◌, length, map, drop, All, Bool, true, false, Option, Some, None, refl, sym, ap, ◌∙◌, subst, arith, not-suc-le-zero}
use Rattle.std.proofs.lemmas.Bool.{cond-true, cond-false}
use Rattle.std.specs.Prelude.{◌==◌}
use Rattle.std.specs.List.{range_with_len, slice_get}
use Rattle.std.proofs.lemmas.List.{drop_all}
use Rattle.std.proofs.lemmas.List.FromFn.{length-map-range_with_len}
use Rattle.std.proofs.lemmas.Option.{slice_get_within}
use Rattle.call_journal.specs.declared.event.DriverEvent.{DriverEvent}
use Rattle.call_journal.specs.declared.reply.DriverReply.{DriverReply}
use Rattle.call_journal.specs.declared.entry.What.{What}
use Rattle.call_journal.specs.declared.entry.Entry.{Entry}
use Rattle.call_journal.specs.declared.plan.Listed.{Listed}
use Rattle.call_journal.specs.declared.plan.ListedEvent.{ListedEvent}
use Rattle.call_journal.specs.declared.reply.CallerReply.{CallerReply}
use Rattle.session_lines.specs.Before.{entries}
use Rattle.session_lines.specs.declared.session.Line.{Line}
use Rattle.session_lines.specs.declared.session.Session.{Session}
use Rattle.session_script.specs.Plan as script
use Rattle.session_script.specs.Plan.{Streams, driver_list, entries_by, last_sweep, none_up}
use Rattle.session_plan.specs.PlanLaws.{HaveEnded}
use Rattle.session_plan.specs.PlanOfSession.{caller_plan, driver_plan, plan_item, plan_of}
use Rattle.session_plan.specs.PlayedEvents as events
use Rattle.session_plan.specs.ReadablePayloads.{is_response}
use Rattle.session_plan.proofs.DriverLemmas.{list_end}
use Rattle.session_plan.proofs.LawProofs.{caller_at}
use Rattle.legal_plan.specs.legal_history.Legal.{AreOpen, EndsInSweep}
use Rattle.legal_plan.proofs.LegalityProofs.{ended_plan_is_legal}
use Rattle.book_progress.specs.ActorCounts.{actor_entries, count_of}
use Rattle.book_progress.specs.PlayedPlans as played
use Rattle.book_progress.specs.PlayedPlans.{IsNextOf, IsPlanPlayed, driver}
use Rattle.session_shape.specs.SessionShape.{IsWellFormed}
use Rattle.session_player.specs.LineProgress.{HaveLeft, IsAtEnd, IsAtLine, IsLeft, left_of}
use Rattle.session_player.specs.PlayerLaws.{EndIsLegal}
use Rattle.session_player.proofs.DrivenLemmas.{other_count, own_count}
use Rattle.session_player.proofs.LeftLemmas.{left_none, next_of, one_left, same_left}
use Rattle.session_player.proofs.OpenLemmas.{open_more}
use Rattle.session_player.proofs.ShapeLemmas.{no_gate}

-- ---- the beginning

all_left : (session : Session) (actor : ℕ) (list : List Listed) → slice_get (plan_of is_response session) actor ≡ Some list → list ≡ left_of none_up session.lines actor
all_left session zero list get = cc get
all_left session (suc k) list get =
    let within : k < length (map (caller_plan session.lines) (range_with_len 1 session.callers)) = slice_get_within (map (caller_plan session.lines) (range_with_len 1 session.callers)) k list get in
    let less : k < session.callers = subst (λ (n : ℕ). k < n) (length-map-range_with_len (caller_plan session.lines) 1 session.callers) within in
    cc (get, caller_at session.lines session.callers k less)

pub begins : (session : Session) → IsWellFormed session → IsAtLine session 0 []
begins session formed = record {
  streams = none_up;
  left = record {
    each = λ actor list get. record { front = []; whole = all_left session actor list get; many = refl };
    pins = λ actor. refl;
  };
  ended = λ line least less. absurd (not-suc-le-zero (none_between line least less));
  opened = tt;
  begun = λ id new. refl;
  few = (let few = formed.few in omega (arith, few));
}
  where
    none_between : (line : ℕ) → 5 ≤ line → line < 0 + 5 → suc zero ≤ zero
    none_between line least less = omega (arith, least, less)

-- ---- the end

last_by : (session : Session) (streams : Streams) (lines : List Line) → lines ≡ [] → left_of streams lines 0 ≡ plan_item last_sweep ∷ []
last_by session streams lines none = ap (λ (ls : List Line). left_of streams ls 0) none ∙ list_end is_response streams

no_more : (session : Session) (streams : Streams) (lines : List Line) → lines ≡ [] → (k : ℕ) → (0 == k) ≡ false → left_of streams lines k ≡ []
no_more session streams lines none zero other = absurd (cc other)
no_more session streams lines none (suc k) other = ap (λ (ls : List Line). left_of streams ls (suc k)) none

pub sweep_next : (session : Session) (place : ℕ) (history : List Entry) → length session.lines ≤ place → IsAtLine session place history
    → IsNextOf (plan_of is_response session) 0 (count_of 0 history) 0 (driver DriverEvent.Sweep) history
sweep_next session place history all at =
    next_of (plan_of is_response session) (left_of at.streams (drop place session.lines)) 0 (driver_plan is_response session.lines) (plan_item last_sweep) [] 0 (driver DriverEvent.Sweep) history at.left refl
    (last_by session at.streams (drop place session.lines) (drop_all place session.lines all)) refl (refl, refl) tt

abbrev sweep_of : DriverReply → Entry
sweep_of reply = record { actor = 0; line = 0; what = What.Driver DriverEvent.Sweep reply }

pub swept : (session : Session) (place : ℕ) (history : List Entry) (reply : DriverReply) → IsWellFormed session → length session.lines ≤ place → IsAtLine session place history → IsAtEnd session (sweep_of reply ∷ history)
swept session place history reply formed all at = record {
  left = one_left (plan_of is_response session) (left_of at.streams (drop place session.lines)) (λ k. []) 0 (plan_item last_sweep) history (sweep_of reply ∷ history) at.left
      (last_by session at.streams (drop place session.lines) (drop_all place session.lines all))
      (no_more session at.streams (drop place session.lines) (drop_all place session.lines all))
      (own_count 0 0 (What.Driver DriverEvent.Sweep reply) history) (other_count 0 0 (What.Driver DriverEvent.Sweep reply) history);
  opened = open_more session.lines (sweep_of reply) history None (no_gate session.boot session.callers session.lines formed.lines) (tt, tt) at.opened;
}

-- ---- a legal history

got : (what : What) → events.got_snapshot what ≡ played.got_snapshot what
got (What.Driver event reply) = refl
got (What.Caller event CallerReply.NoSnapshot) = refl
got (What.Caller event (CallerReply.Pinned number)) = refl
got (What.Caller event (CallerReply.Routed number answer)) = refl
got (What.Caller event (CallerReply.Endpoint number child locality place)) = refl
got (What.Caller event (CallerReply.Queue number)) = refl
got (What.Caller event (CallerReply.Fail number reason)) = refl
got (What.Caller event (CallerReply.Drop number rule)) = refl
got (What.Caller event CallerReply.NotHeld) = refl
got (What.Caller event CallerReply.Released) = refl

same_driver : (what : What) → script.driver_event what ≡ played.driver_event what
same_driver (What.Driver event reply) = refl
same_driver (What.Caller event reply) = refl

same_caller : (what : What) → script.caller_event what ≡ played.caller_event what
same_caller (What.Driver event reply) = refl
same_caller (What.Caller event reply) = refl

one_of : (listed : ListedEvent) (what : What) → played.IsOne listed what → events.IsOne listed what
one_of (ListedEvent.Driver event) what is = same_driver what ∙ is
one_of (ListedEvent.Start call) what is = absurd is
one_of (ListedEvent.Pick id word) what is = same_caller what ∙ is
one_of (ListedEvent.Commit id) what is = same_caller what ∙ is

pin_of : (listed : ListedEvent) (what : What) (b : Bool) → played.IsPin listed what b → events.IsPin listed what b
pin_of listed what b is = record { call = is.call; start = is.start; pin = same_caller what ∙ is.pin; reply = got what ∙ is.reply }

hold_of : (listed : ListedEvent) (what : What) → played.IsHold listed what → events.IsHold listed what
hold_of listed what is = record { call = is.call; start = is.start; hold = same_caller what ∙ is.hold }

-- the two words for the first events of a list
one_behind : (list : List Listed) (n : ℕ) (past : List Entry) → events.HasPlayed list (suc n) 0 past → events.HasPlayed list (n + 1) 0 past
one_behind list n past h = let same : suc n ≡ n + 1 = omega arith in subst (λ (m : ℕ). events.HasPlayed list m 0 past) same h

played_of : (list : List Listed) (n pins : ℕ) (past : List Entry) → played.HasPlayed list n pins past → events.HasPlayed list n pins past
played_of list _ _ _ played.none = events.none
played_of list _ _ _ (played.one n next e past get line event before) =
    one_behind list n (e ∷ past) (events.one n next e past get line (one_of next.event e.what event) (played_of list n 0 past before))
played_of list _ _ _ (played.pin n next e past get line event before) =
    one_behind list n (e ∷ past) (events.pin n next e past get line (pin_of next.event e.what false event) (played_of list n 0 past before))
played_of list _ _ _ (played.up n next e past get line event before) = events.up n next e past get line (pin_of next.event e.what true event) (played_of list n 0 past before)
played_of list _ _ _ (played.held n next e past get line event before) =
    one_behind list n (e ∷ past) (events.held n next e past get line (hold_of next.event e.what event) (played_of list n 1 past before))

ended_by : (session : Session) (history : List Entry) (actor : ℕ) (list : List Listed) → IsPlanPlayed (plan_of is_response session) history → IsAtEnd session history
    → slice_get (plan_of is_response session) actor ≡ Some list → events.HasPlayed list (length list) 0 (entries_by actor history)
ended_by session history actor list plays end get =
    let before = played_of list (count_of actor history).ended (count_of actor history).pins (actor_entries actor history) (plays.played actor list get) in
    let all : (count_of actor history).ended ≡ length list = left_none list (count_of actor history).ended (end.left.each actor list get) in
    subst (λ (n : ℕ). events.HasPlayed list n 0 (entries_by actor history)) all
    (subst (λ (p : ℕ). events.HasPlayed list (count_of actor history).ended p (entries_by actor history)) (end.left.pins actor) before)

pub end_is_legal : EndIsLegal
end_is_legal session history right plays actors end sweeps =
    ended_plan_is_legal session history right (record { actors = actors; each = λ actor list get. ended_by session history actor list plays end get }) end.opened sweeps
