-- What the turns of any report leave of a session's plan: all is played but the last sweep, or they begin a legal history.
use Rattle.std.proofs.Common.{◌≡◌, ◌≢◌, ◌⊎◌, ◌<◌, ◌≤◌, ◌+◌, ◌-◌, ◌^◌, ℕ, zero, suc, List, [], ◌∷◌, ◌++◌, length, map, get_or, drop, All, Option, Some, None, Result, Ok, Err, refl, sym, ap, ◌∙◌, subst, inl, inr, arith}
use Rattle.std.specs.Prelude.{IfOk, IfSome, slice_get}
use Rattle.std.specs.List.{range_with_len}
use Rattle.std.proofs.lemmas.List.{length-map}
use Rattle.std.proofs.lemmas.List.Elements.{All-map, All-nil}
use Rattle.std.proofs.lemmas.Option.{get_or_from_slice_get, slice_get-get_or, slice_get_within}
use Rattle.call_journal.specs.declared.entry.Entry.{Entry}
use Rattle.call_journal.specs.declared.event.DriverEvent.{DriverEvent}
use Rattle.call_journal.specs.declared.plan.Count.{Count}
use Rattle.call_journal.specs.declared.plan.Listed.{Listed}
use Rattle.xds_bootstrap.specs.declared.bootstrap.Bootstrap.{Bootstrap}
use Rattle.xds_name.specs.declared.target.Target.{Target}
use Rattle.session_lines.specs.declared.session.Session.{Session}
use Rattle.session_plan.specs.PlanOfSession.{plan_of}
use Rattle.session_plan.specs.ReadablePayloads.{is_response}
use Rattle.report_replay.specs.session_player.Stages.{IsOfSession}
use Rattle.report_replay.proofs.session_player.ScriptLemmas.{actors_of}
use Rattle.report_replay.specs.xds_history.Pages.{pages}
use Rattle.report_replay.specs.xds_history.References.{snapshots_of}
use Rattle.report_replay.specs.xds_history.Right.{Right}
use Rattle.cluster_tree.specs.declared.snapshot.Snapshot.{Snapshot}
use Rattle.snapshot_store.specs.Tickets.{values_of}
use Rattle.boxcar.specs.Table.{Where}
use Rattle.report_replay.specs.xds_history.Setting.{Setting, setting_of}
use Rattle.book_progress.specs.ActorCounts.{count_of}
use Rattle.book_progress.specs.PlayedPlans.{IsListed, IsPlanPlayed, IsPlayed, driver}
use Rattle.book_progress.specs.ProgressKept.{most_entries}
use Rattle.book_progress.proofs.TallyLemmas.{count_is}
use Rattle.report_replay.specs.planned_calls.PlannedCalls.{plan_entries}
use Rattle.report_replay.proofs.planned_calls.RoomProofs.{next_has_room}
use Rattle.report_replay.specs.completion_law.CompletionLaw.{BeginsLegal, GoesOn, HasNoSweep, IsAtSweep, IsLegalSoFar}
use Rattle.report_replay.proofs.completion_law.SweepNext.{always_goes_on}
use Rattle.report_replay.proofs.completion_law.CompletionProofs.{legal_so_far_begins_legal}
use Rattle.report_replay.specs.text_law.TextLaw.{text_of}
use Rattle.report_replay.specs.front_law.FrontLaw.{IsFrontOf}
use Rattle.report_replay.proofs.front_law.FrontProofs.{front_is_reported}
use Rattle.report_replay.proofs.front_law.Fronts.{front_of_front}
use Rattle.report_replay.specs.report_writer.JournalReport.{entries_report}
use Rattle.report_replay.specs.legal_history.Legal.{Legal}
use Rattle.report_replay.specs.report_compare.FirstLines.{first_lines}
use Rattle.report_replay.specs.report_compare.LegalReports.{BeginsReport}
use Rattle.report_replay.specs.report_compare.declared.mistakes.Mistake.{Mistake}
use Rattle.report_replay.specs.xds_book.BookEntries.{IsLaneOf, first_lane}
use Rattle.report_replay.specs.xds_book.BookKept.{HasActors}
use Rattle.report_replay.specs.xds_book.BookViews.{BookView, LaneView}
use Rattle.closed_book.specs.channel_calls.ChannelPlans.{HasChannelPlan}
use Rattle.report_replay.specs.turn_player.TurnPlans.{IsTurnPlan, SeatView}
use Rattle.report_replay.specs.turn_player.TableSeats.{AreSeated, HasNoLineLeft, IsSeatOf, free_seat}
use Rattle.report_replay.specs.ReplayedTurns.{HasCome, HasNoneLeft, IsUnderWay}
use Rattle.report_replay.proofs.BeginLemmas.{come_first}
use Rattle.closed_book.specs.ReadyBooks.{IsCallerOf, IsReadyToClose}
use Rattle.judged_session.specs.JudgedTurns.{IsAllPlayed, IsFirst}
use Rattle.judged_session.proofs.SessionPlans.{turn_plan_of}

-- ---- before the first turn

pub first_is_under_way : (callers : ℕ) (book : BookView) (lanes : List LaneView) (seats : List SeatView) → IsFirst callers book → lanes ≡ map first_lane (range_with_len 0 (callers + 1)) → seats ≡ map free_seat lanes
    → IsUnderWay book seats
first_is_under_way callers book lanes seats first lanes_are seats_are =
    let come : HasCome [] book seats = come_first (callers + 1) first.room book lanes seats first.is lanes_are seats_are in
    record {
      seated = come.seated;
      goes_on = come.goes_on;
      no_sweep = subst (λ (es : List Entry). HasNoSweep es) (sym come.entries) (All-nil (λ (e : Entry). e.line ≡ 0 → ⊥));
    }

-- ---- the seat of an actor

record HasSeat (seats : List SeatView) (actor : ℕ) : Type 0 where
  seat : SeatView
  at : slice_get seats actor ≡ Some seat

has_seat : (seats : List SeatView) (actor : ℕ) → actor < length seats → HasSeat seats actor
has_seat [] actor less = absurd (omega (arith, less))
has_seat (first ∷ rest) actor less = record { seat = get_or (first ∷ rest) actor first; at = slice_get-get_or (first ∷ rest) actor first less }

lists_many : (plan : Option (List (List Listed))) (boot : Bootstrap) (target : Target) (session : Session) (lists : List (List Listed)) (n : ℕ) → IsOfSession plan boot target session lists → HasActors plan n → length lists ≡ n
lists_many plan boot target session lists n of actors = subst (λ (p : Option (List (List Listed))). HasActors p n) of.plan_is actors

-- its lane counts what the entries do
count_at_seat : (book : BookView) (seats : List SeatView) (actor : ℕ) (seat : SeatView) → AreSeated book seats → slice_get seats actor ≡ Some seat → seat.lane.count ≡ count_of actor book.entries
count_at_seat book seats actor seat seated at =
    let stood : IsSeatOf book actor seat = seated.each actor seat at in
    count_is (length book.counts) book.entries book.counts seat.lane.actor seat.lane.count seated.counted stood.own ∙ ap (λ (a : ℕ). count_of a book.entries) stood.actor_is

-- ---- where no line is left, the last sweep comes next

no_line_is_left : (lists : List (List Listed)) (book : BookView) (seats : List SeatView) → length lists ≡ length book.counts → HasNoneLeft lists book seats → GoesOn lists book.entries → ⊥
no_line_is_left lists book seats many left goes =
    let seated : AreSeated book seats = left.under_way.seated in
    let less : goes.actor < length seats = subst (λ (n : ℕ). goes.actor < n) (many ∙ sym seated.many) (slice_get_within lists goes.actor goes.next.is.list goes.next.is.actor_is) in
    let has : HasSeat seats goes.actor = has_seat seats goes.actor less in
    let stood : IsSeatOf book goes.actor has.seat = seated.each goes.actor has.seat has.at in
    let count : has.seat.lane.count ≡ count_of goes.actor book.entries = count_at_seat book seats goes.actor has.seat seated has.at in
    let none : HasNoLineLeft lists has.seat = subst (λ (s : SeatView). HasNoLineLeft lists s) (get_or_from_slice_get seats goes.actor has.seat has.seat has.at) (left.none goes.actor has.seat less) in
    let one : IsListed lists goes.actor has.seat.lane.count goes.next.listed = subst (λ (c : Count). IsListed lists goes.actor c goes.next.listed) (sym count) goes.next.is in
    let two : IsListed lists has.seat.lane.actor has.seat.lane.count goes.next.listed = subst (λ (a : ℕ). IsListed lists a has.seat.lane.count goes.next.listed) (sym stood.actor_is) one in
    goes.numbered (goes.next.line_is ∙ none stood.free goes.next.listed two)

sweep_by : (lists : List (List Listed)) (book : BookView) (seats : List SeatView) → length lists ≡ length book.counts → HasNoneLeft lists book seats → GoesOn lists book.entries ⊎ IsAtSweep lists book.entries → IsAtSweep lists book.entries
sweep_by lists book seats many left (inl goes) = absurd (no_line_is_left lists book seats many left goes)
sweep_by lists book seats many left (inr at) = at

pub at_sweep : (plan : Option (List (List Listed))) (boot : Bootstrap) (target : Target) (session : Session) (lists : List (List Listed)) (book : BookView) (seats : List SeatView) → IsOfSession plan boot target session lists
    → HasActors plan (length book.counts) → IsPlayed plan book.entries → HasNoneLeft lists book seats → IsAtSweep lists book.entries
at_sweep plan boot target session lists book seats of actors plays left =
    let played : IsPlanPlayed lists book.entries = subst (λ (p : Option (List (List Listed))). IsPlayed p book.entries) of.plan_is plays in
    let own : IsPlanPlayed (plan_of is_response session) book.entries = subst (λ (ls : List (List Listed)). IsPlanPlayed ls book.entries) of.lists_are played in
    let goes : GoesOn (plan_of is_response session) book.entries ⊎ IsAtSweep (plan_of is_response session) book.entries = always_goes_on session book.entries of.formed.lines own left.under_way.no_sweep in
    sweep_by lists book seats (lists_many plan boot target session lists (length book.counts) of actors) left
    (subst (λ (ls : List (List Listed)). GoesOn ls book.entries ⊎ IsAtSweep ls book.entries) (sym of.lists_are) goes)

-- no pin is up then
pins_at : (lists : List (List Listed)) (past : List Entry) (actor : ℕ) (list : List Listed) → IsAtSweep lists past → slice_get lists actor ≡ Some list → (count_of actor past).pins ≡ 0
pins_at lists past zero list at get = ap (λ (c : Count). c.pins) (at.driven list get)
pins_at lists past (suc actor) list at get = ap (λ (c : Count). c.pins) (at.callers (suc actor) list (omega arith) get)

pub pins_are_down : (lists : List (List Listed)) (book : BookView) (seats : List SeatView) → length lists ≡ length book.counts → AreSeated book seats → IsAtSweep lists book.entries
    → All (λ (seat : SeatView). seat.lane.count.pins ≡ 0) seats
pins_are_down lists book seats many seated at = λ k d within.
    let seat : SeatView = get_or seats k d in
    let count : seat.lane.count ≡ count_of k book.entries = count_at_seat book seats k seat seated (slice_get-get_or seats k d within) in
    let less : k < length lists = subst (λ (n : ℕ). k < n) (seated.many ∙ sym many) within in
    ap (λ (c : Count). c.pins) count ∙ pins_at lists book.entries k (get_or lists k []) at (slice_get-get_or lists k [] less)

pub all_played : (plan : Option (List (List Listed))) (boot : Bootstrap) (target : Target) (session : Session) (lists : List (List Listed)) (book : BookView) (seats : List SeatView) (lanes : List LaneView)
    → IsOfSession plan boot target session lists → HasActors plan (length book.counts) → IsPlayed plan book.entries → HasNoneLeft lists book seats
    → (All (λ (seat : SeatView). seat.lane.count.pins ≡ 0) seats → lanes ≡ map (λ (seat : SeatView). seat.lane) seats) → IsAllPlayed lists book lanes
all_played plan boot target session lists book seats lanes of actors plays left lanes_are =
    let at : IsAtSweep lists book.entries = at_sweep plan boot target session lists book seats of actors plays left in
    record {
      seats = seats;
      under_way = left.under_way;
      at = at;
      lanes_are = lanes_are (pins_are_down lists book seats (lists_many plan boot target session lists (length book.counts) of actors) left.under_way.seated at);
    }

-- ---- the Book is ready to close

record HasSeats (seats : List SeatView) (driven : LaneView) (callers : List LaneView) : Type 0 where
  first : SeatView
  rest : List SeatView
  is : seats ≡ first ∷ rest
  driver_is : driven ≡ first.lane
  callers_are : callers ≡ map (λ (seat : SeatView). seat.lane) rest

has_seats : (seats : List SeatView) (driven : LaneView) (callers : List LaneView) → driven ∷ callers ≡ map (λ (seat : SeatView). seat.lane) seats → HasSeats seats driven callers
has_seats [] driven callers is = absurd (cc is)
has_seats (first ∷ rest) driven callers is = record {
  first = first;
  rest = rest;
  is = refl;
  driver_is = ap (λ (lanes : List LaneView). get_or lanes 0 driven) is;
  callers_are = ap (λ (lanes : List LaneView). drop 1 lanes) is;
}

seated_by : (book : BookView) (seats : List SeatView) (driven : LaneView) (callers : List LaneView) (has : HasSeats seats driven callers) → AreSeated book seats → AreSeated book (has.first ∷ has.rest)
seated_by book seats driven callers has seated = subst (λ (ss : List SeatView). AreSeated book ss) has.is seated

callers_of : (book : BookView) (first : SeatView) (rest : List SeatView) → AreSeated book (first ∷ rest) → All (IsCallerOf book) (map (λ (seat : SeatView). seat.lane) rest)
callers_of book first rest seated =
    All-map (IsCallerOf book) (λ (seat : SeatView). seat.lane) rest
    (λ k d within.
    let stood : IsSeatOf book (suc k) (get_or rest k d) = seated.each (suc k) (get_or rest k d) (slice_get-get_or rest k d within) in
    record {
      caller = subst (λ (a : ℕ). 0 < a) (sym stood.actor_is) (omega arith);
      own = stood.own;
    })

few_lists : (n callers : ℕ) → n ≡ callers + 1 → callers ≤ 16 → n ≤ 2 ^ 16
few_lists n callers is most = omega (arith, is, most)

within_most : (n planned most : ℕ) → n < planned → planned ≤ most → n < most
within_most n planned most less few = omega (arith, less, few)

by_lists : (plan : Option (List (List Listed))) (lists : List (List Listed)) (authorities : ℕ) → IsTurnPlan plan authorities lists → HasChannelPlan (Some lists) authorities most_entries
by_lists plan lists authorities turns = subst (λ (p : Option (List (List Listed))). HasChannelPlan p authorities most_entries) turns.planned turns.fits

pub is_ready : (plan : Option (List (List Listed))) (boot : Bootstrap) (target : Target) (session : Session) (lists : List (List Listed)) (book : BookView) (driven : LaneView) (callers lanes : List LaneView)
    → IsOfSession plan boot target session lists → HasActors plan (length book.counts) → IsPlayed plan book.entries → driven ∷ callers ≡ lanes → IsAllPlayed lists book lanes → IsReadyToClose lists book driven callers
is_ready plan boot target session lists book driven callers lanes of actors plays split all =
    let has : HasSeats all.seats driven callers = has_seats all.seats driven callers (split ∙ all.lanes_are) in
    let seated : AreSeated book (has.first ∷ has.rest) = seated_by book all.seats driven callers has all.under_way.seated in
    let stood : IsSeatOf book 0 has.first = seated.each 0 has.first refl in
    let turns : IsTurnPlan plan (length boot.authorities) lists = turn_plan_of plan boot target session lists of in
    let played : IsPlanPlayed lists book.entries = subst (λ (p : Option (List (List Listed))). IsPlayed p book.entries) of.plan_is plays in
    let own : length lists ≡ session.callers + 1 = subst (λ (p : Option (List (List Listed))). HasActors p (session.callers + 1)) of.plan_is (actors_of plan boot target session lists of) in
    record {
      own = subst (λ (l : LaneView). IsLaneOf l book) (sym has.driver_is) stood.own;
      refused = ap (λ (l : LaneView). l.refused) has.driver_is ∙ stood.refused refl;
      callers = subst (λ (ls : List LaneView). All (IsCallerOf book) ls) (sym has.callers_are) (callers_of book has.first has.rest seated);
      ended = λ caller list some get. all.at.callers caller list (omega (arith, some)) get;
      driven = all.at.driven;
      sweep = all.at.listed;
      goes_on = all.under_way.goes_on;
      room = within_most (length book.entries) (plan_entries lists) most_entries (next_has_room lists book.entries 0 0 (driver DriverEvent.Sweep) played all.at.next) (by_lists plan lists (length boot.authorities) turns).entries;
      few = few_lists (length lists) session.callers own of.formed.most;
    }

-- the driver's lane stands first
pub first_is_driver : (lists : List (List Listed)) (book : BookView) (driven : LaneView) (callers lanes : List LaneView) → driven ∷ callers ≡ lanes → IsAllPlayed lists book lanes → driven.actor ≡ 0
first_is_driver lists book driven callers lanes split all =
    let has : HasSeats all.seats driven callers = has_seats all.seats driven callers (split ∙ all.lanes_are) in
    let seated : AreSeated book (has.first ∷ has.rest) = seated_by book all.seats driven callers has all.under_way.seated in
    ap (λ (l : LaneView). l.actor) has.driver_is ∙ (seated.each 0 has.first refl).actor_is

pub some_lanes : (plan : Option (List (List Listed))) (boot : Bootstrap) (target : Target) (session : Session) (lists : List (List Listed)) (book : BookView) (lanes : List LaneView) → IsOfSession plan boot target session lists
    → HasActors plan (length book.counts) → IsAllPlayed lists book lanes → lanes ≢ []
some_lanes plan boot target session lists book lanes of actors all = λ none.
    let many : length lists ≡ length book.counts = lists_many plan boot target session lists (length book.counts) of actors in
    let own : length lists ≡ session.callers + 1 = subst (λ (p : Option (List (List Listed))). HasActors p (session.callers + 1)) of.plan_is (actors_of plan boot target session lists of) in
    let seats_many : length all.seats ≡ length book.counts = all.under_way.seated.many in
    let none_many : length all.seats ≡ 0 = sym (length-map all.seats (λ (seat : SeatView). seat.lane)) ∙ ap length (sym all.lanes_are ∙ none) in
    absurd (omega (arith, many, own, seats_many, none_many))

-- ---- what was played begins a legal history

pub own_right : (plan : Option (List (List Listed))) (boot : Bootstrap) (target : Target) (session : Session) (lists : List (List Listed)) (past : List Entry) → IsOfSession plan boot target session lists → Right (setting_of boot target) past
    → Right (setting_of session.boot session.target) past
own_right plan boot target session lists past of right =
    subst (λ (b : Bootstrap). Right (setting_of b session.target) past) of.boot_is (subst (λ (t : Target). Right (setting_of boot t) past) of.target_is right)

pub begins_report : (plan : Option (List (List Listed))) (boot : Bootstrap) (target : Target) (session : Session) (lists : List (List Listed)) (past : List Entry) (front : List ℕ) → IsOfSession plan boot target session lists
    → Right (setting_of boot target) past → IsPlayed plan past → HasNoSweep past
    → IsFrontOf front (entries_report session.boot.authorities (snapshots_of (pages (setting_of session.boot session.target) past)) past) → BeginsReport session front
begins_report plan boot target session lists past front of right plays none is =
    let played : IsPlanPlayed lists past = subst (λ (p : Option (List (List Listed))). IsPlayed p past) of.plan_is plays in
    let so_far : IsLegalSoFar session past = record { right = own_right plan boot target session lists past of right; played = subst (λ (ls : List (List Listed)). IsPlanPlayed ls past) of.lists_are played; no_sweep = none } in
    let begun : BeginsLegal session past = legal_so_far_begins_legal session past of.formed.lines so_far in
    record {
      history = begun.later ++ past;
      legal = begun.legal;
      begins = front_of_front front (entries_report session.boot.authorities (snapshots_of (pages (setting_of session.boot session.target) past)) past) (text_of session (begun.later ++ past)) is
          (front_is_reported (setting_of session.boot session.target) session.boot.authorities begun.later past begun.legal.right);
    }

-- the mistake of a report beside a legal history
above_of : (session : Session) (history : List Entry) (report : List ℕ) (found : Option Mistake) → Legal session history → IfSome found (λ mistake. IsFrontOf (first_lines (mistake.line - 1) report) (text_of session history))
    → IfSome found (λ mistake. BeginsReport session (first_lines (mistake.line - 1) report))
above_of session history report None legal above = tt
above_of session history report (Some mistake) legal above = record { history = history; legal = legal; begins = above }

pub mistake_of : {E : Type 0} (session : Session) (history : List Entry) (report : List ℕ) (result : Result (Option Mistake) E) → Legal session history
    → IfOk result (λ found. IfSome found (λ mistake. IsFrontOf (first_lines (mistake.line - 1) report) (text_of session history)))
    → IfOk result (λ found. IfSome found (λ mistake. BeginsReport session (first_lines (mistake.line - 1) report)))
mistake_of session history report (Ok found) legal above = above_of session history report found legal above
mistake_of session history report (Err fault) legal above = tt

-- what is written of the Book is what the history writes
pub played_text : (plan : Option (List (List Listed))) (boot : Bootstrap) (target : Target) (session : Session) (lists : List (List Listed)) (entries journal : List Entry) (kept tickets : List (Where Snapshot))
    → IsOfSession plan boot target session lists → journal ≡ entries → tickets ≡ kept → values_of kept ≡ snapshots_of (pages (setting_of boot target) entries)
    → entries_report session.boot.authorities (values_of tickets) journal ≡ entries_report session.boot.authorities (snapshots_of (pages (setting_of session.boot session.target) entries)) entries
played_text plan boot target session lists entries journal kept tickets of journal_is tickets_are published =
    let settings : setting_of boot target ≡ setting_of session.boot session.target = ap (λ (b : Bootstrap). setting_of b target) of.boot_is ∙ ap (λ (t : Target). setting_of session.boot t) of.target_is in
    let values : values_of tickets ≡ snapshots_of (pages (setting_of session.boot session.target) entries) = ap values_of tickets_are ∙ (published ∙ ap (λ (s : Setting). snapshots_of (pages s entries)) settings) in
    ap (λ (xs : List Snapshot). entries_report session.boot.authorities xs journal) values
    ∙ ap (λ (es : List Entry). entries_report session.boot.authorities (snapshots_of (pages (setting_of session.boot session.target) entries)) es) journal_is
