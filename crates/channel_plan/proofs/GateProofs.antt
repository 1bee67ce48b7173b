-- Each entry of a history that plays the plan of a session stands after the line that gates its own.
use Rattle.std.proofs.Common.{◌≡◌, ℕ, List, [], ◌∷◌, Bool, true, false, ◌&&◌, ◌||◌, Option, Some, None, refl, sym, ap, ◌∙◌, subst, eq-eqb, if◌then◌else◌}
use Rattle.std.specs.Prelude.{◌==◌}
use Rattle.std.specs.List.{slice_get}
use Rattle.std.proofs.lemmas.Bool.{cond-true}
use Rattle.xc_base.specs.declared.call.Call.{Call}
use Rattle.call_journal.specs.declared.event.CallerEvent.{CallerEvent}
use Rattle.call_journal.specs.declared.event.DriverEvent.{DriverEvent}
use Rattle.call_journal.specs.declared.reply.CallerReply.{CallerReply}
use Rattle.call_journal.specs.declared.entry.What.{What}
use Rattle.call_journal.specs.declared.entry.Entry.{Entry}
use Rattle.call_journal.specs.declared.plan.Count.{Count}
use Rattle.call_journal.specs.declared.plan.Listed.{Listed}
use Rattle.call_journal.specs.declared.plan.ListedEvent.{ListedEvent}
use Rattle.session_lines.specs.declared.session.Session.{Session}
use Rattle.session_plan.specs.PlanOfSession.{plan_of}
use Rattle.session_plan.specs.ReadablePayloads.{is_response}
use Rattle.channel_calls.specs.xds_history.Setting.{Setting}
use Rattle.channel_calls.specs.xds_history.Right.{IsReply, Right, pin_reply}
use Rattle.channel_calls.specs.xds_history.Page.{latest_number}
use Rattle.channel_calls.specs.xds_history.declared.page.Page.{Page}
use Rattle.channel_calls.specs.xds_history.Pages.{pages}
use Rattle.session_player.specs.legal_history.Legal as legal
use Rattle.session_player.specs.legal_history.Legal.{AreOpen, gate_of}
use Rattle.book_progress.specs.ActorCounts.{actor_entries, count_after, count_of, no_count, with_ended, with_pin, without_pin}
use Rattle.book_progress.specs.EndedLines.{IsOpen, ends_line, has_ended, pin_ends}
use Rattle.book_progress.specs.PlayedPlans as played
use Rattle.book_progress.specs.PlayedPlans.{AreGated, HasPlayed, IsHold, IsOne, IsPin, caller_event, got_snapshot, is_pinned}
use Rattle.session_shape.specs.SessionShape.{IsWellFormed}
use Rattle.channel_plan.specs.ChannelPlanLaws.{GatesAreOpen}
use Rattle.channel_plan.proofs.LineGates.{plan_gated}

-- ---- lines that have ended, where replies are right

pin_alike : (call : Call) (number : Option ℕ) → pin_ends (pin_reply number) ≡ true → legal.ends_line (What.Caller (CallerEvent.Pin call) (pin_reply number)) ≡ true
pin_alike call None ends = refl
pin_alike call (Some number) ends = absurd (cc ends)

pin_by : (call : Call) (reply : CallerReply) (number : Option ℕ) → reply ≡ pin_reply number → pin_ends reply ≡ true → legal.ends_line (What.Caller (CallerEvent.Pin call) reply) ≡ true
pin_by call reply number is ends =
    subst (λ (r : CallerReply). legal.ends_line (What.Caller (CallerEvent.Pin call) r) ≡ true) (sym is) (pin_alike call number (sym (ap pin_ends is) ∙ ends))

what_alike : (s : Setting) (e : Entry) (what : What) (past : List Entry) (ps : List Page) → IsReply s e what past ps → ends_line what ≡ true → legal.ends_line what ≡ true
what_alike s e (What.Driver (DriverEvent.Opened a) reply) past ps is ends = refl
what_alike s e (What.Driver (DriverEvent.Response a payload) reply) past ps is ends = absurd (cc ends)
what_alike s e (What.Driver (DriverEvent.Bytes a how) reply) past ps is ends = refl
what_alike s e (What.Driver (DriverEvent.Lost a) reply) past ps is ends = refl
what_alike s e (What.Driver (DriverEvent.Moment time) reply) past ps is ends = refl
what_alike s e (What.Driver (DriverEvent.Endpoint address state) reply) past ps is ends = refl
what_alike s e (What.Driver DriverEvent.Sweep reply) past ps is ends = refl
what_alike s e (What.Caller (CallerEvent.Pin call) reply) past ps is ends = pin_by call reply (latest_number ps) is ends
what_alike s e (What.Caller (CallerEvent.Hold call) reply) past ps is ends = refl
what_alike s e (What.Caller (CallerEvent.Pick id word) reply) past ps is ends = refl
what_alike s e (What.Caller (CallerEvent.Commit id) reply) past ps is ends = refl

either_alike : (a b c d e : Bool) → (b ≡ true → c ≡ true) → (d ≡ true → e ≡ true) → ((a && b) || d) ≡ true → ((a && c) || e) ≡ true
either_alike true true c d e f g is = let h : c ≡ true = f refl in cc h
either_alike true false c d e f g is = let h : e ≡ true = g is in right c e h
  where
    right : (x y : Bool) → y ≡ true → (x || y) ≡ true
    right true y h = refl
    right false y h = h
either_alike false b c d e f g is = g is

ended_alike : (s : Setting) (line : ℕ) (history : List Entry) → Right s history → has_ended line history ≡ true → legal.has_ended line history ≡ true
ended_alike s line [] right is = absurd (cc is)
ended_alike s line (e ∷ past) right is =
    either_alike (e.line == line) (ends_line e.what) (legal.ends_line e.what) (has_ended line past) (legal.has_ended line past) (what_alike s e e.what past (pages s past) right.0)
    (ended_alike s line past right.1) is

open_alike : (s : Setting) (gate : Option ℕ) (history : List Entry) → Right s history → IsOpen gate history → legal.IsOpen gate history
open_alike s None history right is = tt
open_alike s (Some line) history right is = ended_alike s line history right is

-- ---- how far an actor has come, by its own entries

abbrev pub count_in : List Entry → Count
count_in [] = no_count
count_in (e ∷ es) = count_after e.what (count_in es)

count_by : (b : Bool) (c : Count) (e : Entry) (es : List Entry) → c ≡ count_in es → (if b then count_after e.what c else c) ≡ count_in (if b then e ∷ es else es)
count_by true c e es is = ap (count_after e.what) is
count_by false c e es is = is

count_alike : (actor : ℕ) (history : List Entry) → count_of actor history ≡ count_in (actor_entries actor history)
count_alike actor [] = refl
count_alike actor (e ∷ past) = count_by (e.actor == actor) (count_of actor past) e (actor_entries actor past) (count_alike actor past)

one_counts : (event : ListedEvent) (what : What) (c : Count) → IsOne event what → count_after what c ≡ with_ended c
one_counts event (What.Driver e reply) c is = refl
one_counts event (What.Caller (CallerEvent.Pick id word) reply) c is = refl
one_counts event (What.Caller (CallerEvent.Commit id) reply) c is = refl
one_counts (ListedEvent.Driver e) (What.Caller (CallerEvent.Pin call) reply) c is = absurd (cc is)
one_counts (ListedEvent.Start s) (What.Caller (CallerEvent.Pin call) reply) c is = absurd is
one_counts (ListedEvent.Pick id word) (What.Caller (CallerEvent.Pin call) reply) c is = absurd (cc is)
one_counts (ListedEvent.Commit id) (What.Caller (CallerEvent.Pin call) reply) c is = absurd (cc is)
one_counts (ListedEvent.Driver e) (What.Caller (CallerEvent.Hold call) reply) c is = absurd (cc is)
one_counts (ListedEvent.Start s) (What.Caller (CallerEvent.Hold call) reply) c is = absurd is
one_counts (ListedEvent.Pick id word) (What.Caller (CallerEvent.Hold call) reply) c is = absurd (cc is)
one_counts (ListedEvent.Commit id) (What.Caller (CallerEvent.Hold call) reply) c is = absurd (cc is)

abbrev pub pinned_count : Bool → Count → Count
pinned_count true c = with_pin c
pinned_count false c = with_ended c

reply_counts : (call : Call) (reply : CallerReply) (got : Bool) (c : Count) → is_pinned reply ≡ got → count_after (What.Caller (CallerEvent.Pin call) reply) c ≡ pinned_count got c
reply_counts call (CallerReply.Pinned number) got c is = ap (λ (b : Bool). pinned_count b c) is
reply_counts call CallerReply.NoSnapshot got c is = ap (λ (b : Bool). pinned_count b c) is
reply_counts call (CallerReply.Routed number answer) got c is = ap (λ (b : Bool). pinned_count b c) is
reply_counts call (CallerReply.Endpoint number child locality place) got c is = ap (λ (b : Bool). pinned_count b c) is
reply_counts call (CallerReply.Queue number) got c is = ap (λ (b : Bool). pinned_count b c) is
reply_counts call (CallerReply.Fail number reason) got c is = ap (λ (b : Bool). pinned_count b c) is
reply_counts call (CallerReply.Drop number rule) got c is = ap (λ (b : Bool). pinned_count b c) is
reply_counts call CallerReply.NotHeld got c is = ap (λ (b : Bool). pinned_count b c) is
reply_counts call CallerReply.Released got c is = ap (λ (b : Bool). pinned_count b c) is

event_counts : (event : CallerEvent) (call : Call) (reply : CallerReply) (got : Bool) (c : Count) → event ≡ CallerEvent.Pin call → is_pinned reply ≡ got → count_after (What.Caller event reply) c ≡ pinned_count got c
event_counts event call reply got c is pins = ap (λ (e : CallerEvent). count_after (What.Caller e reply) c) is ∙ reply_counts call reply got c pins

pin_counts : (what : What) (call : Call) (got : Bool) (c : Count) → caller_event what ≡ Some (CallerEvent.Pin call) → got_snapshot what ≡ got → count_after what c ≡ pinned_count got c
pin_counts (What.Driver event reply) call got c is pins = absurd (cc is)
pin_counts (What.Caller event reply) call got c is pins = let same : event ≡ CallerEvent.Pin call = cc is in event_counts event call reply got c same pins

hold_counts : (what : What) (call : Call) (c : Count) → caller_event what ≡ Some (CallerEvent.Hold call) → count_after what c ≡ without_pin c
hold_counts (What.Driver event reply) call c is = absurd (cc is)
hold_counts (What.Caller event reply) call c is = let same : event ≡ CallerEvent.Hold call = cc is in ap (λ (e : CallerEvent). count_after (What.Caller e reply) c) same

abbrev pub count : ℕ → ℕ → Count
count ended pins = record { ended = ended; pins = pins }

played_count : (list : List Listed) (n p : ℕ) (es : List Entry) → HasPlayed list n p es → count_in es ≡ count n p
played_count list _ _ _ played.none = refl
played_count list _ _ _ (played.one n next e past get line one rest) = one_counts next.event e.what (count_in past) one ∙ ap with_ended (played_count list n 0 past rest)
played_count list _ _ _ (played.pin n next e past get line pin rest) = pin_counts e.what pin.call false (count_in past) pin.pin pin.reply ∙ ap with_ended (played_count list n 0 past rest)
played_count list _ _ _ (played.up n next e past get line pin rest) = pin_counts e.what pin.call true (count_in past) pin.pin pin.reply ∙ ap with_pin (played_count list n 0 past rest)
played_count list _ _ _ (played.held n next e past get line hold rest) = hold_counts e.what hold.call (count_in past) hold.hold ∙ ap without_pin (played_count list n 1 past rest)

-- ---- the newest entry of an actor

pub record IsPlayedTo (list : List Listed) (es : List Entry) : Type 0 where
  pub ended : ℕ
  pub pins : ℕ
  pub is : HasPlayed list ended pins es

-- it is of the line of the listed event that comes after those that had ended, and the entries before it play the list
pub record IsNewest (list : List Listed) (e : Entry) (past : List Entry) : Type 0 where
  pub next : Listed
  pub get : slice_get list (count_in past).ended ≡ Some next
  pub line : e.line ≡ next.line
  pub before : IsPlayedTo list past

abbrev pub HasNewest : List Listed → List Entry → Type 0
HasNewest list [] = Unit {0}
HasNewest list (e ∷ past) = IsNewest list e past

newest_by : (list : List Listed) (n p : ℕ) (next : Listed) (e : Entry) (past : List Entry) → slice_get list n ≡ Some next → e.line ≡ next.line → HasPlayed list n p past → IsNewest list e past
newest_by list n p next e past get line rest = record {
  next = next;
  get = ap (λ (c : Count). slice_get list c.ended) (played_count list n p past rest) ∙ get;
  line = line;
  before = record { ended = n; pins = p; is = rest };
}

newest_of : (list : List Listed) (n p : ℕ) (es : List Entry) → HasPlayed list n p es → HasNewest list es
newest_of list _ _ _ played.none = tt
newest_of list _ _ _ (played.one n next e past get line one rest) = newest_by list n 0 next e past get line rest
newest_of list _ _ _ (played.pin n next e past get line pin rest) = newest_by list n 0 next e past get line rest
newest_of list _ _ _ (played.up n next e past get line pin rest) = newest_by list n 0 next e past get line rest
newest_of list _ _ _ (played.held n next e past get line hold rest) = newest_by list n 1 next e past get line rest

-- ---- a whole history

abbrev pub AllPlayed : List (List Listed) → List Entry → Type 0
AllPlayed plan history = (actor : ℕ) (list : List Listed) → slice_get plan actor ≡ Some list → IsPlayedTo list (actor_entries actor history)

before_by : (list : List Listed) (b : Bool) (e : Entry) (es : List Entry) → IsPlayedTo list (if b then e ∷ es else es) → IsPlayedTo list es
before_by list true e es to = (newest_of list to.ended to.pins (e ∷ es) to.is).before
before_by list false e es to = to

own_newest : (list : List Listed) (e : Entry) (past : List Entry) → IsPlayedTo list (actor_entries e.actor (e ∷ past)) → IsNewest list e (actor_entries e.actor past)
own_newest list e past to =
    let own : IsPlayedTo list (e ∷ actor_entries e.actor past) =
    subst (IsPlayedTo list) (cond-true (e.actor == e.actor) (e ∷ actor_entries e.actor past) (actor_entries e.actor past) (eq-eqb e.actor e.actor refl)) to in
    newest_of list own.ended own.pins (e ∷ actor_entries e.actor past) own.is

same_item : (list : List Listed) (c d : Count) (x y : Listed) → c ≡ d → slice_get list c.ended ≡ Some x → slice_get list d.ended ≡ Some y → x ≡ y
same_item list c d x y is one two = let both : Some x ≡ Some y = sym one ∙ (ap (λ (k : Count). slice_get list k.ended) is ∙ two) in cc both

opens : (s : Setting) (session : Session) (history : List Entry) → IsWellFormed session → Right s history → AreGated (plan_of is_response session) history → AllPlayed (plan_of is_response session) history
    → AreOpen session.lines history
opens s session [] formed right gated each = tt
opens s session (e ∷ past) formed right gated each =
    let of = gated.0.is in
    let newest = own_newest of.list e past (each e.actor of.list of.actor_is) in
    let same : newest.next ≡ gated.0.listed =
    same_item of.list (count_in (actor_entries e.actor past)) (count_of e.actor past) newest.next gated.0.listed (sym (count_alike e.actor past)) newest.get of.next_is in
    let line : e.line ≡ gated.0.listed.line = newest.line ∙ ap (λ (l : Listed). l.line) same in
    let gate : gate_of session.lines e.line ≡ gated.0.listed.after =
    ap (gate_of session.lines) line ∙ plan_gated session formed e.actor of.list of.actor_is (count_of e.actor past).ended gated.0.listed of.next_is in (
      subst (λ (g : Option ℕ). legal.IsOpen g past) (sym gate) (open_alike s gated.0.listed.after past right.1 gated.0.gate),
      opens s session past formed right.1 gated.1 (λ actor list get. before_by list (e.actor == actor) e (actor_entries actor past) (each actor list get)),
    )

pub gates_are_open : GatesAreOpen
gates_are_open s session history formed right plays =
    opens s session history formed right plays.gated
    (λ actor list get. record { ended = (count_of actor history).ended; pins = (count_of actor history).pins; is = plays.played actor list get })
