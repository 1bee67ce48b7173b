-- The steps of a script, as the Book makes them.
use Rattle.std.proofs.Common.{◌≡◌, ◌<◌, ◌≤◌, ℕ, zero, suc, ◌+◌, List, [], ◌∷◌, ◌++◌, length, drop, All, Bool, true, false, Result, Ok, Err, OnOk, Option, Some, None, option_map, refl, sym, ap, ap₂, ◌∙◌, subst, arith, append-nil, not-suc-le-zero}
use Rattle.std.specs.List.{slice_get}
use Rattle.std.proofs.lemmas.List.Elements.{All-head}
use Rattle.std.proofs.lemmas.Option.{slice_get_within}
use Rattle.xc_base.specs.declared.call.Call.{Call}
use Rattle.call_journal.specs.declared.event.CallerEvent.{CallerEvent}
use Rattle.call_journal.specs.declared.event.DriverEvent.{DriverEvent}
use Rattle.call_journal.specs.declared.reply.CallerReply.{CallerReply}
use Rattle.call_journal.specs.declared.reply.DriverReply.{DriverReply}
use Rattle.call_journal.specs.declared.entry.What.{What}
use Rattle.call_journal.specs.declared.entry.Entry.{Entry}
use Rattle.call_journal.specs.declared.plan.Count.{Count}
use Rattle.call_journal.specs.declared.plan.Listed.{Listed}
use Rattle.cluster_tree.specs.declared.snapshot.Snapshot.{Snapshot}
use Rattle.resource_check.specs.declared.delivery.Prepared.{Prepared}
use Rattle.xds_bootstrap.specs.declared.bootstrap.Bootstrap.{Bootstrap}
use Rattle.xds_name.specs.declared.target.Target.{Target}
use Rattle.session_lines.specs.Before.{starts}
use Rattle.session_lines.specs.declared.session.Act.{Act}
use Rattle.session_lines.specs.declared.session.Act.TheVariants as act
use Rattle.session_lines.specs.declared.session.DriverLine.{DriverLine}
use Rattle.session_lines.specs.declared.session.Line.{Line}
use Rattle.session_lines.specs.declared.session.Work.TheVariants as work
use Rattle.session_lines.specs.declared.session.Session.{Session}
use Rattle.std.proofs.lemmas.List.FromFn.{length-map-range_with_len}
use Rattle.session_plan.specs.PlanOfSession.{caller_plan, plan_of}
use Rattle.session_plan.specs.PlanOfSession as of_session
use Rattle.session_plan.specs.ReadablePayloads.{is_response}
use Rattle.legal_plan.specs.xds_history.Setting.{Setting, setting_of}
use Rattle.legal_plan.specs.xds_history.Page.{latest, latest_number}
use Rattle.legal_plan.specs.xds_history.Pages.{pages}
use Rattle.legal_plan.specs.xds_history.References.{held, pinned}
use Rattle.legal_plan.specs.xds_history.Responses.{refused_texts}
use Rattle.legal_plan.specs.xds_history.Right.{caller_reply, pin_reply}
use Rattle.legal_plan.specs.legal_history.Legal.{EndsInSweep}
use Rattle.book_progress.specs.ActorCounts.{count_after, count_of, with_ended}
use Rattle.book_progress.specs.EndedLines.{event_ends}
use Rattle.book_progress.specs.PlayedPlans as played
use Rattle.book_progress.specs.PlayedPlans.{IsNext, IsNextOf, Step}
use Rattle.book_progress.specs.ProgressKept.{most_entries}
use Rattle.xds_book.specs.BookKept.{HasActors}
use Rattle.xds_book.specs.BookViews.{BookView, PinnedView}
use Rattle.xds_book.specs.BookEntries.{IsKnownTo, IsTokenOf, answered_call, entry_of}
use Rattle.session_shape.specs.SessionShape.{IsWellFormed}
use Rattle.session_player.specs.LineProgress.{IsAtEnd, IsAtLine, IsCalling, IsDriving, IsPlayable, is_begun}
use Rattle.session_player.specs.Stages.{Adds, Drove, GoesOn, HasDriven, IsOfSession, Refuses, StandsAt, StandsAtEnd, StandsIn, driver_in}
use Rattle.session_player.proofs.BegunLemmas.{no_hold, no_pin, starts_own}
use Rattle.session_player.proofs.CalledLemmas.{call_few, called_ends, called_next, caller_within, hold_ends, hold_next, start_is_new}
use Rattle.session_player.proofs.DrivenLemmas.{driven_is_next, driven_next_of, driving_begins, driving_ends, driving_goes_on}
use Rattle.session_player.proofs.EndLemmas.{swept, sweep_next}
use Rattle.session_player.proofs.OpenLemmas.{EndsIts}
use Rattle.session_player.proofs.RefusedLemmas.{nothing_among}

pub on_ok : {T E : Type 0} (result : Result T E) (P Q : Type 0) → OnOk result P → (P → Q) → OnOk result Q
on_ok (Ok x) P Q h f = f h
on_ok (Err e) P Q h f = tt

-- ---- the plan of the session

pub planned : (plan : Option (List (List Listed))) (boot : Bootstrap) (target : Target) (session : Session) (lists : List (List Listed)) (actor line : ℕ) (count : Count) (step : Step) (history : List Entry)
    → IsOfSession plan boot target session lists → IsNextOf (plan_of is_response session) actor count line step history → IsNext plan actor count line step history
planned plan boot target session lists actor line count step history of next =
    subst (λ (p : Option (List (List Listed))). IsNext p actor count line step history) (sym (of.plan_is ∙ ap (λ (ls : List (List Listed)). Some ls) of.lists_are)) next

goes_after : (session : Session) (old new : BookView) (actor line : ℕ) (what : What) → GoesOn session old → Adds actor line what old new → GoesOn session new
goes_after session old new actor line what goes adds = record { actors = adds.actors ∙ goes.actors; goes_on = adds.goes_on ∙ goes.goes_on }

-- ---- events of the driver

pub driven_within : (session : Session) (place : ℕ) (book : BookView) (lists : List (List Listed)) (list : List Listed) (n : ℕ) → lists ≡ plan_of is_response session → StandsIn session place book → slice_get lists 0 ≡ Some list
    → n ≡ (count_of 0 book.entries).ended → n < length list
driven_within session place book lists list n are stands get is =
    let got : slice_get (plan_of is_response session) 0 ≡ Some list = subst (λ (ls : List (List Listed)). slice_get ls 0 ≡ Some list) are get in
    let lt = slice_get_within list (count_of 0 book.entries).ended _ (driven_is_next session place book.entries list stands.driving got) in
    subst (λ (k : ℕ). k < length list) (sym is) lt

-- the listed event that comes next
pub record IsNextEvent (session : Session) (place : ℕ) (history : List Entry) (driving : IsDriving session place history) (listed : Listed) (found : Option DriverEvent) : Type 0 where
  pub line_is : listed.line ≡ driving.line.number
  pub event_is : found ≡ Some driving.event

pub next_event : (session : Session) (place : ℕ) (book : BookView) (lists : List (List Listed)) (list : List Listed) (n : ℕ) (listed : Listed) (found : Option DriverEvent) → lists ≡ plan_of is_response session
    → (stands : StandsIn session place book) → slice_get lists 0 ≡ Some list → n ≡ (count_of 0 book.entries).ended → slice_get list n ≡ Some listed → found ≡ driver_in listed.event
    → IsNextEvent session place book.entries stands.driving listed found
next_event session place book lists list n listed found are stands get is at finds =
    let got : slice_get (plan_of is_response session) 0 ≡ Some list = subst (λ (ls : List (List Listed)). slice_get ls 0 ≡ Some list) are get in
    let item = driven_is_next session place book.entries list stands.driving got in
    let here : slice_get list (count_of 0 book.entries).ended ≡ Some listed = subst (λ (k : ℕ). slice_get list k ≡ Some listed) is at in
    let same = some_is (sym here ∙ item) in
    record { line_is = ap (λ (l : Listed). l.line) same; event_is = finds ∙ ap (λ (l : Listed). driver_in l.event) same }
  where
    some_is : {x y : Listed} → Some x ≡ Some y → x ≡ y
    some_is e = cc e

-- the driver has no other events
pub no_event : (session : Session) (place : ℕ) (book : BookView) (lists : List (List Listed)) (list : List Listed) (n : ℕ) (listed : Listed) → lists ≡ plan_of is_response session
    → (stands : StandsIn session place book) → slice_get lists 0 ≡ Some list → n ≡ (count_of 0 book.entries).ended → slice_get list n ≡ Some listed → None ≡ driver_in listed.event → ⊥
no_event session place book lists list n listed are stands get is at finds =
    cc (next_event session place book lists list n listed None are stands get is at finds).event_is

pub event_playable : (session : Session) (place : ℕ) (history : List Entry) (d : IsDriving session place history) (event : DriverEvent) → Some event ≡ Some d.event → IsPlayable session.boot event
event_playable session place history d event is =
    let same : d.event ≡ event = cc is in
    subst (IsPlayable session.boot) same (All-head (IsPlayable session.boot) d.event d.later d.playable)

known_by : (boot : Bootstrap) (event : DriverEvent) → IsPlayable boot event → IsKnownTo (length boot.authorities) event
known_by boot (DriverEvent.Opened a) h = h
known_by boot (DriverEvent.Response a payload) h = h.0
known_by boot (DriverEvent.Bytes a how) h = h
known_by boot (DriverEvent.Lost a) h = h
known_by boot (DriverEvent.Moment time) h = tt
known_by boot (DriverEvent.Endpoint address state) h = tt
known_by boot DriverEvent.Sweep h = tt

pub event_known : (boot own : Bootstrap) (event given : DriverEvent) → own ≡ boot → given ≡ event → IsPlayable boot event → IsKnownTo (length own.authorities) given
event_known boot own event given same is h =
    let known : IsKnownTo (length boot.authorities) event = known_by boot event h in
    subst (λ (b : Bootstrap). IsKnownTo (length b.authorities) given) (sym same) (subst (IsKnownTo (length boot.authorities)) (sym is) known)

pub event_next : (plan : Option (List (List Listed))) (boot : Bootstrap) (target : Target) (session : Session) (lists : List (List Listed)) (place : ℕ) (history : List Entry) (d : IsDriving session place history)
    (listed : Listed) (event : DriverEvent) → IsOfSession plan boot target session lists → IsNextEvent session place history d listed (Some event) → IsNext plan 0 (count_of 0 history) listed.line (played.driver event) history
event_next plan boot target session lists place history d listed event of next =
    let same : d.event ≡ event = cc next.event_is in
    subst (λ (e : DriverEvent). IsNext plan 0 (count_of 0 history) listed.line (played.driver e) history) same
    (subst (λ (n : ℕ). IsNext plan 0 (count_of 0 history) n (played.driver d.event) history) (sym next.line_is)
    (planned plan boot target session lists 0 d.line.number (count_of 0 history) (played.driver d.event) history of (driven_next_of session place history of.formed d)))

-- after it, the Book has driven
pub has_driven : (session : Session) (place : ℕ) (old new : BookView) (listed : Listed) (event : DriverEvent) (prepared : Option Prepared) (ended : Bool) → IsWellFormed session → (stands : StandsIn session place old)
    → IsNextEvent session place old.entries stands.driving listed (Some event) → Drove listed.line event prepared old new → ended ≡ event_ends event → HasDriven session place new ended
has_driven session place old new listed event prepared ended formed stands next drove is = by_end ended (is ∙ ap event_ends same)
  where
    same : event ≡ stands.driving.event
    same = cc next.event_is

    made : new.entries ≡ record { actor = 0; line = stands.driving.line.number; what = What.Driver stands.driving.event drove.reply } ∷ old.entries
    made = drove.adds.entries ∙ ap₂ (λ (n : ℕ) (e : DriverEvent). record { actor = 0; line = n; what = What.Driver e drove.reply } ∷ old.entries) next.line_is same

    by_end : (b : Bool) → b ≡ event_ends stands.driving.event → HasDriven session place new b
    by_end true ends = record {
      goes = goes_after session old new 0 listed.line (What.Driver event drove.reply) stands.goes drove.adds;
      at = subst (λ (es : List Entry). IsAtLine session (place + 1) es) (sym made) (driving_ends session place old.entries drove.reply formed stands.driving (sym ends));
    }
    by_end false ends = record {
      goes = goes_after session old new 0 listed.line (What.Driver event drove.reply) stands.goes drove.adds;
      driving = subst (λ (es : List Entry). IsDriving session place es) (sym made) (driving_goes_on session place old.entries drove.reply formed stands.driving (sym ends));
    }

-- ---- the last sweep

pub sweep_is_next : (plan : Option (List (List Listed))) (boot : Bootstrap) (target : Target) (session : Session) (lists : List (List Listed)) (book : BookView) → IsOfSession plan boot target session lists
    → StandsAt session (length session.lines) book → IsNext plan 0 (count_of 0 book.entries) 0 (played.driver DriverEvent.Sweep) book.entries
sweep_is_next plan boot target session lists book of stands =
    planned plan boot target session lists 0 0 (count_of 0 book.entries) (played.driver DriverEvent.Sweep) book.entries of
    (sweep_next session (length session.lines) book.entries (omega arith) stands.at)

pub sweep_ends : (session : Session) (old new : BookView) → IsWellFormed session → StandsAt session (length session.lines) old → Drove 0 DriverEvent.Sweep None old new → StandsAtEnd session new
sweep_ends session old new formed stands drove = record {
  goes = goes_after session old new 0 0 (What.Driver DriverEvent.Sweep drove.reply) stands.goes drove.adds;
  at = subst (λ (es : List Entry). IsAtEnd session es) (sym drove.adds.entries) (swept session (length session.lines) old.entries drove.reply formed (omega arith) stands.at);
  sweeps = subst (λ (es : List Entry). EndsInSweep es) (sym drove.adds.entries) refl;
}

pub sweep_refuses : (old new : BookView) → Drove 0 DriverEvent.Sweep None old new → refused_texts new.entries ≡ refused_texts old.entries
sweep_refuses old new drove =
    ap refused_texts drove.adds.entries ∙ (ap (λ xs. refused_texts old.entries ++ xs) (nothing_among drove.reply.refused drove.refuses) ∙ append-nil (refused_texts old.entries))

-- ---- lines of callers

pub calling_at : (session : Session) (place : ℕ) (line found : Line) (number : ℕ) (what given : Act) → IsCalling session place line number what → slice_get session.lines place ≡ Some found → what ≡ given
    → IsCalling session place found number given
calling_at session place line found number what given calling get is =
    let same : line ≡ found = line_is (sym calling.line_is ∙ get) in
    subst (λ (l : Line). IsCalling session place l number given) same (subst (λ (w : Act). IsCalling session place line number w) is calling)
  where
    line_is : {x y : Line} → Some x ≡ Some y → x ≡ y
    line_is e = cc e

-- the caller is one of the Book
pub caller_known : (session : Session) (place : ℕ) (line : Line) (number : ℕ) (what : Act) (book : BookView) → IsWellFormed session → IsCalling session place line number what → GoesOn session book → (0 < number) × (number < length book.counts)
caller_known session place line number what book formed calling goes =
    let within = caller_within session place line number what formed calling in
    let many = goes.actors in
    (omega (arith, within.0), omega (arith, within.1, many))

pub act_next : (plan : Option (List (List Listed))) (boot : Bootstrap) (target : Target) (session : Session) (lists : List (List Listed)) (place : ℕ) (line : Line) (number : ℕ) (what : Act) (event : CallerEvent) (book : BookView)
    → IsOfSession plan boot target session lists → IsCalling session place line number what → StandsAt session place book → played.IsCallStep event (of_session.act_event what) 0
    → IsNext plan number (count_of number book.entries) line.number (played.caller event) book.entries
act_next plan boot target session lists place line number what event book of calling stands step =
    planned plan boot target session lists number line.number (count_of number book.entries) (played.caller event) book.entries of
    (called_next session place line number what event book.entries of.formed calling stands.at step)

-- an entry that ends the line
pub act_ends : (session : Session) (place : ℕ) (line : Line) (number : ℕ) (doing : Act) (what : What) (old new : BookView) → IsWellFormed session → IsCalling session place line number doing → StandsAt session place old
    → ((c : Count) → count_after what c ≡ with_ended c) → EndsIts what → ((id : ℕ) → starts id line.work ≡ false → is_begun id what ≡ false)
    → Adds number line.number what old new → StandsAt session (place + 1) new
act_ends session place line number doing what old new formed calling stands counted ends none adds = record {
  goes = goes_after session old new number line.number what stands.goes adds;
  at = subst (λ (es : List Entry). IsAtLine session (place + 1) es) (sym adds.entries)
      (called_ends session place line number doing what old.entries formed calling stands.at (counted (count_of number old.entries)) ends none);
}

-- ---- a start

pub start_free : (s : Setting) (session : Session) (place : ℕ) (line : Line) (number : ℕ) (call given : Call) (book : BookView) → IsWellFormed session → IsCalling session place line number (act.Start call) → StandsAt session place book
    → given ≡ call → pinned (pages s book.entries) given.id ≡ None
start_free s session place line number call given book formed calling stands is =
    subst (λ (x : Call). pinned (pages s book.entries) x.id ≡ None) (sym is) (no_pin s book.entries call.id (start_is_new session place line number call book.entries formed calling stands.at))

pub start_idle : (s : Setting) (session : Session) (place : ℕ) (line : Line) (number : ℕ) (call given : Call) (book : BookView) → IsWellFormed session → IsCalling session place line number (act.Start call) → StandsAt session place book
    → given ≡ call → held (pages s book.entries) given.id ≡ None
start_idle s session place line number call given book formed calling stands is =
    subst (λ (x : Call). held (pages s book.entries) x.id ≡ None) (sym is) (no_hold s book.entries call.id (start_is_new session place line number call book.entries formed calling stands.at))

-- no snapshot was published
pub start_ends : (s : Setting) (session : Session) (place : ℕ) (line : Line) (number : ℕ) (call given : Call) (old new : BookView) (found : Option PinnedView) → IsWellFormed session
    → IsCalling session place line number (act.Start call) → StandsAt session place old → given ≡ call → found ≡ None → IsTokenOf s old new given found
    → Adds number line.number (answered_call s old.entries (CallerEvent.Pin given)) old new → StandsAt session (place + 1) new
start_ends s session place line number call given old new found formed calling stands is none token adds =
    let empty : latest (pages s old.entries) ≡ None = subst (λ (t : Option PinnedView). IsTokenOf s old new given t) none token in
    let reply : caller_reply (pages s old.entries) (CallerEvent.Pin given) ≡ CallerReply.NoSnapshot = ap (λ (x : Option Snapshot). pin_reply (option_map (λ y. y.number) x)) empty in
    let what : answered_call s old.entries (CallerEvent.Pin given) ≡ What.Caller (CallerEvent.Pin call) CallerReply.NoSnapshot = ap₂ (λ (x : Call) (r : CallerReply). What.Caller (CallerEvent.Pin x) r) is reply in
    act_ends session place line number (act.Start call) (What.Caller (CallerEvent.Pin call) CallerReply.NoSnapshot) old new formed calling stands (λ c. refl) (record { planned = refl; lawful = refl })
    (λ id new. starts_own id number call line.work calling.work_is new)
    (subst (λ (w : What). Adds number line.number w old new) what adds)

-- a snapshot is pinned
pub record IsUp (session : Session) (place : ℕ) (line : Line) (number : ℕ) (call : Call) (old new : BookView) : Type 0 where
  pub snapshot : ℕ
  pub adds : Adds number line.number (What.Caller (CallerEvent.Pin call) (CallerReply.Pinned snapshot)) old new

pub start_up : (s : Setting) (session : Session) (place : ℕ) (line : Line) (number : ℕ) (call given : Call) (old new : BookView) (found : Option PinnedView) (token : PinnedView) → given ≡ call → found ≡ Some token
    → IsTokenOf s old new given found → Adds number line.number (answered_call s old.entries (CallerEvent.Pin given)) old new → IsUp session place line number call old new × (token.call ≡ call)
start_up s session place line number call given old new found token is some tokens adds =
    let of = subst (λ (t : Option PinnedView). IsTokenOf s old new given t) some tokens in
    let reply : caller_reply (pages s old.entries) (CallerEvent.Pin given) ≡ CallerReply.Pinned token.ticket.value.number = ap (λ (x : Option Snapshot). pin_reply (option_map (λ y. y.number) x)) of.1 in
    let what : answered_call s old.entries (CallerEvent.Pin given) ≡ What.Caller (CallerEvent.Pin call) (CallerReply.Pinned token.ticket.value.number) = ap₂ (λ (x : Call) (r : CallerReply). What.Caller (CallerEvent.Pin x) r) is reply in
    (record { snapshot = token.ticket.value.number; adds = subst (λ (w : What). Adds number line.number w old new) what adds }, of.0 ∙ is)

pub hold_known : (session : Session) (place : ℕ) (line : Line) (number : ℕ) (what : Act) (old new : BookView) (n : ℕ) (w : What) → IsWellFormed session → IsCalling session place line number what → GoesOn session old → Adds number n w old new
    → (0 < number) × (number < length new.counts)
hold_known session place line number what old new n w formed calling goes adds =
    caller_known session place line number what new formed calling (goes_after session old new number n w goes adds)

pub hold_room : (session : Session) (place : ℕ) (line : Line) (number : ℕ) (call : Call) (old new : BookView) (n : ℕ) (w : What) → IsCalling session place line number (act.Start call) → StandsAt session place old
    → Adds number n w old new → length new.entries < most_entries
hold_room session place line number call old new n w calling stands adds =
    let few = call_few session place line number (act.Start call) old.entries calling stands.at in
    let more : length new.entries ≡ length (entry_of number n w ∷ old.entries) = ap length adds.entries in
    omega (arith, few, more)

pub hold_is_next : (plan : Option (List (List Listed))) (boot : Bootstrap) (target : Target) (session : Session) (lists : List (List Listed)) (place : ℕ) (line : Line) (number : ℕ) (call given : Call) (old new : BookView)
    → IsOfSession plan boot target session lists → IsCalling session place line number (act.Start call) → StandsAt session place old → IsUp session place line number call old new → given ≡ call
    → IsNext plan number (count_of number new.entries) line.number (played.caller (CallerEvent.Hold given)) new.entries
hold_is_next plan boot target session lists place line number call given old new of calling stands up is =
    subst (λ (x : Call). IsNext plan number (count_of number new.entries) line.number (played.caller (CallerEvent.Hold x)) new.entries) (sym is)
    (planned plan boot target session lists number line.number (count_of number new.entries) (played.caller (CallerEvent.Hold call)) new.entries of
    (subst (λ (es : List Entry). IsNextOf (plan_of is_response session) number (count_of number es) line.number (played.caller (CallerEvent.Hold call)) es) (sym up.adds.entries)
    (hold_next session place line number call up.snapshot old.entries of.formed calling stands.at)))

pub start_holds : (s : Setting) (session : Session) (place : ℕ) (line : Line) (number : ℕ) (call given : Call) (old middle new : BookView) → IsWellFormed session → IsCalling session place line number (act.Start call)
    → StandsAt session place old → IsUp session place line number call old middle → given ≡ call → Adds number line.number (answered_call s middle.entries (CallerEvent.Hold given)) middle new
    → StandsAt session (place + 1) new
start_holds s session place line number call given old middle new formed calling stands up is adds =
    let reply : CallerReply = caller_reply (pages s middle.entries) (CallerEvent.Hold given) in
    let made : new.entries ≡ entry_of number line.number (What.Caller (CallerEvent.Hold call) reply) ∷ middle.entries =
    adds.entries ∙ ap (λ (x : Call). entry_of number line.number (What.Caller (CallerEvent.Hold x) reply) ∷ middle.entries) is in
    let all = made ∙ ap (λ (es : List Entry). entry_of number line.number (What.Caller (CallerEvent.Hold call) reply) ∷ es) up.adds.entries in
    record {
      goes = goes_after session middle new number line.number _ (goes_after session old middle number line.number _ stands.goes up.adds) adds;
      at = subst (λ (es : List Entry). IsAtLine session (place + 1) es) (sym all) (hold_ends session place line number call up.snapshot reply old.entries formed calling stands.at);
    }

-- ---- line by line

pub driven_ends : (session : Session) (place : ℕ) (book : BookView) (ended : Bool) → ended ≡ true → HasDriven session place book ended → StandsAt session (place + 1) book
driven_ends session place book ended is has = subst (λ (b : Bool). HasDriven session place book b) is has

pub driven_on : (session : Session) (place : ℕ) (book : BookView) (ended : Bool) → ended ≡ false → HasDriven session place book ended → StandsIn session place book
driven_on session place book ended is has = subst (λ (b : Bool). HasDriven session place book b) is has

-- the driver's list ends no sooner than its line
pub driven_over : (session : Session) (place : ℕ) (book : BookView) (lists : List (List Listed)) (list : List Listed) (n turn : ℕ) → lists ≡ plan_of is_response session → StandsIn session place book → slice_get lists 0 ≡ Some list
    → n ≡ length list → n ≤ turn → turn ≤ (count_of 0 book.entries).ended → ⊥
driven_over session place book lists list n turn are stands get is past counts =
    let lt = driven_within session place book lists list (count_of 0 book.entries).ended are stands get refl in
    not-suc-le-zero (wrong n turn (count_of 0 book.entries).ended (length list) is past counts lt)
  where
    wrong : (n turn ended many : ℕ) → n ≡ many → n ≤ turn → turn ≤ ended → ended < many → suc zero ≤ zero
    wrong n turn ended many is past counts lt = omega (arith, is, past, counts, lt)

pub stands_in : (session : Session) (place : ℕ) (line : Line) (what : DriverLine) (book : BookView) → IsWellFormed session → slice_get session.lines place ≡ Some line → line.work ≡ work.Driver what → StandsAt session place book
    → StandsIn session place book
stands_in session place line what book formed get is stands = record { goes = stands.goes; driving = driving_begins session place line what book.entries formed get is stands.at }

-- ---- the beginning

pub many_lists : (session : Session) → length (plan_of is_response session) ≡ session.callers + 1
many_lists session =
    let many = length-map-range_with_len (caller_plan session.lines) 1 session.callers in
    omega (arith, many)

-- a list for the driver and for each caller
pub actors_of : (plan : Option (List (List Listed))) (boot : Bootstrap) (target : Target) (session : Session) (lists : List (List Listed)) → IsOfSession plan boot target session lists → HasActors plan (session.callers + 1)
actors_of plan boot target session lists of =
    subst (λ (p : Option (List (List Listed))). HasActors p (session.callers + 1)) (sym (of.plan_is ∙ ap (λ (ls : List (List Listed)). Some ls) of.lists_are)) (many_lists session)
