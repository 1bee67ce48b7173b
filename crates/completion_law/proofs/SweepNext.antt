-- Where all lines of a session have ended, all is played but the last sweep, which comes next. So a plan can always be played on.
use Rattle.std.proofs.Common.{◌≡◌, ◌≤◌, ◌<◌, ◌+◌, ℕ, zero, suc, Bool, List, [], ◌∷◌, ◌++◌, length, true, false, Some, inl, inr, refl, sym, ap, ap₂, ◌∙◌, subst, ⊎_elim, arith, append-nil, not-suc-le-zero}
use Rattle.std.specs.Prelude.{slice_get}
use Rattle.std.proofs.lemmas.Bool.{cases_lt}
use Rattle.call_journal.specs.declared.event.DriverEvent.{DriverEvent}
use Rattle.call_journal.specs.declared.entry.Entry.{Entry}
use Rattle.call_journal.specs.declared.plan.Count.{Count}
use Rattle.call_journal.specs.declared.plan.Listed.{Listed}
use Rattle.session_lines.specs.declared.session.Session.{Session}
use Rattle.session_script.specs.Plan.{none_up}
use Rattle.session_plan.specs.PlanOfSession.{driver_plan, plan_of}
use Rattle.session_plan.specs.ReadablePayloads.{is_response}
use Rattle.session_plan.proofs.DriverLemmas.{list_end}
use Rattle.book_progress.specs.ActorCounts.{actor_entries, count_of, with_ended}
use Rattle.book_progress.specs.EndedLines.{has_ended}
use Rattle.book_progress.specs.PlayedPlans.{HasPlayed, IsPlanPlayed, all_ended}
use Rattle.sweep_law.proofs.next_law.ListLemmas.{IsListFor, caller, driver, list_for}
use Rattle.sweep_law.proofs.next_law.PlayLemmas.{count}
use Rattle.sweep_law.specs.SweepLaw.{listed_sweep}
use Rattle.sweep_law.proofs.ListLemmas as sweep
use Rattle.completion_law.specs.CompletionLaw.{AlwaysGoesOn, HasNoSweep, IsAtSweep}
use Rattle.completion_law.proofs.LineItems.{left_to}
use Rattle.completion_law.proofs.PlayedItems as items
use Rattle.completion_law.proofs.PlanWalk.{AreBehind, AreEndedTo, IsBehind, IsWalked, walk}

-- ---- a caller

all_played : (list : List Listed) (c : Count) (es : List Entry) → IsBehind list c.ended [] → HasPlayed list c.ended c.pins es → c ≡ all_ended list
all_played list c es behind plays =
    let long : length list ≡ length behind.front = ap length (behind.whole ∙ append-nil behind.front) in
    let within : c.ended + c.pins ≤ length list = items.played_within list c.ended c.pins es plays in
    let most = behind.most in
    let ended : c.ended ≡ length list = omega (arith, long, within, most) in
    let pins : c.pins ≡ 0 = omega (arith, long, within, most) in
    ap₂ count ended pins

caller_ends : (session : Session) (past : List Entry) → IsPlanPlayed (plan_of is_response session) past → IsWalked session past → (caller : ℕ) (list : List Listed) → 1 ≤ caller
    → slice_get (plan_of is_response session) caller ≡ Some list → count_of caller past ≡ all_ended list
caller_ends session past plays walked zero list least get = absurd (not-suc-le-zero least)
caller_ends session past plays walked (suc k) list least get =
    all_played list (count_of (suc k) past) (actor_entries (suc k) past) (walked.behind (suc k) list get) (plays.played (suc k) list get)

-- ---- the driver

-- the driver has the last sweep next, and no pin is up
record IsLast (list : List Listed) (c : Count) : Type 0 where
  next : slice_get list c.ended ≡ Some listed_sweep
  pins : c.pins ≡ 0
  many : c.ended + 1 ≡ length list

sweep_last : (front : List Listed) (c : Count) (es : List Entry) → length front ≤ c.ended → has_ended 0 es ≡ false → HasPlayed (front ++ listed_sweep ∷ []) c.ended c.pins es
    → IsLast (front ++ listed_sweep ∷ []) c
sweep_last front c es most none plays =
    let list : List Listed = front ++ listed_sweep ∷ [] in
    let at : slice_get list (length front) ≡ Some listed_sweep = sweep.last_at front listed_sweep in
    ⊎_elim
    (λ (lt : length front < c.ended).
    let swept : has_ended 0 es ≡ true = items.item_ended list c.ended c.pins es (length front) listed_sweep plays at lt refl in
    absurd (cc (none, swept)))
    (λ (le : c.ended ≤ length front).
    let ended : length front ≡ c.ended = omega (arith, most, le) in
    let next : slice_get list c.ended ≡ Some listed_sweep = ap (slice_get list) (sym ended) ∙ at in
    let long : length list ≡ length front + 1 = sweep.one_longer front listed_sweep in
    record {
      next = next;
      pins = items.none_up list c.ended c.pins es listed_sweep DriverEvent.Sweep plays next refl;
      many = omega (arith, ended, long);
    })
    (cases_lt (length front) c.ended)

driver_last : (list : List Listed) (c : Count) (es : List Entry) → IsBehind list c.ended (listed_sweep ∷ []) → has_ended 0 es ≡ false → HasPlayed list c.ended c.pins es → IsLast list c
driver_last list c es behind none plays =
    subst (λ (ls : List Listed). IsLast ls c) (sym behind.whole)
    (sweep_last behind.front c es behind.most none (subst (λ (ls : List Listed). HasPlayed ls c.ended c.pins es) behind.whole plays))

-- the driver's own entries have no sweep where all have none
none_own : (actor line : ℕ) (past : List Entry) → has_ended line past ≡ false → has_ended line (actor_entries actor past) ≡ false
none_own actor line past none = by_test (has_ended line (actor_entries actor past)) (items.own_ended actor line past)
  where
    by_test : (b : Bool) → (b ≡ true → has_ended line past ≡ true) → b ≡ false
    by_test true f = let k = f refl in absurd (cc (k, none))
    by_test false f = refl

some_same : (x y : List Listed) → Some x ≡ Some y → x ≡ y
some_same x y is = cc is

driver_ends : (c : Count) (own list : List Listed) → IsLast own c → own ≡ list → with_ended c ≡ all_ended list
driver_ends c own list last is = ap₂ count (last.many ∙ ap length is) last.pins

at_sweep : (session : Session) (past : List Entry) → IsPlanPlayed (plan_of is_response session) past → HasNoSweep past → IsWalked session past → IsAtSweep (plan_of is_response session) past
at_sweep session past plays none walked =
    let own : List Listed = driver_plan is_response session.lines in
    let behind : IsBehind own (count_of 0 past).ended (listed_sweep ∷ []) =
    subst (λ (ls : List Listed). IsBehind own (count_of 0 past).ended ls) (list_end is_response walked.streams) (walked.behind 0 own refl) in
    let last : IsLast own (count_of 0 past) = driver_last own (count_of 0 past) (actor_entries 0 past) behind (none_own 0 0 past (items.not_swept past none)) (plays.played 0 own refl) in
    record {
      callers = caller_ends session past plays walked;
      driven = λ list get. driver_ends (count_of 0 past) own list last (some_same own list get);
      listed = record { list = own; actor_is = refl; next_is = last.next };
      next = record {
        listed = listed_sweep;
        is = record { list = own; actor_is = refl; next_is = last.next };
        line_is = refl;
        step_is = (refl, last.pins);
        gate = tt;
      };
    }

-- ---- all actors

-- no line is before line 5
none_before : (past : List Entry) → AreEndedTo 5 past
none_before past = λ line least less. absurd (omega (arith, least, less))

-- before the first line all is left
list_behind : (session : Session) (past : List Entry) (actor : ℕ) (list : List Listed) → IsListFor session actor list → IsBehind list (count_of actor past).ended (left_to none_up session.lines actor)
list_behind session past _ _ driver = record { front = []; whole = refl; most = omega arith }
list_behind session past _ _ (caller k less) = record { front = []; whole = refl; most = omega arith }

none_behind : (session : Session) (past : List Entry) → AreBehind session past none_up session.lines
none_behind session past = λ actor list get. list_behind session past actor list (list_for session actor list get)

pub always_goes_on : AlwaysGoesOn
always_goes_on session past are plays none =
    ⊎_elim inl (λ walked. inr (at_sweep session past plays none walked))
    (walk session past none_up [] session.lines plays are (none_before past) (none_behind session past))
