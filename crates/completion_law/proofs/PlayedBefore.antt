-- The newest entry of a history that plays a plan was the next one of its actor, and the entries before it play the plan.
use Rattle.std.proofs.Common.{◌≡◌, ◌<◌, ℕ, suc, ◌+◌, Bool, true, false, List, [], ◌∷◌, length, All, Some, refl, sym, ap, ◌∙◌, subst, eq-eqb, if◌then◌else◌, arith}
use Rattle.std.specs.Prelude.{◌==◌, slice_get}
use Rattle.std.proofs.lemmas.Bool.{cond-true}
use Rattle.std.proofs.lemmas.List.Elements.{All-cons, All-nil}
use Rattle.std.proofs.lemmas.Option.{slice_get_within}
use Rattle.call_journal.specs.declared.reply.CallerReply.{CallerReply}
use Rattle.call_journal.specs.declared.entry.Entry.{Entry}
use Rattle.call_journal.specs.declared.entry.What.{What}
use Rattle.call_journal.specs.declared.plan.Count.{Count}
use Rattle.call_journal.specs.declared.plan.Listed.{Listed}
use Rattle.call_journal.specs.declared.plan.ListedEvent.{ListedEvent}
use Rattle.session_script.specs.Plan as script
use Rattle.session_plan.specs.PlayedEvents as events
use Rattle.book_progress.specs.ActorCounts.{actor_entries, count_after, count_of, no_count}
use Rattle.book_progress.specs.PlayedPlans as played
use Rattle.book_progress.specs.PlayedPlans.{AreGated, HasPlayed, IsGated, IsListed, IsNextOf, IsPlanPlayed, IsStep, step_in}
use Rattle.sweep_law.proofs.next_law.CountLemmas.{hold_counts, hold_step, one_counts, one_step, pin_counts, pin_step}
use Rattle.sweep_law.proofs.next_law.PlayLemmas.{IsNextIn, count}

-- ---- the two words for the entries of a listed event

same_driver : (what : What) → script.driver_event what ≡ played.driver_event what
same_driver (What.Driver event reply) = refl
same_driver (What.Caller event reply) = refl

same_caller : (what : What) → script.caller_event what ≡ played.caller_event what
same_caller (What.Driver event reply) = refl
same_caller (What.Caller event reply) = refl

same_pinned : (reply : CallerReply) → events.is_snapshot reply ≡ played.is_pinned reply
same_pinned (CallerReply.Pinned number) = refl
same_pinned reply = refl

same_got : (what : What) → events.got_snapshot what ≡ played.got_snapshot what
same_got (What.Driver event reply) = refl
same_got (What.Caller event reply) = same_pinned reply

one_of : (listed : ListedEvent) (what : What) → played.IsOne listed what → events.IsOne listed what
one_of (ListedEvent.Driver event) what is = same_driver what ∙ is
one_of (ListedEvent.Start call) what is = absurd is
one_of (ListedEvent.Pick id word) what is = same_caller what ∙ is
one_of (ListedEvent.Commit id) what is = same_caller what ∙ is

pin_of : (listed : ListedEvent) (what : What) (got : Bool) → played.IsPin listed what got → events.IsPin listed what got
pin_of listed what got is = record { call = is.call; start = is.start; pin = same_caller what ∙ is.pin; reply = same_got what ∙ is.reply }

hold_of : (listed : ListedEvent) (what : What) → played.IsHold listed what → events.IsHold listed what
hold_of listed what is = record { call = is.call; start = is.start; hold = same_caller what ∙ is.hold }

one_behind : (list : List Listed) (n : ℕ) (es : List Entry) → events.HasPlayed list (suc n) 0 es → events.HasPlayed list (n + 1) 0 es
one_behind list n es plays = let same : suc n ≡ n + 1 = omega arith in subst (λ (m : ℕ). events.HasPlayed list m 0 es) same plays

-- the two words for the first events of a list
pub played_of : (list : List Listed) (n pins : ℕ) (es : List Entry) → HasPlayed list n pins es → events.HasPlayed list n pins es
played_of list _ _ _ played.none = events.none
played_of list _ _ _ (played.one n next e past get line event before) =
    one_behind list n (e ∷ past) (events.one n next e past get line (one_of next.event e.what event) (played_of list n 0 past before))
played_of list _ _ _ (played.pin n next e past get line event before) =
    one_behind list n (e ∷ past) (events.pin n next e past get line (pin_of next.event e.what false event) (played_of list n 0 past before))
played_of list _ _ _ (played.up n next e past get line event before) = events.up n next e past get line (pin_of next.event e.what true event) (played_of list n 0 past before)
played_of list _ _ _ (played.held n next e past get line event before) =
    one_behind list n (e ∷ past) (events.held n next e past get line (hold_of next.event e.what event) (played_of list n 1 past before))

-- ---- how far an actor has come, by its own entries

abbrev own_count : List Entry → Count
own_count [] = no_count
own_count (e ∷ es) = count_after e.what (own_count es)

count_by : (b : Bool) (c : Count) (e : Entry) (es : List Entry) → c ≡ own_count es → (if b then count_after e.what c else c) ≡ own_count (if b then e ∷ es else es)
count_by true c e es is = ap (count_after e.what) is
count_by false c e es is = is

count_is : (actor : ℕ) (history : List Entry) → count_of actor history ≡ own_count (actor_entries actor history)
count_is actor [] = refl
count_is actor (e ∷ past) = count_by (e.actor == actor) (count_of actor past) e (actor_entries actor past) (count_is actor past)

played_count : (list : List Listed) (n pins : ℕ) (es : List Entry) → HasPlayed list n pins es → own_count es ≡ count n pins
played_count list _ _ _ played.none = refl
played_count list _ _ _ (played.one n next e past get line event before) =
    ap (count_after e.what) (played_count list n 0 past before) ∙ one_counts next.event e.what (count n 0) (one_of next.event e.what event)
played_count list _ _ _ (played.pin n next e past get line event before) =
    ap (count_after e.what) (played_count list n 0 past before) ∙ pin_counts next.event e.what false (count n 0) (pin_of next.event e.what false event)
played_count list _ _ _ (played.up n next e past get line event before) =
    ap (count_after e.what) (played_count list n 0 past before) ∙ pin_counts next.event e.what true (count n 0) (pin_of next.event e.what true event)
played_count list _ _ _ (played.held n next e past get line event before) =
    ap (count_after e.what) (played_count list n 1 past before) ∙ hold_counts next.event e.what (count n 1) (hold_of next.event e.what event)

-- ---- the newest entry of an actor

-- entries play the first of a list, as far as they count
abbrev Counts : List Listed → List Entry → Type 0
Counts list es = HasPlayed list (own_count es).ended (own_count es).pins es

-- it was the next one, and those before it play the list
record IsNewest (list : List Listed) (e : Entry) (past : List Entry) : Type 0 where
  next : IsNextIn list (own_count past) e
  before : Counts list past

abbrev HasNewest : List Listed → List Entry → Type 0
HasNewest list [] = Unit {0}
HasNewest list (e ∷ past) = IsNewest list e past

newest_by : (list : List Listed) (n pins : ℕ) (next : Listed) (e : Entry) (past : List Entry) → slice_get list n ≡ Some next → e.line ≡ next.line → IsStep (step_in e.what) next.event pins
    → HasPlayed list n pins past → IsNewest list e past
newest_by list n pins next e past get line step before =
    let is : count n pins ≡ own_count past = sym (played_count list n pins past before) in
    record {
      next = subst (λ (c : Count). IsNextIn list c e) is (record { listed = next; get = get; line = line; step = step });
      before = subst (λ (c : Count). HasPlayed list c.ended c.pins past) is before;
    }

newest_of : (list : List Listed) (n pins : ℕ) (es : List Entry) → HasPlayed list n pins es → HasNewest list es
newest_of list _ _ _ played.none = tt
newest_of list _ _ _ (played.one n next e past get line event before) =
    newest_by list n 0 next e past get line (one_step next.event e.what (one_of next.event e.what event)) before
newest_of list _ _ _ (played.pin n next e past get line event before) =
    newest_by list n 0 next e past get line (pin_step next.event e.what false (pin_of next.event e.what false event)) before
newest_of list _ _ _ (played.up n next e past get line event before) =
    newest_by list n 0 next e past get line (pin_step next.event e.what true (pin_of next.event e.what true event)) before
newest_of list _ _ _ (played.held n next e past get line event before) =
    newest_by list n 1 next e past get line (hold_step next.event e.what (hold_of next.event e.what event)) before

own_newest : (list : List Listed) (n pins : ℕ) (e : Entry) (past : List Entry) → HasPlayed list n pins (actor_entries e.actor (e ∷ past)) → IsNextIn list (count_of e.actor past) e
own_newest list n pins e past plays =
    let own : HasPlayed list n pins (e ∷ actor_entries e.actor past) =
    subst (HasPlayed list n pins) (cond-true (e.actor == e.actor) (e ∷ actor_entries e.actor past) (actor_entries e.actor past) (eq-eqb e.actor e.actor refl)) plays in
    subst (λ (c : Count). IsNextIn list c e) (sym (count_is e.actor past)) (newest_of list n pins (e ∷ actor_entries e.actor past) own).next

-- ---- a history

pub next_of_played : (plan : List (List Listed)) (e : Entry) (past : List Entry) → IsPlanPlayed plan (e ∷ past)
    → IsNextOf plan e.actor (count_of e.actor past) e.line (step_in e.what) past
next_of_played plan e past plays =
    let c : Count = count_of e.actor past in
    let now : Count = count_of e.actor (e ∷ past) in
    let gated : IsGated plan e past = plays.gated.0 in
    let is : IsListed plan e.actor c gated.listed = gated.is in
    let next : IsNextIn is.list c e = own_newest is.list now.ended now.pins e past (plays.played e.actor is.list is.actor_is) in
    let both : Some next.listed ≡ Some gated.listed = sym next.get ∙ is.next_is in
    let same : next.listed ≡ gated.listed = cc both in
    record {
      listed = gated.listed;
      is = is;
      line_is = next.line ∙ ap (λ (l : Listed). l.line) same;
      step_is = subst (λ (l : Listed). IsStep (step_in e.what) l.event c.pins) same next.step;
      gate = gated.gate;
    }

-- of an actor the entries before this one, by its own entries
before_by : (list : List Listed) (b : Bool) (next c : Count) (e : Entry) (own : List Entry) → c ≡ own_count own
    → HasPlayed list (if b then next else c).ended (if b then next else c).pins (if b then e ∷ own else own) → HasPlayed list c.ended c.pins own
before_by list true next c e own is plays = subst (λ (k : Count). HasPlayed list k.ended k.pins own) (sym is) (newest_of list next.ended next.pins (e ∷ own) plays).before
before_by list false next c e own is plays = plays

pub played_before : (plan : List (List Listed)) (e : Entry) (past : List Entry) → IsPlanPlayed plan (e ∷ past) → IsPlanPlayed plan past
played_before plan e past plays = record {
  played = λ actor list get.
      before_by list (e.actor == actor) (count_after e.what (count_of actor past)) (count_of actor past) e (actor_entries actor past) (count_is actor past) (plays.played actor list get);
  gated = plays.gated.1;
}

-- each entry is of an actor that has a list
pub all_listed : (plan : List (List Listed)) (history : List Entry) → AreGated plan history → All (λ e. e.actor < length plan) history
all_listed plan [] gated = All-nil (λ (e : Entry). e.actor < length plan)
all_listed plan (e ∷ past) gated =
    let is = gated.0.is in
    All-cons (λ (x : Entry). x.actor < length plan) e past (slice_get_within plan e.actor is.list is.actor_is) (all_listed plan past gated.1)
