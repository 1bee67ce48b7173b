-- What is left of a plan, one event after another.
use Rattle.std.proofs.Common.{◌≡◌, ◌<◌, ◌≤◌, ℕ, zero, suc, ◌+◌, List, [], ◌∷◌, ◌++◌, length, Bool, true, false, Option, Some, None, refl, sym, ap, ◌∙◌, subst, arith, append_assoc, append-nil, length-append, eqb-true}
use Rattle.std.specs.Prelude.{◌==◌}
use Rattle.std.specs.List.{slice_get}
use Rattle.call_journal.specs.declared.entry.Entry.{Entry}
use Rattle.call_journal.specs.declared.plan.Count.{Count}
use Rattle.call_journal.specs.declared.plan.Listed.{Listed}
use Rattle.book_progress.specs.ActorCounts.{count_of, with_ended}
use Rattle.book_progress.specs.EndedLines.{IsOpen}
use Rattle.book_progress.specs.PlayedPlans.{IsNextOf, IsStep, Step}
use Rattle.session_player.specs.LineProgress.{HaveLeft, IsLeft}

-- ---- one list

get_behind : {X : Type 0} (front : List X) (x : X) (xs : List X) → slice_get (front ++ x ∷ xs) (length front) ≡ Some x
get_behind [] x xs = refl
get_behind (y ∷ ys) x xs = get_behind ys x xs

pub next_left : (list : List Listed) (n : ℕ) (item : Listed) (rest : List Listed) → IsLeft list n (item ∷ rest) → slice_get list n ≡ Some item
next_left list n item rest left =
    ap (λ (xs : List Listed). slice_get xs n) left.whole ∙ (ap (λ (m : ℕ). slice_get (left.front ++ item ∷ rest) m) (sym left.many) ∙ get_behind left.front item rest)

left_more : (list : List Listed) (n : ℕ) (item : Listed) (rest : List Listed) → IsLeft list n (item ∷ rest) → IsLeft list (n + 1) rest
left_more list n item rest left = record {
  front = left.front ++ item ∷ [];
  whole = left.whole ∙ sym (append_assoc left.front (item ∷ []) rest);
  many = (let more = length-append left.front (item ∷ []) in let many = left.many in omega (arith, more, many));
}

pub left_none : (list : List Listed) (n : ℕ) → IsLeft list n [] → n ≡ length list
left_none list n left = sym left.many ∙ ap length (sym (append-nil left.front) ∙ sym left.whole)

-- ---- all actors

by_actor : (plan : List (List Listed)) (left after : ℕ → List Listed) (actor other : ℕ) (b : Bool) (item : Listed) (history new : List Entry) → HaveLeft plan left history → (actor == other) ≡ b
    → left actor ≡ item ∷ after actor → ((k : ℕ) → (actor == k) ≡ false → left k ≡ after k)
    → count_of actor new ≡ with_ended (count_of actor history) → ((k : ℕ) → (actor == k) ≡ false → count_of k new ≡ count_of k history)
    → (list : List Listed) → slice_get plan other ≡ Some list → IsLeft list (count_of other new).ended (after other)
by_actor plan left after actor other true item history new have is own others counted kept list get =
    let same : actor ≡ other = eqb-true actor other is in
    let here : slice_get plan actor ≡ Some list = subst (λ (k : ℕ). slice_get plan k ≡ Some list) (sym same) get in
    let before : IsLeft list (count_of actor history).ended (item ∷ after actor) = subst (λ (xs : List Listed). IsLeft list (count_of actor history).ended xs) own (have.each actor list here) in
    let now : IsLeft list ((count_of actor history).ended + 1) (after actor) = left_more list (count_of actor history).ended item (after actor) before in
    let now_at : IsLeft list (count_of actor new).ended (after actor) = subst (λ (c : Count). IsLeft list c.ended (after actor)) (sym counted) now in
    subst (λ (k : ℕ). IsLeft list (count_of k new).ended (after k)) same now_at
by_actor plan left after actor other false item history new have is own others counted kept list get =
    subst (λ (c : Count). IsLeft list c.ended (after other)) (sym (kept other is)) (subst (λ (xs : List Listed). IsLeft list (count_of other history).ended xs) (others other is) (have.each other list get))

pins_by : (actor other : ℕ) (b : Bool) (history new : List Entry) → ((k : ℕ) → (count_of k history).pins ≡ 0) → (actor == other) ≡ b
    → count_of actor new ≡ with_ended (count_of actor history) → ((k : ℕ) → (actor == k) ≡ false → count_of k new ≡ count_of k history) → (count_of other new).pins ≡ 0
pins_by actor other true history new none is counted kept =
    let same : actor ≡ other = eqb-true actor other is in
    subst (λ (k : ℕ). (count_of k new).pins ≡ 0) same (ap (λ (c : Count). c.pins) counted ∙ none actor)
pins_by actor other false history new none is counted kept = ap (λ (c : Count). c.pins) (kept other is) ∙ none other

-- an event of an actor has ended
pub one_left : (plan : List (List Listed)) (left after : ℕ → List Listed) (actor : ℕ) (item : Listed) (history new : List Entry) → HaveLeft plan left history
    → left actor ≡ item ∷ after actor → ((k : ℕ) → (actor == k) ≡ false → left k ≡ after k)
    → count_of actor new ≡ with_ended (count_of actor history) → ((k : ℕ) → (actor == k) ≡ false → count_of k new ≡ count_of k history)
    → HaveLeft plan after new
one_left plan left after actor item history new have own others counted kept = record {
  each = λ other list get. by_actor plan left after actor other (actor == other) item history new have refl own others counted kept list get;
  pins = λ other. pins_by actor other (actor == other) history new have.pins refl counted kept;
}

-- the same events are left
pub same_left : (plan : List (List Listed)) (left after : ℕ → List Listed) (history : List Entry) → ((k : ℕ) → left k ≡ after k) → HaveLeft plan left history → HaveLeft plan after history
same_left plan left after history same have = record {
  each = λ actor list get. subst (λ (xs : List Listed). IsLeft list (count_of actor history).ended xs) (same actor) (have.each actor list get);
  pins = have.pins;
}

-- the first event that is left to an actor is the next one
pub next_of : (plan : List (List Listed)) (left : ℕ → List Listed) (actor : ℕ) (list : List Listed) (item : Listed) (rest : List Listed) (line : ℕ) (step : Step) (history : List Entry)
    → HaveLeft plan left history → slice_get plan actor ≡ Some list → left actor ≡ item ∷ rest → line ≡ item.line → IsStep step item.event 0 → IsOpen item.after history
    → IsNextOf plan actor (count_of actor history) line step history
next_of plan left actor list item rest line step history have get is line_is step_is gate = record {
  listed = item;
  is = record {
    list = list;
    actor_is = get;
    next_is = next_left list (count_of actor history).ended item rest (subst (λ (xs : List Listed). IsLeft list (count_of actor history).ended xs) is (have.each actor list get));
  };
  line_is = line_is;
  step_is = subst (λ (n : ℕ). IsStep step item.event n) (sym (have.pins actor)) step_is;
  gate = gate;
}
