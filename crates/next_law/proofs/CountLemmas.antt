-- What entries of a listed event are counted as, and which steps they are.
use Rattle.std.proofs.Common.{◌≡◌, ℕ, List, [], ◌∷◌, ◌++◌, Bool, true, false, refl, sym, ap, ◌∙◌, subst, if◌then◌else◌}
use Rattle.std.specs.Prelude.{◌==◌, reverse}
use Rattle.std.proofs.lemmas.List.{reverse-append}
use Rattle.call_journal.specs.declared.event.CallerEvent.{CallerEvent}
use Rattle.call_journal.specs.declared.reply.CallerReply.{CallerReply}
use Rattle.call_journal.specs.declared.entry.What.{What}
use Rattle.call_journal.specs.declared.entry.Entry.{Entry}
use Rattle.call_journal.specs.declared.plan.Count.{Count}
use Rattle.call_journal.specs.declared.plan.ListedEvent.{ListedEvent}
use Rattle.session_script.specs.Plan.{entries_by}
use Rattle.legal_plan.specs.session_plan.PlayedEvents.{IsHold, IsOne, IsPin, is_snapshot}
use Rattle.legal_plan.proofs.session_plan.LawProofs.{by_reverse}
use Rattle.book_progress.specs.ActorCounts.{count_after, count_of, count_pinned, no_count, with_ended, with_pin, without_pin}
use Rattle.book_progress.specs.PlayedPlans.{IsCallStep, IsStep, step_in}

-- ---- counts

pub one_counts : (event : ListedEvent) (what : What) (c : Count) → IsOne event what → count_after what c ≡ with_ended c
one_counts event (What.Driver e reply) c is = refl
one_counts event (What.Caller (CallerEvent.Pick id word) reply) c is = refl
one_counts event (What.Caller (CallerEvent.Commit id) reply) c is = refl
one_counts (ListedEvent.Driver e) (What.Caller (CallerEvent.Pin call) reply) c is = absurd (cc is)
one_counts (ListedEvent.Start s) (What.Caller (CallerEvent.Pin call) reply) c is = absurd is
one_counts (ListedEvent.Pick id word) (What.Caller (CallerEvent.Pin call) reply) c is = absurd (cc is)
one_counts (ListedEvent.Commit id) (What.Caller (CallerEvent.Pin call) reply) c is = absurd (cc is)
one_counts (ListedEvent.Driver e) (What.Caller (CallerEvent.Hold call) reply) c is = absurd (cc is)
one_counts (ListedEvent.Start s) (What.Caller (CallerEvent.Hold call) reply) c is = absurd is
one_counts (ListedEvent.Pick id word) (What.Caller (CallerEvent.Hold call) reply) c is = absurd (cc is)
one_counts (ListedEvent.Commit id) (What.Caller (CallerEvent.Hold call) reply) c is = absurd (cc is)

-- a pin stays up where it got a snapshot
abbrev pub pinned_count : Bool → Count → Count
pinned_count true c = with_pin c
pinned_count false c = with_ended c

reply_counts : (reply : CallerReply) (c : Count) → count_pinned reply c ≡ pinned_count (is_snapshot reply) c
reply_counts (CallerReply.Pinned number) c = refl
reply_counts CallerReply.NoSnapshot c = refl
reply_counts (CallerReply.Routed number answer) c = refl
reply_counts (CallerReply.Endpoint number child locality place) c = refl
reply_counts (CallerReply.Queue number) c = refl
reply_counts (CallerReply.Fail number reason) c = refl
reply_counts (CallerReply.Drop number rule) c = refl
reply_counts CallerReply.NotHeld c = refl
reply_counts CallerReply.Released c = refl

pub pin_counts : (event : ListedEvent) (what : What) (got : Bool) (c : Count) → IsPin event what got → count_after what c ≡ pinned_count got c
pin_counts event (What.Driver e reply) got c h = absurd (let k = h.pin in cc k)
pin_counts event (What.Caller e reply) got c h =
    let pin = h.pin in
    let same : e ≡ CallerEvent.Pin h.call = cc pin in
    ap (λ (x : CallerEvent). count_after (What.Caller x reply) c) same ∙ (reply_counts reply c ∙ ap (λ (b : Bool). pinned_count b c) h.reply)

pub hold_counts : (event : ListedEvent) (what : What) (c : Count) → IsHold event what → count_after what c ≡ without_pin c
hold_counts event (What.Driver e reply) c h = absurd (let k = h.hold in cc k)
hold_counts event (What.Caller e reply) c h =
    let hold = h.hold in
    let same : e ≡ CallerEvent.Hold h.call = cc hold in
    ap (λ (x : CallerEvent). count_after (What.Caller x reply) c) same

-- ---- steps

pub one_step : (event : ListedEvent) (what : What) → IsOne event what → IsStep (step_in what) event 0
one_step (ListedEvent.Driver e) (What.Driver other reply) is = let same : other ≡ e = cc is in (ap ListedEvent.Driver (sym same), refl)
one_step (ListedEvent.Driver e) (What.Caller other reply) is = absurd (cc is)
one_step (ListedEvent.Start call) what is = absurd is
one_step (ListedEvent.Pick id word) (What.Driver other reply) is = absurd (cc is)
one_step (ListedEvent.Pick id word) (What.Caller other reply) is =
    let same : other ≡ CallerEvent.Pick id word = cc is in
    subst (λ (x : CallerEvent). IsCallStep x (ListedEvent.Pick id word) 0) (sym same) (refl, refl)
one_step (ListedEvent.Commit id) (What.Driver other reply) is = absurd (cc is)
one_step (ListedEvent.Commit id) (What.Caller other reply) is =
    let same : other ≡ CallerEvent.Commit id = cc is in
    subst (λ (x : CallerEvent). IsCallStep x (ListedEvent.Commit id) 0) (sym same) (refl, refl)

pub pin_step : (event : ListedEvent) (what : What) (got : Bool) → IsPin event what got → IsStep (step_in what) event 0
pin_step event (What.Driver e reply) got h = absurd (let k = h.pin in cc k)
pin_step event (What.Caller e reply) got h =
    let pin = h.pin in
    let same : e ≡ CallerEvent.Pin h.call = cc pin in
    subst (λ (x : CallerEvent). IsCallStep x event 0) (sym same) (h.start, refl)

pub hold_step : (event : ListedEvent) (what : What) → IsHold event what → IsStep (step_in what) event 1
hold_step event (What.Driver e reply) h = absurd (let k = h.hold in cc k)
hold_step event (What.Caller e reply) h =
    let hold = h.hold in
    let same : e ≡ CallerEvent.Hold h.call = cc hold in
    subst (λ (x : CallerEvent). IsCallStep x event 1) (sym same) (h.start, refl)

-- ---- the count of an actor, by its own entries

-- a count behind further entries of its actor, the oldest first
abbrev pub counted : Count → List Entry → Count
counted c [] = c
counted c (e ∷ es) = counted (count_after e.what c) es

counted_last : (c : Count) (es : List Entry) (e : Entry) → counted c (es ++ e ∷ []) ≡ count_after e.what (counted c es)
counted_last c [] e = refl
counted_last c (x ∷ xs) e = counted_last (count_after x.what c) xs e

counted_newest : (c : Count) (e : Entry) (es : List Entry) → counted c (reverse (e ∷ es)) ≡ count_after e.what (counted c (reverse es))
counted_newest c e es = ap (counted c) (reverse-append (e ∷ []) es) ∙ counted_last c (reverse es) e

count_by : (b : Bool) (c : Count) (e : Entry) (es : List Entry) → c ≡ counted no_count (reverse es) → (if b then count_after e.what c else c) ≡ counted no_count (reverse (if b then e ∷ es else es))
count_by true c e es is = ap (count_after e.what) is ∙ sym (counted_newest no_count e es)
count_by false c e es is = is

count_newest : (actor : ℕ) (history : List Entry) → count_of actor history ≡ counted no_count (reverse (entries_by actor history))
count_newest actor [] = refl
count_newest actor (e ∷ past) = count_by (e.actor == actor) (count_of actor past) e (entries_by actor past) (count_newest actor past)

pub count_is : (actor : ℕ) (history : List Entry) → count_of actor history ≡ counted no_count (entries_by actor (reverse history))
count_is actor history = count_newest actor history ∙ ap (counted no_count) (sym (by_reverse actor history))
