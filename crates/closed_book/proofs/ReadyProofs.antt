-- In a Book that is ready to close the last sweep comes next, and after it all is played.
use Rattle.std.proofs.Common.{◌≡◌, ◌<◌, ◌≤◌, ℕ, Bool, true, false, List, ◌∷◌, ◌++◌, length, drop, get_or, All, Option, Some, None, refl, sym, ap, ◌∙◌, subst, eqb-true, eq-eqb, ne_eqb, if◌then◌else◌, arith}
use Rattle.std.specs.Prelude.{◌==◌, ◌^◌, IsTrue}
use Rattle.std.specs.List.{slice_get}
use Rattle.std.proofs.lemmas.Bool.{eqb-false}
use Rattle.std.proofs.lemmas.Option.{slice_get_within}
use Rattle.std.proofs.lemmas.List.FromFn.{length-map-range_with_len}
use Rattle.call_journal.specs.declared.entry.Entry.{Entry}
use Rattle.call_journal.specs.declared.entry.What.{What}
use Rattle.call_journal.specs.declared.event.DriverEvent.{DriverEvent}
use Rattle.call_journal.specs.declared.plan.Count.{Count}
use Rattle.call_journal.specs.declared.plan.Listed.{Listed}
use Rattle.config_assembly.specs.Orders.{Name}
use Rattle.resource_check.specs.declared.delivery.Prepared.{Prepared}
use Rattle.channel_plan.specs.xds_history.Responses.{refused_in, refused_texts}
use Rattle.book_progress.specs.ActorCounts.{count_after, count_of, with_ended}
use Rattle.book_progress.specs.PlayedPlans.{IsListed, all_ended}
use Rattle.book_progress.specs.ProgressKept.{counts_of}
use Rattle.book_progress.proofs.TallyLemmas.{count_at, count_is}
use Rattle.sweep_law.specs.SweepLaw.{listed_sweep}
use Rattle.channel_plan.specs.xds_book.BookEntries.{Drives, IsLaneOf, entry_of}
use Rattle.channel_plan.specs.xds_book.BookKept.{HasActors}
use Rattle.channel_plan.specs.xds_book.BookViews.{BookView, LaneView}
use Rattle.channel_plan.specs.lane_checks.EndedPlans.{HaveEndedTo}
use Rattle.closed_book.specs.ReadyBooks.{IsCallerOf, IsReadyToClose}

-- ---- before the last sweep

-- the driver's lane counts as the journal does
driver_count : (book : BookView) (lane : LaneView) → lane.actor ≡ 0 → book.counts ≡ counts_of (length book.counts) book.entries → IsLaneOf lane book → lane.count ≡ count_of 0 book.entries
driver_count book lane zero_is counted own =
    count_is (length book.counts) book.entries book.counts lane.actor lane.count counted own ∙ ap (λ (a : ℕ). count_of a book.entries) zero_is

-- no pin of the driver is up
pub no_pin : (plan : List (List Listed)) (book : BookView) (driver : LaneView) (lanes : List LaneView) → driver.actor ≡ 0 → book.counts ≡ counts_of (length book.counts) book.entries
    → IsReadyToClose plan book driver lanes → driver.count.pins ≡ 0
no_pin plan book driver lanes zero_is counted ready =
    ap (λ (c : Count). c.pins) (driver_count book driver zero_is counted ready.own) ∙ ap (λ (c : Count). c.pins) (ready.driven ready.sweep.list ready.sweep.actor_is)

-- the last sweep is listed next for the driver
pub sweep_listed : (plan : List (List Listed)) (book : BookView) (driver : LaneView) (lanes : List LaneView) → driver.actor ≡ 0 → book.counts ≡ counts_of (length book.counts) book.entries
    → IsReadyToClose plan book driver lanes → IsListed plan driver.actor driver.count listed_sweep
sweep_listed plan book driver lanes zero_is counted ready =
    subst (λ (a : ℕ). IsListed plan a driver.count listed_sweep) (sym zero_is)
    (subst (λ (c : Count). IsListed plan 0 c listed_sweep) (sym (driver_count book driver zero_is counted ready.own)) ready.sweep)

none_is : (listed : Listed) → None ≡ Some listed → IsTrue false
none_is listed is = absurd (cc is)

-- so something is found
pub something_listed : (plan : List (List Listed)) (book : BookView) (driver : LaneView) (lanes : List LaneView) (found : Option Listed) → driver.actor ≡ 0 → book.counts ≡ counts_of (length book.counts) book.entries
    → ((listed : Listed) → driver.count.pins ≡ 0 → IsListed plan driver.actor driver.count listed → found ≡ Some listed) → found ≡ None → IsReadyToClose plan book driver lanes → IsTrue false
something_listed plan book driver lanes found zero_is counted some none ready =
    none_is listed_sweep (sym none ∙ some listed_sweep (no_pin plan book driver lanes zero_is counted ready) (sweep_listed plan book driver lanes zero_is counted ready))

-- ---- after it

own_count : (e : Entry) (past : List Entry) → count_of e.actor (e ∷ past) ≡ count_after e.what (count_of e.actor past)
own_count e past = ap (λ b. if b then count_after e.what (count_of e.actor past) else count_of e.actor past) (eq-eqb e.actor e.actor refl)

other_count : (e : Entry) (past : List Entry) (actor : ℕ) → (actor ≡ e.actor → ⊥) → count_of actor (e ∷ past) ≡ count_of actor past
other_count e past actor other = ap (λ b. if b then count_after e.what (count_of actor past) else count_of actor past) (ne_eqb e.actor actor (λ is. other (sym is)))

counts_long : (counts : List Count) (n : ℕ) (history : List Entry) → counts ≡ counts_of n history → length counts ≡ n
counts_long counts n history is = ap length is ∙ length-map-range_with_len (λ (a : ℕ). count_of a history) 0 n

-- a caller's lane stays of the Book
stays : (old new : BookView) (before after : LaneView) (lane : LaneView) → before.actor ≡ 0 → old.counts ≡ counts_of (length old.counts) old.entries
    → Drives 0 DriverEvent.Sweep None old new before after → IsCallerOf old lane → IsLaneOf lane new
stays old new before after lane zero_is counted drives of =
    let e : Entry = entry_of before.actor 0 (What.Driver DriverEvent.Sweep drives.reply) in
    let long : length new.counts ≡ length old.counts = counts_long new.counts (length old.counts) new.entries drives.makes.counts in
    let within : lane.actor < length new.counts = subst (λ (n : ℕ). lane.actor < n) (sym long) (slice_get_within old.counts lane.actor lane.count of.own) in
    let had : lane.count ≡ count_of lane.actor old.entries = count_is (length old.counts) old.entries old.counts lane.actor lane.count counted of.own in
    let least : 0 < lane.actor = of.caller in
    let same : count_of lane.actor new.entries ≡ count_of lane.actor old.entries =
    ap (λ (h : List Entry). count_of lane.actor h) drives.makes.entries ∙ other_count e old.entries lane.actor (λ (at : lane.actor ≡ before.actor). absurd (omega (arith, at, zero_is, least))) in
    count_at (length old.counts) new.entries new.counts lane.actor drives.makes.counts within ∙ ap (λ (c : Count). Some c) (same ∙ sym had)

pub all_stay : (plan : List (List Listed)) (old new : BookView) (before after : LaneView) (lanes : List LaneView) → before.actor ≡ 0 → old.counts ≡ counts_of (length old.counts) old.entries
    → IsReadyToClose plan old before lanes → Drives 0 DriverEvent.Sweep None old new before after → All (λ lane. IsLaneOf lane new) lanes
all_stay plan old new before after lanes zero_is counted ready drives = λ k d within. stays old new before after (get_or lanes k d) zero_is counted drives (ready.callers k d within)

-- the driver's refused texts are still those of the journal
pub texts_stay : (plan : List (List Listed)) (old new : BookView) (before after : LaneView) (lanes : List LaneView) → IsReadyToClose plan old before lanes → Drives 0 DriverEvent.Sweep None old new before after
    → after.refused ≡ refused_texts new.entries
texts_stay plan old new before after lanes ready drives =
    let what : What = What.Driver DriverEvent.Sweep drives.reply in
    ap (λ (l : LaneView). l.refused) drives.makes.lane
    ∙ (ap (λ (texts : List Name). texts ++ refused_in what) ready.refused ∙ ap refused_texts (sym drives.makes.entries))

-- the driver has ended one event more, and another actor none
count_now : (plan : List (List Listed)) (old new : BookView) (before after : LaneView) (lanes : List LaneView) (actor : ℕ) (list : List Listed) (same : Bool) → (0 == actor) ≡ same → before.actor ≡ 0
    → IsReadyToClose plan old before lanes → Drives 0 DriverEvent.Sweep None old new before after → slice_get plan actor ≡ Some list → count_of actor new.entries ≡ all_ended list
count_now plan old new before after lanes actor list true is zero_is ready drives get =
    let e : Entry = entry_of before.actor 0 (What.Driver DriverEvent.Sweep drives.reply) in
    let own : before.actor ≡ actor = omega (arith, zero_is, eqb-true 0 actor is) in
    let at : slice_get plan 0 ≡ Some list = ap (λ (a : ℕ). slice_get plan a) (eqb-true 0 actor is) ∙ get in
    ap (λ (a : ℕ). count_of a new.entries) (sym own)
    ∙ (ap (λ (h : List Entry). count_of before.actor h) drives.makes.entries
    ∙ (own_count e old.entries ∙ (ap (λ (a : ℕ). with_ended (count_of a old.entries)) zero_is ∙ ready.driven list at)))
count_now plan old new before after lanes actor list false is zero_is ready drives get =
    let e : Entry = entry_of before.actor 0 (What.Driver DriverEvent.Sweep drives.reply) in
    let apart : 0 ≡ actor → ⊥ = eqb-false 0 actor is in
    ap (λ (h : List Entry). count_of actor h) drives.makes.entries
    ∙ (other_count e old.entries actor (λ (at : actor ≡ before.actor). apart (sym (at ∙ zero_is))) ∙ ready.ended actor list (grind (arith, apart)) get)

-- all that is listed has ended
pub all_have_ended : (plan : List (List Listed)) (old new : BookView) (before after : LaneView) (lanes : List LaneView) → before.actor ≡ 0 → length plan ≡ length old.counts
    → IsReadyToClose plan old before lanes → Drives 0 DriverEvent.Sweep None old new before after → HaveEndedTo (length plan) plan new.counts
all_have_ended plan old new before after lanes zero_is many ready drives actor list less get =
    let long : length new.counts ≡ length old.counts = counts_long new.counts (length old.counts) new.entries drives.makes.counts in
    count_at (length old.counts) new.entries new.counts actor drives.makes.counts (omega (arith, less, many, long))
    ∙ ap (λ (c : Count). Some c) (count_now plan old new before after lanes actor list (0 == actor) refl zero_is ready drives get)

-- so all tests of what was played hold
pub plays : (planned : Option (List (List Listed))) (plan plan_now : List (List Listed)) (old new : BookView) (before after : LaneView) (lanes lanes_now : List LaneView) (played : Bool) → planned ≡ Some plan → plan_now ≡ plan → lanes_now ≡ lanes
    → HasActors planned (length old.counts) → before.actor ≡ 0 → old.counts ≡ counts_of (length old.counts) old.entries → Drives 0 DriverEvent.Sweep None old new before after
    → (length plan_now ≤ 2 ^ 16 → after.refused ≡ refused_texts new.entries → IsLaneOf after new → All (λ lane. IsLaneOf lane new) lanes_now → HaveEndedTo (length plan_now) plan_now new.counts → IsTrue played)
    → IsReadyToClose plan old before lanes → IsTrue played
plays planned plan plan_now old new before after lanes lanes_now played is plan_is lanes_are actors zero_is counted drives all ready =
    let many : length plan ≡ length old.counts = subst (λ (p : Option (List (List Listed))). HasActors p (length old.counts)) is actors in
    all (subst (λ (p : List (List Listed)). length p ≤ 2 ^ 16) (sym plan_is) ready.few) (texts_stay plan old new before after lanes ready drives) drives.makes.counted
    (subst (λ (ls : List LaneView). All (λ lane. IsLaneOf lane new) ls) (sym lanes_are) (all_stay plan old new before after lanes zero_is counted ready drives))
    (subst (λ (p : List (List Listed)). HaveEndedTo (length p) p new.counts) (sym plan_is) (all_have_ended plan old new before after lanes zero_is many ready drives))

-- the entries before the last sweep are those of the Book
pub past_of : (line : ℕ) (event : DriverEvent) (prepared : Option Prepared) (old new : BookView) (before after : LaneView) → Drives line event prepared old new before after → drop 1 new.entries ≡ old.entries
past_of line event prepared old new before after drives = ap (λ (es : List Entry). drop 1 es) drives.makes.entries
