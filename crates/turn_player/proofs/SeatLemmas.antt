-- The seats of a Book's actors, one entry on.
use Rattle.std.proofs.Common.{◌≡◌, ◌<◌, ℕ, Bool, true, false, ◌==◌, if◌then◌else◌, List, [], ◌∷◌, ◌++◌, length, slice_set, Some, refl, sym, ap, ◌∙◌, subst, append-nil, eqb-true, ne_eqb}
use Rattle.std.proofs.lemmas.Bool.{eqb-false}
use Rattle.std.specs.Prelude.{slice_get}
use Rattle.std.proofs.lemmas.Option.{same_Some, slice_get_within}
use Rattle.std.proofs.lemmas.List.{length-set}
use Rattle.std.proofs.lemmas.List.FromFn.{length-map-range_with_len}
use Rattle.call_journal.specs.declared.entry.Entry.{Entry}
use Rattle.call_journal.specs.declared.entry.What.{What}
use Rattle.call_journal.specs.declared.plan.Count.{Count}
use Rattle.call_journal.specs.declared.plan.ListedEvent.{ListedEvent}
use Rattle.config_assembly.specs.Orders.{Name}
use Rattle.turn_steps.specs.xds_history.Responses.{refused_in, refused_texts}
use Rattle.book_progress.specs.ActorCounts.{count_after, count_of}
use Rattle.book_progress.specs.ProgressKept.{counts_of}
use Rattle.book_progress.proofs.TallyLemmas.{count_at, count_is}
use Rattle.turn_steps.proofs.book_streams.MarkLemmas.{set_elsewhere, set_here}
use Rattle.session_player.specs.xds_book.BookEntries.{IsLaneOf, entry_of}
use Rattle.session_player.specs.xds_book.BookViews.{BookView}
use Rattle.turn_player.specs.TurnPlans.{SeatView}
use Rattle.turn_player.specs.DueEvents.{IsOf, ListsOf, MakesTurn, played_by, told_by}
use Rattle.turn_player.specs.TableSeats.{AreSeated, IsSeatOf, IsTurnPlayed, ListsIn}
use Rattle.turn_player.specs.TablePlaces.{PlaysOnce}

other_count : (e : Entry) (past : List Entry) (actor : ℕ) → (actor ≡ e.actor → ⊥) → count_of actor (e ∷ past) ≡ count_of actor past
other_count e past actor other = ap (λ b. if b then count_after e.what (count_of actor past) else count_of actor past) (ne_eqb e.actor actor (λ is. other (sym is)))

counts_long : (counts : List Count) (n : ℕ) (history : List Entry) → counts ≡ counts_of n history → length counts ≡ n
counts_long counts n history is = ap length is ∙ length-map-range_with_len (λ (a : ℕ). count_of a history) 0 n

-- a lane of another actor stays of the Book
stays : (line : ℕ) (event : ListedEvent) (texts : List Name) (old new : BookView) (before after : SeatView) (actor : ℕ) (seat : SeatView) → old.counts ≡ counts_of (length old.counts) old.entries
    → MakesTurn line event texts old new before after → (actor ≡ before.lane.actor → ⊥) → seat.lane.actor ≡ actor → IsLaneOf seat.lane old → IsLaneOf seat.lane new
stays line event texts old new before after actor seat counted makes other is own =
    let e : Entry = entry_of before.lane.actor line makes.what in
    let long : length new.counts ≡ length old.counts = counts_long new.counts (length old.counts) new.entries makes.makes.counts in
    let lt : seat.lane.actor < length new.counts = subst (λ (n : ℕ). seat.lane.actor < n) (sym long) (slice_get_within old.counts seat.lane.actor seat.lane.count own) in
    let had : seat.lane.count ≡ count_of seat.lane.actor old.entries = count_is (length old.counts) old.entries old.counts seat.lane.actor seat.lane.count counted own in
    let same : count_of seat.lane.actor new.entries ≡ count_of seat.lane.actor old.entries =
    ap (λ (h : List Entry). count_of seat.lane.actor h) makes.makes.entries ∙ other_count e old.entries seat.lane.actor (λ (at : seat.lane.actor ≡ before.lane.actor). other (sym is ∙ at)) in
    count_at (length old.counts) new.entries new.counts seat.lane.actor makes.makes.counts lt ∙ ap (λ (c : Count). Some c) (same ∙ sym had)

-- a caller's entry tells no texts
calls_tell_none : (what : What) (event : ListedEvent) (actor : ℕ) → played_by what ≡ event → IsOf actor event → (actor ≡ 0 → ⊥) → refused_in what ≡ []
calls_tell_none (What.Driver own reply) event actor is of other = absurd (other (subst (λ (e : ListedEvent). IsOf actor e) (sym is) of))
calls_tell_none (What.Caller own reply) event actor is of other = refl

-- what the entries tell as refused, one entry on
texts_on : (line : ℕ) (event : ListedEvent) (texts : List Name) (old new : BookView) (before after : SeatView) (makes : MakesTurn line event texts old new before after)
    → refused_texts new.entries ≡ refused_texts old.entries ++ refused_in makes.what
texts_on line event texts old new before after makes = ap refused_texts makes.makes.entries

-- the seat at which a turn is played is one after it, and so are all others
seat_on : (same : Bool) (line : ℕ) (event : ListedEvent) (texts : List Name) (old new : BookView) (seats : List SeatView) (place : ℕ) (seat later : SeatView) → AreSeated old seats → slice_get seats place ≡ Some seat
    → MakesTurn line event texts old new seat later → (actor : ℕ) (other : SeatView) → (actor == place) ≡ same → slice_get (slice_set seats place later) actor ≡ Some other → IsSeatOf new actor other
seat_on true line event texts old new seats place seat later seated at makes actor other same get =
    let here : actor ≡ place = eqb-true actor place same in
    let lt : place < length seats = slice_get_within seats place seat at in
    let is : other ≡ later = same_Some other later (sym get ∙ ap (λ (a : ℕ). slice_get (slice_set seats place later) a) here ∙ set_here seats place later lt) in
    let stood : IsSeatOf old place seat = seated.each place seat at in
    let own : IsSeatOf new actor later = record {
      actor_is = ap (λ l. l.actor) makes.makes.lane ∙ stood.actor_is ∙ sym here;
      own = makes.makes.counted;
      free = makes.free;
      refused = λ (driver : actor ≡ 0).
          ap (λ l. l.refused) makes.makes.lane
          ∙ (ap (λ (ts : List Name). ts ++ refused_in makes.what) (stood.refused (sym here ∙ driver)) ∙ sym (texts_on line event texts old new seat later makes));
    } in
    subst (λ (s : SeatView). IsSeatOf new actor s) (sym is) own
seat_on false line event texts old new seats place seat later seated at makes actor other same get =
    let apart : actor ≡ place → ⊥ = eqb-false actor place same in
    let stood : IsSeatOf old place seat = seated.each place seat at in
    let had : IsSeatOf old actor other = seated.each actor other (sym (set_elsewhere seats place actor later apart) ∙ get) in
    record {
      actor_is = had.actor_is;
      own = stays line event texts old new seat later actor other seated.counted makes (λ (e : actor ≡ seat.lane.actor). apart (e ∙ stood.actor_is)) had.actor_is had.own;
      free = had.free;
      refused = λ (driver : actor ≡ 0).
          let none : refused_in makes.what ≡ [] =
          calls_tell_none makes.what event seat.lane.actor makes.event_is makes.of (λ (own : seat.lane.actor ≡ 0). apart (driver ∙ sym own ∙ stood.actor_is)) in
          had.refused driver ∙ sym (texts_on line event texts old new seat later makes ∙ ap (λ (ts : List Name). refused_texts old.entries ++ ts) none ∙ append-nil (refused_texts old.entries));
    }

pub seated_on : (line : ℕ) (event : ListedEvent) (texts : List Name) (old new : BookView) (seats : List SeatView) (place : ℕ) (seat later : SeatView) → AreSeated old seats → slice_get seats place ≡ Some seat
    → MakesTurn line event texts old new seat later → AreSeated new (slice_set seats place later)
seated_on line event texts old new seats place seat later seated at makes =
    let long : length new.counts ≡ length old.counts = counts_long new.counts (length old.counts) new.entries makes.makes.counts in
    record {
      counted = subst (λ (n : ℕ). new.counts ≡ counts_of n new.entries) (sym long) makes.makes.counts;
      many = length-set seats place later ∙ seated.many ∙ sym long;
      each = λ actor other get. seat_on (actor == place) line event texts old new seats place seat later seated at makes actor other refl get;
    }

-- ---- what a turn has made

pub played_seats : (actor line : ℕ) (event : ListedEvent) (texts : List Name) (old new : BookView) (before after : List SeatView) → PlaysOnce actor line event texts old new before after → AreSeated old before → AreSeated new after
played_seats actor line event texts old new before after once seated =
    subst (λ (seats : List SeatView). AreSeated new seats) (sym once.seats) (seated_on line event texts old new before actor once.seat once.later seated once.at once.turn)

told : (what : What) (event : ListedEvent) (texts : List Name) (lines : List ℕ) → played_by what ≡ event → refused_in what ≡ told_by what texts → (listed : List Name) → (ListsOf event lines listed → texts ≡ listed)
    → ListsIn what lines listed → refused_in what ≡ told_by what listed
told (What.Driver event reply) other texts lines is tells listed known lists =
    let texts_are : texts ≡ listed = known (subst (λ (e : ListedEvent). ListsOf e lines listed) is lists) in
    tells ∙ ap (λ (ts : List Name). told_by (What.Driver event reply) ts) texts_are
told (What.Caller event reply) other texts lines is tells listed known lists = refl

pub turn_of : (actor line : ℕ) (event : ListedEvent) (texts : List Name) (lines : List ℕ) (old new : BookView) (before after : List SeatView) (told_before tells : List Name) → PlaysOnce actor line event texts old new before after → AreSeated old before
    → ((listed : List Name) → ListsOf event lines listed → tells ≡ told_before → texts ≡ listed) → IsTurnPlayed actor line lines old new told_before tells
turn_of actor line event texts lines old new before after told_before tells once seated known =
    let turn : MakesTurn line event texts old new once.seat once.later = once.turn in
    record {
      what = turn.what;
      entries = turn.makes.entries ∙ ap (λ (a : ℕ). entry_of a line turn.what ∷ old.entries) (seated.each actor once.seat once.at).actor_is;
      goes_on = turn.makes.goes_on;
      refused = λ listed lists same. told turn.what event texts lines turn.event_is turn.refused listed (λ of. known listed of same) lists;
    }
