-- What is kept of calls, one entry on.
use Rattle.std.proofs.Common.{◌≡◌, ℕ, ◌+◌, ◌-◌, ◌==◌, arith, Bool, true, false, Option, Some, None, Result, Ok, Err, List, [], ◌∷◌, ◌++◌, length, refl, sym, ap, ◌∙◌, subst, if◌then◌else◌, eqb-true, option_map, option_and_then}
use Rattle.std.specs.Prelude.{not, slice_get, IfSome, OnErr}
use Rattle.std.proofs.lemmas.Option.{IfSome_then}
use Rattle.std.specs.Option.{option_map_or}
use Rattle.std.specs.Map.{lookup}
use Rattle.std.specs.BTreeMap.{BTreeMap}
use Rattle.std.proofs.lemmas.List.{append-nil}
use Rattle.std.proofs.lemmas.List.Elements.{All-get_or, All-push}
use Rattle.std.proofs.lemmas.Option.{slice_get_within, get_or_from_slice_get}
use Rattle.boxcar.specs.Table.{Shelves, Where}
use Rattle.xc_base.specs.declared.names.CallId.{CallId}
use Rattle.xc_base.specs.declared.call.Call.{Call}
use Rattle.route_match.specs.declared.answer.RouteAnswer.{RouteAnswer}
use Rattle.route_match.specs.Routes.{route}
use Rattle.cluster_tree.specs.declared.snapshot.Snapshot.{Snapshot}
use Rattle.cluster_refs.specs.declared.pins.Pin.{Pin}
use Rattle.cluster_refs.specs.CallReferences.{References, hold_of, is_call, IsHeld, IsListOf, SetsPin, SetsHold}
use Rattle.snapshot_store.specs.Tickets.{IsTicketOf, AreTicketsOf, values_of}
use Rattle.call_journal.specs.declared.event.DriverEvent.{DriverEvent}
use Rattle.call_journal.specs.declared.event.CallerEvent.{CallerEvent}
use Rattle.call_journal.specs.declared.reply.DriverReply.{DriverReply}
use Rattle.call_journal.specs.declared.reply.CallerReply.{CallerReply}
use Rattle.call_journal.specs.declared.entry.What.{What}
use Rattle.call_journal.specs.declared.entry.Entry.{Entry}
use Rattle.xds_history.specs.config_assembly.Orders.{Name}
use Rattle.xds_history.specs.Setting.{Setting}
use Rattle.xds_history.specs.declared.page.Page.{Page}
use Rattle.xds_history.specs.Page.{latest, latest_number}
use Rattle.xds_history.specs.References.{snapshot_at, routed_to, found_in, pinned, held, names_in, references, references_seen, snapshots_of}
use Rattle.xds_history.specs.Pages.{pages, page_of, caller_page, called, driven}
use Rattle.xds_history.specs.Right.{Right, caller_reply, hold_reply, pin_reply}
use Rattle.book_calls.specs.declared.pinning.Pinning.{Pinning}
use Rattle.book_calls.specs.declared.latest_snapshot.Latest.{Latest}
use Rattle.book_calls.specs.declared.calls.Calls.{Calls}
use Rattle.book_calls.specs.RefsKept.{names_at, list_at, AreRefsAt, at_call, SetsBoth}
use Rattle.book_calls.specs.CallsKept.{IsTicketAt, IsLatestOf, AreOwn, AreCallsAt, IsRouted}
use Rattle.book_calls.specs.CallsLaws.{PicksLeave}
use Rattle.book_calls.specs.SeenReferences.{IsHeldBy}
use Rattle.book_calls.proofs.SnapshotNumbers.{push_here, length_push, same_list, same_latest, new_list, new_latest, are_numbered, pins_have_snapshots}
use Rattle.book_calls.proofs.SnapshotPlaces.{get_more, map_push, length_map, ticket_reads, latest_found}
use Rattle.book_calls.proofs.RefSteps.{is_same, same_id, pin_still, hold_still, pinned_after_pin, pinned_after_hold, held_after_hold, held_after_commit, refs_pinned, refs_unpinned, refs_held, refs_unheld, refs_released, still_at}
use Rattle.book_calls.proofs.ReferenceProofs.{hold_stays, references_stay, refs_driven, release_stays}

-- what is kept, with other pins and holds
abbrev pub calls_with : Calls → References → BTreeMap CallId Pinning → Bool → Calls
calls_with c refs pins stays = record { alloc = c.alloc; refs = refs; pins = pins; tickets = c.tickets; latest = c.latest; holds_stay = stays; was_unpinned = c.was_unpinned }

-- what is kept once the driver has seen what calls refer to
abbrev pub calls_seen_with : Calls → List (Where Snapshot) → Option Latest → Bool → Calls
calls_seen_with c tickets latest unpinned = record { alloc = c.alloc; refs = c.refs; pins = c.pins; tickets = tickets; latest = latest; holds_stay = true; was_unpinned = unpinned }

-- ---- entries that change nothing

same_snapshots : (ps : List Page) → snapshots_of ps ≡ snapshots_of ps ++ []
same_snapshots ps = sym (append-nil (snapshots_of ps))

pub picks_leave : PicksLeave
picks_leave archive s past actor line id word reply c kept = record {
  own = kept.own;
  refs_are = record { pins = kept.refs_are.pins; holds = kept.refs_are.holds };
  numbers_are = kept.numbers_are;
  tickets_are = kept.tickets_are ∙ same_snapshots (pages s past);
  latest_is = kept.latest_is;
  apart = kept.apart;
  stay = kept.stay;
  unpinned = kept.unpinned;
}

abbrev page_at : Setting → List Entry → ℕ → ℕ → DriverEvent → DriverReply → Page
page_at s past actor line event reply = page_of s (driven actor line event reply) (What.Driver event reply) past (pages s past)

-- where nothing is pinned, nothing was at this entry
unpinned_by : (ps : List Page) (c : Calls) (archive : Shelves) → AreCallsAt archive ps c → c.pins.entries ≡ [] → (id : CallId) → pinned ps id ≡ None
unpinned_by ps c archive kept none id = sym (kept.numbers_are id) ∙ ap (λ es. option_map (λ (p : Pinning). p.number) (lookup (is_call id) es)) none

-- a driver's entry that publishes nothing
pub calls_seen : (archive : Shelves) (s : Setting) (past : List Entry) (actor line : ℕ) (event : DriverEvent) (reply : DriverReply) (c : Calls) (unpinned : Bool) → Right s (driven actor line event reply ∷ past) →
    (page_of s (driven actor line event reply) (What.Driver event reply) past (pages s past)).snapshot ≡ None → (unpinned ≡ true → c.pins.entries ≡ []) → AreCallsAt archive (pages s past) c →
    AreCallsAt archive (pages s (driven actor line event reply ∷ past)) (calls_seen_with c c.tickets c.latest unpinned)
calls_seen archive s past actor line event reply c unpinned right none are kept = record {
  own = record { tickets = kept.own.tickets; pins = kept.own.pins; latest = kept.own.latest };
  refs_are = refs_driven s past actor line event reply c.refs right kept.refs_are;
  numbers_are = kept.numbers_are;
  tickets_are = kept.tickets_are ∙ sym (same_list (page_at s past actor line event reply) (pages s past) none);
  latest_is = kept.latest_is ∙ sym (same_latest (page_at s past actor line event reply) (pages s past) none);
  apart = kept.apart;
  stay = λ same name. (λ held. held, λ held. held);
  unpinned = λ is id. unpinned_by (pages s past) c archive kept (are is) id;
}

pub not_false : (b : Bool) → not b ≡ false → b ≡ true
not_false true is = refl
not_false false is = absurd (cc is)

-- where no pin is open and none was, and calls hold what they held, they refer to what they referred to
pub calls_stay : (archive : Shelves) (s : Setting) (past : List Entry) (c : Calls) (unpinned : Bool) → (unpinned ≡ true → c.pins.entries ≡ []) → Right s past → AreCallsAt archive (pages s past) c → c.holds_stay ≡ true → c.was_unpinned ≡ true → unpinned ≡ true →
    references (pages s past) ≡ references_seen (pages s past)
calls_stay archive s past c unpinned are right kept stays was now =
    references_stay s past right (unpinned_by (pages s past) c archive kept (are now)) (kept.unpinned was) (kept.stay stays)

-- ---- tickets

pub is_of : (archive : Shelves) (tickets : List (Where Snapshot)) (n : ℕ) (ticket : Where Snapshot) → AreTicketsOf archive tickets → slice_get tickets n ≡ Some ticket → IsTicketOf archive ticket
is_of archive tickets n ticket all is =
    subst (λ (t : Where Snapshot). IsTicketOf archive t) (get_or_from_slice_get tickets n ticket ticket is)
    (All-get_or (λ (t : Where Snapshot). IsTicketOf archive t) tickets n ticket (slice_get_within tickets n ticket is) all)

pub pin_is_of : (archive : Shelves) (c : Calls) (id : CallId) (p : Pinning) → AreOwn archive c → lookup (is_call id) c.pins.entries ≡ Some p → IsTicketOf archive p.ticket
pin_is_of archive c id p own is = is_of archive c.tickets (p.number - 1) p.ticket own.tickets (own.pins id p is)

-- the ticket of the latest snapshot is of the archive
pub latest_is_of : (archive : Shelves) (ps : List Page) (c : Calls) (l : Latest) (p : Pinning) → c.latest ≡ Some l → p ≡ record { number = l.number; ticket = l.ticket } → AreCallsAt archive ps c → IsTicketOf archive p.ticket
latest_is_of archive ps c l p is made kept =
    let latest : IsLatestOf c.tickets c.refs l = subst (λ (o : Option Latest). IfSome o (IsLatestOf c.tickets c.refs)) is kept.own.latest in
    subst (λ (q : Pinning). IsTicketOf archive q.ticket) (sym made) (is_of archive c.tickets (l.number - 1) l.ticket kept.own.tickets latest.own)

pub if_found : {X : Type 0} (o : Option X) (P : X → Type 0) → ((x : X) → o ≡ Some x → P x) → IfSome o P
if_found None P all = tt
if_found (Some x) P all = all x refl

pub if_failed : {X Y P : Type 0} (r : Result X Y) → P → OnErr r P
if_failed (Ok x) p = tt
if_failed (Err y) p = p

-- the list of the latest snapshot is the one of its number
alike_at : (ps : List Page) (x : Snapshot) (o : Option ℕ) (pin : Pin) → latest ps ≡ Some x → option_map (list_at ps) o ≡ Some pin → pin.number ≡ x.number → pin.names ≡ names_in x
alike_at ps x None pin is made same = absurd (cc made)
alike_at ps x (Some n) pin is made same =
    let own : list_at ps n ≡ pin = cc made in
    let number : n ≡ x.number = ap (λ (p : Pin). p.number) own ∙ same in
    sym (ap (λ (p : Pin). p.names) own) ∙ ap (λ m. names_at ps m) number ∙ ap (λ o. option_map_or names_in o []) (latest_found ps x is)

pub listed_at : (ps : List Page) (refs : References) (x : Snapshot) → AreRefsAt ps refs → latest ps ≡ Some x → IsListOf refs x.number (names_in x)
listed_at ps refs x are is call pin has same = alike_at ps x (pinned ps call) pin is (sym (are.pins call) ∙ has) same

-- ---- the latest snapshot

-- what is kept of the latest snapshot, as it is in the history
latest_at : (ps : List Page) (refs : References) (tickets : List (Where Snapshot)) (l : Latest) → AreRefsAt ps refs → latest ps ≡ Some l.ticket.value → IsTicketAt tickets l.number l.ticket → l.number ≡ l.ticket.value.number → IfSome l.names (λ (names : List Name). names ≡ names_in l.ticket.value) →
    IsLatestOf tickets refs l
latest_at ps refs tickets l are is own numbered named = record {
  own = own;
  number_is = numbered;
  names_are = named;
  listed = subst (λ n. IsListOf refs n (names_in l.ticket.value)) (sym numbered) (listed_at ps refs l.ticket.value are is);
}

-- it stays so for other pins and holds of the history
latest_with : (ps : List Page) (old refs : References) (tickets : List (Where Snapshot)) (o : Option Latest) → AreRefsAt ps refs → option_map (λ l. l.ticket.value) o ≡ latest ps → IfSome o (IsLatestOf tickets old) → IfSome o (IsLatestOf tickets refs)
latest_with ps old refs tickets None are is kept = kept
latest_with ps old refs tickets (Some l) are is kept = latest_at ps refs tickets l are (sym is) kept.own kept.number_is kept.names_are

-- ---- a snapshot is published

pub calls_with_one : (archive : Shelves) (s : Setting) (past : List Entry) (actor line : ℕ) (event : DriverEvent) (reply : DriverReply) (c : Calls) (ticket : Where Snapshot) (tickets : List (Where Snapshot)) (l : Latest) (unpinned : Bool) →
    Right s (driven actor line event reply ∷ past) → (page_of s (driven actor line event reply) (What.Driver event reply) past (pages s past)).snapshot ≡ Some ticket.value → IsTicketOf archive ticket →
    tickets ≡ c.tickets ++ ticket ∷ [] → l.ticket ≡ ticket → l.number ≡ ticket.value.number → l.names ≡ None → (unpinned ≡ true → c.pins.entries ≡ []) → AreCallsAt archive (pages s past) c →
    AreCallsAt archive (pages s (driven actor line event reply ∷ past)) (calls_seen_with c tickets (Some l) unpinned)
calls_with_one archive s past actor line event reply c ticket tickets l unpinned right made of grown own numbered named are kept =
    let p = page_at s past actor line event reply in
    let ps = pages s past in
    let refs : AreRefsAt (p ∷ ps) c.refs = refs_driven s past actor line event reply c.refs right kept.refs_are in
    let now : latest (p ∷ ps) ≡ Some ticket.value = new_latest p ps ticket.value made in
    let value : l.ticket.value ≡ ticket.value = ap (λ (t : Where Snapshot). t.value) own in
    let count : ticket.value.number ≡ length (snapshots_of (p ∷ ps)) = (are_numbered s (driven actor line event reply ∷ past) right).counted ticket.value now in
    let long : length (snapshots_of (p ∷ ps)) ≡ length (snapshots_of ps) + 1 = ap length (new_list p ps ticket.value made) ∙ length_push (snapshots_of ps) ticket.value in
    let before : length c.tickets ≡ length (snapshots_of ps) = sym (length_map (λ (t : Where Snapshot). t.value) c.tickets) ∙ ap length kept.tickets_are in
    let place : l.number - 1 ≡ length c.tickets = omega (arith, numbered, count, long, before) in
    record {
      own = record {
        tickets = subst (λ ts. AreTicketsOf archive ts) (sym grown) (All-push (λ (t : Where Snapshot). IsTicketOf archive t) c.tickets ticket kept.own.tickets of);
        pins = λ id pin is. ap (λ ts. slice_get ts (pin.number - 1)) grown ∙ get_more c.tickets (ticket ∷ []) (pin.number - 1) pin.ticket (kept.own.pins id pin is);
        latest = latest_at (p ∷ ps) c.refs tickets l refs (now ∙ ap (λ x. Some x) (sym value)) (ap (λ ts. slice_get ts (l.number - 1)) grown ∙ push_here c.tickets ticket (l.number - 1) place ∙ ap (λ t. Some t) (sym own))
            (numbered ∙ ap (λ (x : Snapshot). x.number) (sym value)) (subst (λ (o : Option (List Name)). IfSome o (λ names. names ≡ names_in l.ticket.value)) (sym named) tt);
      };
      refs_are = refs;
      numbers_are = kept.numbers_are;
      tickets_are = ap values_of grown ∙ map_push (λ (t : Where Snapshot). t.value) c.tickets ticket ∙ ap (λ xs. xs ++ ticket.value ∷ []) kept.tickets_are ∙ sym (new_list p ps ticket.value made);
      latest_is = ap (λ x. Some x) value ∙ sym now;
      apart = kept.apart;
      stay = λ same name. (λ held. held, λ held. held);
      unpinned = λ is id. unpinned_by (pages s past) c archive kept (are is) id;
    }

-- ---- a pin

chosen : {X Y : Type 0} (f : X → Y) (b : Bool) (x : Option X) (y : Option Y) (o : Option X) (q : Option Y) → option_map f x ≡ y → option_map f o ≡ q → option_map f (if b then x else o) ≡ (if b then y else q)
chosen f true x y o q one other = one
chosen f false x y o q one other = other

-- the numbers of pins, where one is set
numbers_with : (pins : BTreeMap CallId Pinning) (old : CallId → Option Pinning) (before : CallId → Option ℕ) (id : CallId) (pin : Option Pinning) (number : Option ℕ) →
    ((other : CallId) → lookup (is_call other) pins.entries ≡ (if is_call id other then pin else old other)) → ((other : CallId) → option_map (λ (p : Pinning). p.number) (old other) ≡ before other) → option_map (λ (p : Pinning). p.number) pin ≡ number →
    (other : CallId) → option_map (λ (p : Pinning). p.number) (lookup (is_call other) pins.entries) ≡ at_call id number before other
numbers_with pins old before id pin number set was is other =
    ap (option_map (λ (p : Pinning). p.number)) (set other)
    ∙ chosen (λ (p : Pinning). p.number) (is_call id other) pin number (old other) (before other) is (was other)
    ∙ ap (λ b. if b then number else before other) (is_same id other)

own_by : (tickets : List (Where Snapshot)) (b : Bool) (new p : Pinning) (o : Option Pinning) → IsTicketAt tickets new.number new.ticket → (o ≡ Some p → IsTicketAt tickets p.number p.ticket) → (if b then Some new else o) ≡ Some p → IsTicketAt tickets p.number p.ticket
own_by tickets true new p o own other is = let same : new ≡ p = cc is in subst (λ (q : Pinning). IsTicketAt tickets q.number q.ticket) same own
own_by tickets false new p o own other is = other is

gone_by : (b : Bool) (p : Pinning) (o : Option Pinning) → (if b then None else o) ≡ Some p → o ≡ Some p
gone_by true p o is = absurd (cc is)
gone_by false p o is = is

apart_by : (b : Bool) (own id : CallId) (new o : Option ℕ) (hold : CallId → Option Name) (n : ℕ) → (own.0 == id.0) ≡ b → hold own ≡ None → (o ≡ Some n → hold id ≡ None) → (if b then new else o) ≡ Some n → hold id ≡ None
apart_by true own id new o hold n test none other is = ap hold (sym (same_id own id (eqb-true own.0 id.0 test))) ∙ none
apart_by false own id new o hold n test none other is = other is

-- a pin of the latest snapshot
pub calls_pinned : (archive : Shelves) (s : Setting) (past : List Entry) (actor line : ℕ) (call : Call) (reply : CallerReply) (c : Calls) (l : Latest) (names : List Name) (refs : References) (pins : BTreeMap CallId Pinning) (pin : Pinning) →
    Right s past → pinned (pages s past) call.id ≡ None → held (pages s past) call.id ≡ None → reply ≡ caller_reply (pages s past) (CallerEvent.Pin call) → c.latest ≡ Some l → pin ≡ record { number = l.number; ticket = l.ticket } →
    names ≡ names_in l.ticket.value → SetsPin c.refs refs call.id (Some (record { number = l.number; names = names })) → ((other : CallId) → lookup (is_call other) pins.entries ≡ (if is_call call.id other then Some pin else lookup (is_call other) c.pins.entries)) →
    AreCallsAt archive (pages s past) c → AreCallsAt archive (pages s (called actor line (CallerEvent.Pin call) reply ∷ past)) (calls_with c refs pins c.holds_stay)
calls_pinned archive s past actor line call reply c l names refs pins pin right none holds_none answers is made named set updates kept =
    subst (λ r. AreCallsAt archive (pages s (called actor line (CallerEvent.Pin call) r ∷ past)) (calls_with c refs pins c.holds_stay)) (sym (answers ∙ ap pin_reply number)) whole
  where
    ps : List Page
    ps = pages s past

    x : Snapshot
    x = l.ticket.value

    own_latest : IsLatestOf c.tickets c.refs l
    own_latest = subst (λ (o : Option Latest). IfSome o (IsLatestOf c.tickets c.refs)) is kept.own.latest

    now : latest (pages s past) ≡ Some l.ticket.value
    now = sym kept.latest_is ∙ ap (option_map (λ (m : Latest). m.ticket.value)) is

    number : latest_number (pages s past) ≡ Some l.ticket.value.number
    number = ap (option_map (λ (y : Snapshot). y.number)) now

    refs_now : AreRefsAt (caller_page (called actor line (CallerEvent.Pin call) (CallerReply.Pinned l.ticket.value.number)) past (pages s past) ∷ pages s past) refs
    refs_now = refs_pinned (pages s past) past actor line call l.ticket.value c.refs refs now kept.refs_are
        (subst (λ n. SetsPin c.refs refs call.id (Some (record { number = n; names = names_in l.ticket.value }))) own_latest.number_is
        (subst (λ (ns : List Name). SetsPin c.refs refs call.id (Some (record { number = l.number; names = ns }))) named set))

    whole : AreCallsAt archive (pages s (called actor line (CallerEvent.Pin call) (CallerReply.Pinned l.ticket.value.number) ∷ past)) (calls_with c refs pins c.holds_stay)
    whole = record {
      own = record {
        tickets = kept.own.tickets;
        pins = λ id p has. own_by c.tickets (is_call call.id id) pin p (lookup (is_call id) c.pins.entries) (subst (λ (q : Pinning). IsTicketAt c.tickets q.number q.ticket) (sym made) own_latest.own) (kept.own.pins id p) (sym (updates id) ∙ has);
        latest = latest_with (caller_page (called actor line (CallerEvent.Pin call) (CallerReply.Pinned l.ticket.value.number)) past (pages s past) ∷ pages s past) c.refs refs c.tickets c.latest refs_now kept.latest_is kept.own.latest;
      };
      refs_are = refs_now;
      numbers_are = λ id.
          numbers_with pins (λ other. lookup (is_call other) c.pins.entries) (pinned (pages s past)) call.id (Some pin) (Some l.ticket.value.number) updates kept.numbers_are
          (ap (λ (q : Pinning). Some q.number) made ∙ ap (λ n. Some n) own_latest.number_is) id
          ∙ pinned_after_pin (pages s past) past actor line call (Some l.ticket.value.number) id;
      tickets_are = kept.tickets_are ∙ same_snapshots (pages s past);
      latest_is = kept.latest_is;
      apart = λ id n has.
          apart_by (call.id.0 == id.0) call.id id (Some l.ticket.value.number) (pinned (pages s past) id) (held (pages s past)) n refl holds_none (kept.apart id n)
          (pinned_after_pin (pages s past) past actor line call (Some l.ticket.value.number) id ∙ has);
      stay = kept.stay;
      unpinned = kept.unpinned;
    }

-- a pin before any snapshot
pub calls_none : (archive : Shelves) (s : Setting) (past : List Entry) (actor line : ℕ) (call : Call) (reply : CallerReply) (c : Calls) → pinned (pages s past) call.id ≡ None → reply ≡ caller_reply (pages s past) (CallerEvent.Pin call) → c.latest ≡ None →
    AreCallsAt archive (pages s past) c → AreCallsAt archive (pages s (called actor line (CallerEvent.Pin call) reply ∷ past)) c
calls_none archive s past actor line call reply c none answers is kept =
    subst (λ r. AreCallsAt archive (pages s (called actor line (CallerEvent.Pin call) r ∷ past)) c) (sym (answers ∙ ap pin_reply number)) (record {
      own = record { tickets = kept.own.tickets; pins = kept.own.pins; latest = kept.own.latest };
      refs_are = refs_unpinned (pages s past) past actor line call c.refs none kept.refs_are;
      numbers_are = λ id. kept.numbers_are id ∙ still id;
      tickets_are = kept.tickets_are ∙ same_snapshots (pages s past);
      latest_is = kept.latest_is;
      apart = λ id n has. kept.apart id n (still id ∙ has);
      stay = kept.stay;
      unpinned = kept.unpinned;
    })
  where
    number : latest_number (pages s past) ≡ None
    number = ap (option_map (λ (y : Snapshot). y.number)) (sym kept.latest_is ∙ ap (option_map (λ (m : Latest). m.ticket.value)) is)

    still : (id : CallId) → pinned (pages s past) id ≡ pinned (caller_page (called actor line (CallerEvent.Pin call) CallerReply.NoSnapshot) past (pages s past) ∷ pages s past) id
    still id = sym (still_at call.id (pinned (pages s past)) none id) ∙ pinned_after_pin (pages s past) past actor line call None id

-- the names that are handed in are those of the latest snapshot
pub named_by : (names : Option (List Name)) (o : Option Latest) (l : Latest) (ns : List Name) → names ≡ option_map (λ (m : Latest). names_in m.ticket.value) o → o ≡ Some l → names ≡ Some ns → ns ≡ names_in l.ticket.value
named_by names o l ns are is named =
    let same : Some ns ≡ Some (names_in l.ticket.value) = sym named ∙ are ∙ ap (option_map (λ (m : Latest). names_in m.ticket.value)) is in
    cc same

-- where none are handed in, there is none
pub latest_none : (names : Option (List Name)) (o : Option Latest) → names ≡ option_map (λ (m : Latest). names_in m.ticket.value) o → names ≡ None → o ≡ None
latest_none names None are none = refl
latest_none names (Some l) are none = let never = sym none ∙ are in absurd (cc never)

-- nothing is pinned for want of memory
pub calls_unpinned : (archive : Shelves) (ps : List Page) (c : Calls) (id : CallId) (refs : References) (pins : BTreeMap CallId Pinning) → pinned ps id ≡ None → SetsPin c.refs refs id None → pins.entries ≡ c.pins.entries →
    AreCallsAt archive ps c → AreCallsAt archive ps (calls_with c refs pins c.holds_stay)
calls_unpinned archive ps c id refs pins none set same kept =
    let now : AreRefsAt ps refs = pin_still ps c.refs refs id none kept.refs_are set in
    record {
      own = record {
        tickets = kept.own.tickets;
        pins = λ other p has. kept.own.pins other p (ap (lookup (is_call other)) (sym same) ∙ has);
        latest = latest_with ps c.refs refs c.tickets c.latest now kept.latest_is kept.own.latest;
      };
      refs_are = now;
      numbers_are = λ other. ap (λ es. option_map (λ (p : Pinning). p.number) (lookup (is_call other) es)) same ∙ kept.numbers_are other;
      tickets_are = kept.tickets_are;
      latest_is = kept.latest_is;
      apart = kept.apart;
      stay = kept.stay;
      unpinned = kept.unpinned;
    }

-- ---- the pin of a call

number_at : (ps : List Page) (c : Calls) (id : CallId) (o : Option Pinning) → lookup (is_call id) c.pins.entries ≡ o → ((other : CallId) → option_map (λ (p : Pinning). p.number) (lookup (is_call other) c.pins.entries) ≡ pinned ps other) → option_map (λ (p : Pinning). p.number) o ≡ pinned ps id
number_at ps c id o is numbers = sym (ap (option_map (λ (p : Pinning). p.number)) is) ∙ numbers id

-- it reads the snapshot of its number
pub pin_reads : (archive : Shelves) (s : Setting) (past : List Entry) (c : Calls) (id : CallId) (p : Pinning) → lookup (is_call id) c.pins.entries ≡ Some p → Right s past → AreCallsAt archive (pages s past) c → snapshot_at p.number (pages s past) ≡ Some p.ticket.value
pin_reads archive s past c id p is right kept =
    ticket_reads (pages s past) c.tickets p.number p.ticket (are_numbered s past right) kept.tickets_are (pins_have_snapshots s past id p.number right (sym (number_at (pages s past) c id (Some p) is kept.numbers_are))).0 (kept.own.pins id p is)

-- ---- a hold

hold_at : (ps : List Page) (call : Call) (n : ℕ) (x : Snapshot) (answer : RouteAnswer) → pinned ps call.id ≡ Some n → snapshot_at n ps ≡ Some x → IsRouted ps call answer → CallerReply.Routed n answer ≡ caller_reply ps (CallerEvent.Hold call)
hold_at ps call n x answer pin at routed =
    ap (λ a. CallerReply.Routed n a) (routed n x pin at)
    ∙ sym (ap (hold_reply ps call) pin ∙ ap (λ o. option_map_or (λ (y : Snapshot). CallerReply.Routed n (route y.config.front call)) o CallerReply.NoSnapshot) at)

pub held_reply : (archive : Shelves) (s : Setting) (past : List Entry) (c : Calls) (call : Call) (answer : RouteAnswer) (p : Pinning) → lookup (is_call call.id) c.pins.entries ≡ Some p → Right s past → IsRouted (pages s past) call answer → AreCallsAt archive (pages s past) c →
    CallerReply.Routed p.number answer ≡ caller_reply (pages s past) (CallerEvent.Hold call)
held_reply archive s past c call answer p is right routed kept =
    hold_at (pages s past) call p.number p.ticket.value answer (sym (number_at (pages s past) c call.id (Some p) is kept.numbers_are)) (pin_reads archive s past c call.id p is right kept) routed

pub unheld_reply : (archive : Shelves) (ps : List Page) (c : Calls) (call : Call) → lookup (is_call call.id) c.pins.entries ≡ None → AreCallsAt archive ps c → CallerReply.NoSnapshot ≡ caller_reply ps (CallerEvent.Hold call)
unheld_reply archive ps c call is kept = sym (ap (hold_reply ps call) (sym (number_at ps c call.id None is kept.numbers_are)))

-- a hold without a pin
pub calls_unheld : (archive : Shelves) (s : Setting) (past : List Entry) (actor line : ℕ) (call : Call) (reply : CallerReply) (c : Calls) → lookup (is_call call.id) c.pins.entries ≡ None → reply ≡ caller_reply (pages s past) (CallerEvent.Hold call) →
    AreCallsAt archive (pages s past) c → AreCallsAt archive (pages s (called actor line (CallerEvent.Hold call) reply ∷ past)) c
calls_unheld archive s past actor line call reply c is answers kept =
    subst (λ r. AreCallsAt archive (pages s (called actor line (CallerEvent.Hold call) r ∷ past)) c) (unheld_reply archive (pages s past) c call is kept ∙ sym answers) (record {
      own = record { tickets = kept.own.tickets; pins = kept.own.pins; latest = kept.own.latest };
      refs_are = refs_unheld (pages s past) past actor line call c.refs none kept.refs_are;
      numbers_are = λ id. kept.numbers_are id ∙ still id;
      tickets_are = kept.tickets_are ∙ same_snapshots (pages s past);
      latest_is = kept.latest_is;
      apart = λ id n has. kept.apart id n (still id ∙ has);
      stay = kept.stay;
      unpinned = kept.unpinned;
    })
  where
    none : pinned (pages s past) call.id ≡ None
    none = sym (number_at (pages s past) c call.id None is kept.numbers_are)

    still : (id : CallId) → pinned (pages s past) id ≡ pinned (caller_page (called actor line (CallerEvent.Hold call) CallerReply.NoSnapshot) past (pages s past) ∷ pages s past) id
    still id = sym (still_at call.id (pinned (pages s past)) none id) ∙ pinned_after_hold (pages s past) past actor line call CallerReply.NoSnapshot id

both_by : (b : Bool) (o : Option ℕ) (new old : Option Name) (n : ℕ) → (o ≡ Some n → old ≡ None) → (if b then None else o) ≡ Some n → (if b then new else old) ≡ None
both_by true o new old n other is = absurd (cc is)
both_by false o new old n other is = other is

held_in : (ps : List Page) (refs : References) (name : Name) → AreRefsAt ps refs → IsHeld refs name → IsHeldBy (held ps) name
held_in ps refs name are (id, is) = (id, sym (are.holds id) ∙ is)

-- a hold that finds a route
pub calls_held : (archive : Shelves) (s : Setting) (past : List Entry) (actor line : ℕ) (call : Call) (reply : CallerReply) (answer : RouteAnswer) (c : Calls) (p : Pinning) (refs : References) (pins : BTreeMap CallId Pinning) (name : Option Name) (stays : Bool) →
    Right s past → IsRouted (pages s past) call answer → reply ≡ caller_reply (pages s past) (CallerEvent.Hold call) → lookup (is_call call.id) c.pins.entries ≡ Some p → name ≡ routed_to p.ticket.value.config.front answer →
    SetsBoth c.refs refs call.id name → ((other : CallId) → lookup (is_call other) pins.entries ≡ (if is_call call.id other then None else lookup (is_call other) c.pins.entries)) →
    (stays ≡ true → c.holds_stay ≡ true) → (stays ≡ true → IfSome name (IsHeld c.refs)) → AreCallsAt archive (pages s past) c → AreCallsAt archive (pages s (called actor line (CallerEvent.Hold call) reply ∷ past)) (calls_with c refs pins stays)
calls_held archive s past actor line call reply answer c p refs pins name stays right routed answers is named set updates before others kept =
    subst (λ r. AreCallsAt archive (pages s (called actor line (CallerEvent.Hold call) r ∷ past)) (calls_with c refs pins stays)) (held_reply archive s past c call answer p is right routed kept ∙ sym answers) whole
  where
    found : name ≡ found_in p.number answer (pages s past)
    found = named ∙ sym (ap (option_and_then (λ (x : Snapshot). routed_to x.config.front answer)) (pin_reads archive s past c call.id p is right kept))

    refs_now : AreRefsAt (caller_page (called actor line (CallerEvent.Hold call) (CallerReply.Routed p.number answer)) past (pages s past) ∷ pages s past) refs
    refs_now = refs_held (pages s past) past actor line call p.number answer c.refs refs kept.refs_are (subst (λ (o : Option Name). SetsBoth c.refs refs call.id o) found set)

    whole : AreCallsAt archive (pages s (called actor line (CallerEvent.Hold call) (CallerReply.Routed p.number answer) ∷ past)) (calls_with c refs pins stays)
    whole = record {
      own = record {
        tickets = kept.own.tickets;
        pins = λ id q has. kept.own.pins id q (gone_by (is_call call.id id) q (lookup (is_call id) c.pins.entries) (sym (updates id) ∙ has));
        latest = latest_with (caller_page (called actor line (CallerEvent.Hold call) (CallerReply.Routed p.number answer)) past (pages s past) ∷ pages s past) c.refs refs c.tickets c.latest refs_now kept.latest_is kept.own.latest;
      };
      refs_are = refs_now;
      numbers_are = λ id.
          numbers_with pins (λ other. lookup (is_call other) c.pins.entries) (pinned (pages s past)) call.id None None updates kept.numbers_are refl id
          ∙ pinned_after_hold (pages s past) past actor line call (CallerReply.Routed p.number answer) id;
      tickets_are = kept.tickets_are ∙ same_snapshots (pages s past);
      latest_is = kept.latest_is;
      apart = λ id n has.
          sym (held_after_hold (pages s past) past actor line call p.number answer id)
          ∙ both_by (call.id.0 == id.0) (pinned (pages s past) id) (found_in p.number answer (pages s past)) (held (pages s past) id) n (kept.apart id n)
          (pinned_after_hold (pages s past) past actor line call (CallerReply.Routed p.number answer) id ∙ has);
      stay = λ same.
          hold_stays (pages s past) (held (caller_page (called actor line (CallerEvent.Hold call) (CallerReply.Routed p.number answer)) past (pages s past) ∷ pages s past)) call.id (found_in p.number answer (pages s past))
          (kept.apart call.id p.number (sym (number_at (pages s past) c call.id (Some p) is kept.numbers_are))) (held_after_hold (pages s past) past actor line call p.number answer)
          (subst (λ (o : Option Name). IfSome o (IsHeldBy (held (pages s past)))) found (IfSome_then name (others same) (λ n held_by. held_in (pages s past) c.refs n kept.refs_are held_by))) (kept.stay (before same));
      unpinned = kept.unpinned;
    }

-- nothing is held for want of memory
pub calls_unchanged : (archive : Shelves) (ps : List Page) (c : Calls) (id : CallId) (p : Pinning) (refs : References) → lookup (is_call id) c.pins.entries ≡ Some p → SetsHold c.refs refs id None →
    AreCallsAt archive ps c → AreCallsAt archive ps (calls_with c refs c.pins c.holds_stay)
calls_unchanged archive ps c id p refs is set kept =
    let none : held ps id ≡ None = kept.apart id p.number (sym (number_at ps c id (Some p) is kept.numbers_are)) in
    let now : AreRefsAt ps refs = hold_still ps c.refs refs id none kept.refs_are set in
    record {
      own = record { tickets = kept.own.tickets; pins = kept.own.pins; latest = latest_with ps c.refs refs c.tickets c.latest now kept.latest_is kept.own.latest };
      refs_are = now;
      numbers_are = kept.numbers_are;
      tickets_are = kept.tickets_are;
      latest_is = kept.latest_is;
      apart = kept.apart;
      stay = kept.stay;
      unpinned = kept.unpinned;
    }

-- ---- a commit

none_by : (b : Bool) (old : Option Name) → old ≡ None → (if b then None else old) ≡ None
none_by true old is = refl
none_by false old is = is

pub calls_released : (archive : Shelves) (s : Setting) (past : List Entry) (actor line : ℕ) (own : CallId) (reply : CallerReply) (c : Calls) (refs : References) (stays : Bool) → SetsHold c.refs refs own None → (stays ≡ true → c.holds_stay ≡ true) →
    (stays ≡ true → IfSome (hold_of c.refs own) (IsHeld refs)) → AreCallsAt archive (pages s past) c → AreCallsAt archive (pages s (called actor line (CallerEvent.Commit own) reply ∷ past)) (calls_with c refs c.pins stays)
calls_released archive s past actor line own reply c refs stays set before others kept =
    let ps = pages s past in
    let page = caller_page (called actor line (CallerEvent.Commit own) reply) past ps in
    let now : AreRefsAt (page ∷ ps) refs = refs_released ps past actor line own reply c.refs refs kept.refs_are set in
    record {
      own = record { tickets = kept.own.tickets; pins = kept.own.pins; latest = latest_with (page ∷ ps) c.refs refs c.tickets c.latest now kept.latest_is kept.own.latest };
      refs_are = now;
      numbers_are = kept.numbers_are;
      tickets_are = kept.tickets_are ∙ same_snapshots ps;
      latest_is = kept.latest_is;
      apart = λ id n has. sym (held_after_commit ps past actor line own reply id) ∙ none_by (own.0 == id.0) (held ps id) (kept.apart id n has);
      stay = λ same.
          release_stays ps (held (page ∷ ps)) own (held_after_commit ps past actor line own reply)
          (subst (λ (o : Option Name). IfSome o (IsHeldBy (held (page ∷ ps)))) (kept.refs_are.holds own) (IfSome_then (hold_of c.refs own) (others same) (λ n held_by. held_in (page ∷ ps) refs n now held_by))) (kept.stay (before same));
      unpinned = kept.unpinned;
    }
