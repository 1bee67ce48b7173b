-- What is kept of calls, and what it is of the history.
use Rattle.std.specs.Prelude.{◌≡◌, ℕ, ◌-◌, List, Some, None, IfSome, true, slice_get, option_map}
use Rattle.std.specs.Map.{lookup}
use Rattle.boxcar.specs.Table.{Shelves, Where}
use Rattle.xc_base.specs.declared.names.CallId.{CallId}
use Rattle.xc_base.specs.declared.call.Call.{Call}
use Rattle.route_match.specs.declared.answer.RouteAnswer.{RouteAnswer}
use Rattle.route_match.specs.Routes.{route}
use Rattle.cluster_tree.specs.declared.snapshot.Snapshot.{Snapshot}
use Rattle.cluster_refs.specs.CallReferences.{References, is_call, IsListOf}
use Rattle.snapshot_store.specs.Tickets.{AreTicketsOf, values_of}
use Rattle.xds_history.specs.declared.page.Page.{Page}
use Rattle.xds_history.specs.Page.{latest}
use Rattle.xds_history.specs.References.{snapshot_at, pinned, held, names_in, snapshots_of}
use Rattle.book_calls.specs.declared.pinning.Pinning.{Pinning}
use Rattle.book_calls.specs.declared.latest_snapshot.Latest.{Latest}
use Rattle.book_calls.specs.declared.calls.Calls.{Calls}
use Rattle.book_calls.specs.RefsKept.{AreRefsAt}
use Rattle.book_calls.specs.SeenReferences.{HoldsStay, WasUnpinned}

-- ---- what holds of itself

-- the ticket of the snapshot of this number
abbrev pub IsTicketAt : List (Where Snapshot) → ℕ → Where Snapshot → Type 0
IsTicketAt tickets number ticket = slice_get tickets (number - 1) ≡ Some ticket

-- what is kept of the latest snapshot: its number, its own ticket and, from its first pin on, the clusters that its host names,
-- which all pins of it have
pub record IsLatestOf (tickets : List (Where Snapshot)) (refs : References) (l : Latest) : Type 0 where
  pub own : IsTicketAt tickets l.number l.ticket
  pub number_is : l.number ≡ l.ticket.value.number
  pub names_are : IfSome l.names (λ names. names ≡ names_in l.ticket.value)
  pub listed : IsListOf refs l.number (names_in l.ticket.value)

-- the tickets are of this archive, and a pin has the one of its number
pub record AreOwn (archive : Shelves) (c : Calls) : Type 0 where
  pub tickets : AreTicketsOf archive c.tickets
  pub pins : (id : CallId) (p : Pinning) → lookup (is_call id) c.pins.entries ≡ Some p → IsTicketAt c.tickets p.number p.ticket
  pub latest : IfSome c.latest (IsLatestOf c.tickets c.refs)

-- ---- what it is of the history

-- Between entries. A call with a pin holds nothing: it is pinned only where it has neither.
pub record AreCallsAt (archive : Shelves) (ps : List Page) (c : Calls) : Type 0 where
  pub own : AreOwn archive c
  pub refs_are : AreRefsAt ps c.refs
  pub numbers_are : (id : CallId) → option_map (λ p. p.number) (lookup (is_call id) c.pins.entries) ≡ pinned ps id
  pub tickets_are : values_of c.tickets ≡ snapshots_of ps
  pub latest_is : option_map (λ l. l.ticket.value) c.latest ≡ latest ps
  pub apart : (id : CallId) (number : ℕ) → pinned ps id ≡ Some number → held ps id ≡ None
  pub stay : c.holds_stay ≡ true → HoldsStay ps
  pub unpinned : c.was_unpinned ≡ true → WasUnpinned ps

-- the answer is the route of the call in the snapshot that it has pinned
abbrev pub IsRouted : List Page → Call → RouteAnswer → Type 0
IsRouted ps call answer = (number : ℕ) (x : Snapshot) → pinned ps call.id ≡ Some number → snapshot_at number ps ≡ Some x → answer ≡ route x.config.front call
