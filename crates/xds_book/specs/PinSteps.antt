-- What a pin gives, and what is kept of it (this project's own).
use Rattle.std.specs.Prelude.{◌≡◌, Some}
use Rattle.boxcar.specs.Table.{Shelves}
use Rattle.xc_base.specs.declared.names.CallId.{CallId}
use Rattle.xc_base.specs.declared.call.Call.{Call}
use Rattle.snapshot_store.specs.Tickets.{IsTicketOf}
use Rattle.book_calls.specs.xds_history.Setting.{Setting}
use Rattle.book_calls.specs.xds_history.Pages.{pages}
use Rattle.book_calls.specs.xds_history.References.{pinned, snapshot_at}
use Rattle.book_calls.specs.declared.pinning.Pinning.{Pinning}
use Rattle.xds_book.specs.BookViews.{BookView, PinnedView}
use Rattle.xds_book.specs.BookEntries.{own_ticket}
use Rattle.xds_book.specs.BookKept.{IsLawfulShown}

-- the token of a pin that a call got
abbrev pub token_with : Call → Pinning → PinnedView
token_with call pin = record { call = call; ticket = pin.ticket }

-- the pin of a call that a Book keeps
pub record IsOwnPin (archive : Shelves) (s : Setting) (book : BookView) (call : CallId) (pin : Pinning) : Type 0 where
  pub number_is : pinned (pages s book.entries) call ≡ Some pin.number
  pub reads : snapshot_at pin.number (pages s book.entries) ≡ Some pin.ticket.value
  pub stored : IsTicketOf archive pin.ticket
  pub own : own_ticket s book call ≡ Some pin.ticket
  pub lawful : IsLawfulShown pin.ticket.value
