-- Tickets of an archive: each shows a value where it was pushed. (This project's own. An archive is seen as
-- the places of its values, and a ticket as its place and its value.)
use Rattle.std.specs.Prelude.{List, All, map}
use Rattle.boxcar.specs.Table.{Shelves, Where, Shows}

-- the ticket was given by a push to the archive
abbrev pub IsTicketOf : {T : Type 0} → Shelves → Where T → Type 0
IsTicketOf archive ticket = Shows archive ticket

-- each of the tickets was
abbrev pub AreTicketsOf : {T : Type 0} → Shelves → List (Where T) → Type 0
AreTicketsOf archive tickets = All (λ ticket. IsTicketOf archive ticket) tickets

-- the values that the tickets read, in their order
abbrev pub values_of : {T : Type 0} → List (Where T) → List T
values_of tickets = map (λ ticket. ticket.value) tickets
