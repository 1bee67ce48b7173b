-- The lanes of seats at which no pin is up.
use Rattle.std.proofs.Common.{◌≡◌, List, [], ◌∷◌, ◌++◌, map, All, sym, ap, ◌∙◌, refl}
use Rattle.std.proofs.lemmas.List.Elements.{All-head, All-nil, All-cons, All-tail}
use Rattle.session_player.specs.xds_book.BookViews.{LaneView}
use Rattle.turn_player.specs.TurnPlans.{SeatView}

abbrev pub IsFree : SeatView → Type 0
IsFree seat = seat.lane.count.pins ≡ 0

abbrev pub lanes_of : List SeatView → List LaneView
lanes_of seats = map (λ seat. seat.lane) seats

front_free : (seats : List SeatView) (seat : SeatView) → All IsFree (seats ++ seat ∷ []) → All IsFree seats
front_free [] seat all = All-nil IsFree
front_free (first ∷ seats) seat all =
    All-cons IsFree first seats (All-head IsFree first (seats ++ seat ∷ []) all) (front_free seats seat (All-tail IsFree first (seats ++ seat ∷ []) all))

last_free : (seats : List SeatView) (seat : SeatView) → All IsFree (seats ++ seat ∷ []) → IsFree seat
last_free [] seat all = All-head IsFree seat [] all
last_free (first ∷ seats) seat all = last_free seats seat (All-tail IsFree first (seats ++ seat ∷ []) all)

lanes_more : (seats : List SeatView) (seat : SeatView) → lanes_of (seats ++ seat ∷ []) ≡ lanes_of seats ++ seat.lane ∷ []
lanes_more [] seat = refl
lanes_more (first ∷ seats) seat = ap (λ (lanes : List LaneView). first.lane ∷ lanes) (lanes_more seats seat)

-- one seat more
pub lanes_on : (seats : List SeatView) (seat : SeatView) (old new : List LaneView) → (All IsFree seats → old ≡ lanes_of seats) → (IsFree seat → new ≡ old ++ seat.lane ∷ []) → All IsFree (seats ++ seat ∷ [])
    → new ≡ lanes_of (seats ++ seat ∷ [])
lanes_on seats seat old new before grown all =
    grown (last_free seats seat all) ∙ (ap (λ (lanes : List LaneView). lanes ++ seat.lane ∷ []) (before (front_free seats seat all)) ∙ sym (lanes_more seats seat))
