pub mod BegunCalls
pub mod OpenPins
pub mod CallProofs
pub mod RoomProofs
