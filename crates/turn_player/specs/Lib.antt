pub mod TurnPlans
pub mod DueEvents
pub mod TableSeats
pub mod TablePlaces
pub use Rattle.session_player.specs as session_player
pub use Rattle.session_player.specs.xds_book as xds_book
