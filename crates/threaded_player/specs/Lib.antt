pub mod ThreadedPlay
pub use Rattle.closed_book.specs.session_player as session_player
