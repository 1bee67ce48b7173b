pub mod TurnLines
