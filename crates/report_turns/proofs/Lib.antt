pub mod TurnLemmas
mod TurnRows
