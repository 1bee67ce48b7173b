pub mod TurnLemmas
pub mod RequestLemmas
pub mod StepLemmas
pub mod PlaceLemmas
pub mod QuietLemmas
pub mod ErrorLemmas
pub mod SettleLemmas
pub mod MarkLemmas
pub mod TellLemmas
pub mod DueLemmas
mod ToldLemmas
