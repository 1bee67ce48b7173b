pub mod DeliveryLemmas
pub mod FoundLemmas
pub mod GainLemmas
