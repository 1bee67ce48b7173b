pub mod DriverTexts
pub mod NextEvents
pub mod PlayerCrossing
