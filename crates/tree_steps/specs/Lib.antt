pub mod Reports
pub mod TreePickers
pub mod Lent
pub mod Agree
pub mod TreeSteps
pub mod TreeEnds
pub mod TreeHistories
pub mod Users
