pub mod StreamsKept
pub mod ToldNames
pub mod Telling
pub mod DueRequests
pub mod RefusalText
pub mod StreamsLaws
pub mod Settling
