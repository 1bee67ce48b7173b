pub mod CountLemmas
pub mod TallyLemmas
pub mod PlayLemmas
pub mod EndLemmas
pub mod JournalLemmas
