pub mod AskingLemmas
pub mod EachLemmas
pub mod FairLemmas
pub mod FractionLemmas
pub mod LoopLemmas
pub mod NameLemmas
