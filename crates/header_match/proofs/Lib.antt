pub mod Alike
pub mod Filters
pub mod ValueLemmas
pub mod RangeLemmas
pub mod TextLemmas
