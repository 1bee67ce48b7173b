pub mod SubsequenceRows
pub mod OutsideRows
pub mod RefusedTextRows
pub mod ListedRows
pub mod LegalRows
pub mod Sessions
pub mod RefusesRows
