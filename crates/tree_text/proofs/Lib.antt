mod EscapeSets
pub mod EscapeRows
