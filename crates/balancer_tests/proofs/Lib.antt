pub mod TreeRows
pub mod OneMarked
