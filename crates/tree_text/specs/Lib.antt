pub mod Escapes
pub mod TreeText
