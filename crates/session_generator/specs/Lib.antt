pub mod ShortForms
pub mod FirstLines
pub mod Rounds
pub mod Generated
