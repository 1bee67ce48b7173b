pub mod Wire
pub mod View
pub mod FieldValues
pub mod Reading
pub mod Spelling
pub mod Oneof
pub mod Wrappers
pub mod Spells
