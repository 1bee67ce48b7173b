pub mod ListedPatterns
pub mod ListedLaws
