pub mod NameTexts
pub mod Parameters
pub mod Names
pub mod Targets
pub mod NameViews
pub mod NameLaws
