pub mod Plan
pub mod ScriptLaws
pub mod Table
