pub mod GeneratedSession
pub mod GeneratedLaw
