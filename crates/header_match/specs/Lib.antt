pub mod Headers
pub mod Meets
pub mod Refused
pub mod Texts
