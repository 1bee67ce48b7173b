pub mod TypeUrls
pub mod Any
pub mod Response
pub mod Wrapper
pub mod Request
