pub mod Listener
pub mod Manager
