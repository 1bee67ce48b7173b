pub mod Addresses
pub mod Causes
pub mod Draws
pub mod Numbers
pub mod Outside
pub mod Reasons
pub mod Texts
