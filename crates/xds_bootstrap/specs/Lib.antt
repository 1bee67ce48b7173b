pub mod Authorities
pub mod Document
pub mod BootViews
