pub mod CacheCalls
pub mod KeptFates
