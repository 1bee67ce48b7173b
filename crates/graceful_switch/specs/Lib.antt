pub mod Takeover
