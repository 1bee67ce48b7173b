pub mod Cut
pub mod Feeding
pub mod Framing
pub mod Head
pub mod FrameLaws
pub mod FeedRuns
