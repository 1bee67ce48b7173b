pub mod ReportWords
pub mod Driver
pub mod RequestText
pub mod Snapshots
pub mod Callers
