pub mod EntryText
pub mod ReportLines
