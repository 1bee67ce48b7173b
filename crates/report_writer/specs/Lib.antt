pub mod JournalReport
