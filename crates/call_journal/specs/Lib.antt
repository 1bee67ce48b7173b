pub mod JournalViews
