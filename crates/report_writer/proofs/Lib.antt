mod HoldLemmas
pub mod ReportLemmas
