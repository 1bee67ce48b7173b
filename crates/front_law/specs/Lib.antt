pub mod FrontLaw
pub use Rattle.report_law.specs.report_writer as report_writer
