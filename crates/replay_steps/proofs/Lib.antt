pub use Rattle.report_compare.proofs.front_law as front_law
