pub mod EndsKept
