pub mod RegexCrossing
