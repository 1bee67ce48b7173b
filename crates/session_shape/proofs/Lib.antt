mod AuthorityLemmas
mod WorkLemmas
mod LineLemmas
mod OrderedLines
mod HeadLemmas
pub mod ShapeProofs
