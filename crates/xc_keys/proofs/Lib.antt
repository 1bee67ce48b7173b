pub mod KeyLemmas
pub mod MemberLemmas
pub mod SpanLemmas
