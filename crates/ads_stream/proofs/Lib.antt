pub mod CallLemmas
mod AnswerLemmas
