pub mod StoppedLemmas
pub mod ShownLemmas
pub mod ReplyProofs
