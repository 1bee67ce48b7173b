mod CountLemmas
mod FormLemmas
mod FrameLemmas
mod TableLemmas
pub mod RoomLemmas
mod SessionLemmas
