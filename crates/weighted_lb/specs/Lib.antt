pub mod Pick
pub mod States
