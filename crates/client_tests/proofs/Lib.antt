pub mod FateRows
pub mod StreamRows
pub mod TimerRows
