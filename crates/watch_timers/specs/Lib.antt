pub mod StartOrder
pub mod TimerRuns
pub mod Timers
