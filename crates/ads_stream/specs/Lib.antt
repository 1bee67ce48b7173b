pub mod StreamCalls
pub mod StreamSteps
