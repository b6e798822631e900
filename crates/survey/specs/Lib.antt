pub mod Rules
pub mod State
pub mod Calls
