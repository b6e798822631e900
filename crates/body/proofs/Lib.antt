pub mod Answering
pub mod Spans
pub mod Stepping
