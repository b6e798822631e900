pub mod Layering
pub mod Turning
