pub mod Fault
pub mod Plane
pub mod Directed
pub mod Hull
pub mod Support
pub mod Text
