pub mod Marks
pub mod Steps
pub mod Stillness
pub mod Runs
pub mod Replaying
