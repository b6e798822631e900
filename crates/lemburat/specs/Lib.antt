pub mod Outline
pub mod Samples
