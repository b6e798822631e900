pub mod Layers
pub mod LayersKept
