pub mod Meaning
pub mod Bounds
pub mod Set
pub mod SetKept
pub mod Ring
pub mod RingKept
pub mod Zonotope
pub mod ZonotopeKept
