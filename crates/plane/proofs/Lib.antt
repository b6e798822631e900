pub mod Laws
pub mod Ring
pub mod Order
pub mod Fit
pub mod Points
pub mod Apart
pub mod Supporting
pub mod Carrying
