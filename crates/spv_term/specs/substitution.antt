pub mod Images
pub mod Parts
pub mod Walk
pub mod Fresh
pub mod Laws
