pub mod Trail
pub mod Choosing
pub mod Finding
pub mod Stepping
pub mod Combining
pub mod Moving
