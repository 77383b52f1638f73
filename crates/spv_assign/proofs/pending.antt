pub mod InFront
pub mod WrittenOut
pub mod Images
pub mod Unchanged
