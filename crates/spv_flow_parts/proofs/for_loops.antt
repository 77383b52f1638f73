pub mod Tests
pub mod Sides
pub mod Endings
pub mod Closings
