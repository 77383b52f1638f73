pub mod Facts
pub mod Sketches
pub mod Shapes
pub mod Kinds
pub mod Groups
pub mod Relations
pub mod Uses
pub mod Instances
