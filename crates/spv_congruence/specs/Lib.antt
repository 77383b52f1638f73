pub mod Graph
pub mod Told
pub mod Keep
pub mod Walk
pub mod Explained
pub mod Clashes
pub mod Rings
