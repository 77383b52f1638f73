pub mod Paths
pub mod Beginning
