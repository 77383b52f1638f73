pub mod Names
pub mod EventViews
pub mod Weights
pub mod Works
