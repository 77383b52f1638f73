pub mod Events
pub mod Arguments
