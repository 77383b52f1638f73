pub mod facts
pub mod Right
pub mod Laws
