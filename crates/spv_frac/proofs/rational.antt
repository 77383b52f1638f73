pub mod Field
pub mod Signs
