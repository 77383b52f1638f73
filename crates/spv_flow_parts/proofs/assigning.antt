pub mod Putting
pub mod Assigned
pub mod Cells
pub mod Extending
pub mod Created
pub mod Renewed
