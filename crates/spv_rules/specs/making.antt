pub mod Pieces
pub mod KeptFaults
pub mod Sketching
pub mod Fitting
