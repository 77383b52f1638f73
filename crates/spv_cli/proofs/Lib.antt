pub mod Options
pub mod ByRows
pub mod Lines
pub mod Numbers
pub mod Pieces
pub mod InOrder
pub mod Told
pub mod Promises
