pub mod Printing
pub mod Standing
pub mod Leaves
pub mod Words
pub mod Read
pub mod Worked
