pub mod Fitting
pub mod Reading
pub mod Calls
pub mod Held
pub mod Searches
pub mod Checking
pub mod Accepting
