mod Orders
mod Readable
mod Ways
pub mod Evidence
