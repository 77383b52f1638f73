pub mod Cells
pub mod Dictionary
pub mod Exchanges
pub mod Laws
pub mod Mixing
pub mod updates
pub mod pivoting
