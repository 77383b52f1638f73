pub mod written_terms
pub mod Listed
pub mod Rechecked
pub mod Made
pub mod Parts
pub mod Converted
pub mod Asked
