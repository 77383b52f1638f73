pub mod Bridges
pub mod Indexing
pub mod Items
pub mod Params
pub mod Rests
