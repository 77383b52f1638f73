pub mod Exchanged
pub mod ExchangedTrees
pub mod Replacements
pub mod Laws
