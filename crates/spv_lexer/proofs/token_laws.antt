pub mod Closing
pub mod Comments
pub mod Following
pub mod Decimals
