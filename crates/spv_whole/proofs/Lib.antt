pub mod Arithmetic
pub mod Crosswise
pub mod Gcd
pub mod Lowest
pub mod Order
pub mod Ring
pub mod Units
