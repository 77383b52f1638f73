pub mod Postfix
pub mod Stack
pub mod Laws
