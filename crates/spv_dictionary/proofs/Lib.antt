pub mod Lists
pub mod First
pub mod Exchanging
pub mod Mixed
pub mod Making
pub mod Refusing
pub mod FirstForm
