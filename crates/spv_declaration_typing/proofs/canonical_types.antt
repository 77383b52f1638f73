pub mod Apart
pub mod Further
pub mod Seeing
pub mod Settled
