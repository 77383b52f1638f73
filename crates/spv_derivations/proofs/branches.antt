mod Turning
pub mod Following
pub mod Behind
pub mod Within
