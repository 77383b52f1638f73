pub mod Coming
pub mod Ending
pub mod Room
pub mod Taking
pub mod Within
pub mod Outcomes
pub mod Telling
