pub mod printed
pub mod verdict_pages
pub mod Page
pub mod Listings
