mod Listing
mod Ordering
