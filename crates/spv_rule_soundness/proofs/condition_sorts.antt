mod Calls
mod Substituted
mod Lists
mod Heads
mod Statements
