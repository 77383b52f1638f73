mod Shown
mod Ways
mod Owed
mod Ends
mod Backed
