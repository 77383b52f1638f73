mod Sequences
mod Meetings
mod Walks
mod Pieces
mod Adding
mod Ruling
mod Fitting
