pub mod Exits
pub mod CopyLemmas
pub mod FillLemmas
