mod SameLemmas
pub mod ListLemmas
pub mod NodeLemmas
pub mod TreeLemmas
pub mod ArenaLemmas
pub mod SortLemmas
pub mod RangeLemmas
