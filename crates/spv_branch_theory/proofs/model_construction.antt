mod FirstLemmas
mod NumberLemmas
mod LeafTable
