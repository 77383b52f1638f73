pub mod leaf_models
pub mod split_trees
