-- The trees of a search: how many splits they have, and that none is on one atom twice on its way.
use Rattle.std.specs.Prelude.{ℕ, suc, ◌+◌, Bool, true, false, ◌&&◌, ◌||◌, not, nat_le, List, ◌∷◌}
use Rattle.spv_logic.specs.Terms.{Term}
use Rattle.spv_atoms.specs.declared.proofs.Step.{Step}
use Rattle.spv_models.specs.leaf_models.Subterms.{is_among}

mutual
  -- an open path, a path that steps close, or a split on an atom, with a part for each of its cases
  pub data Tree : Type 0 where
    Open : Tree
    Closed : List Step → Tree
    Split : Term → Trees → Tree

  pub data Trees : Type 0 where
    no_trees : Trees
    trees : Tree → Trees → Trees

abbrev mutual
  pub splits : Tree → ℕ
  splits Open = 0
  splits (Closed steps) = 0
  splits (Split t parts) = suc (splits_all parts)

  pub splits_all : Trees → ℕ
  splits_all no_trees = 0
  splits_all (trees part parts) = splits part + splits_all parts

abbrev mutual
  -- whether a path is open
  pub has_open : Tree → Bool
  has_open Open = true
  has_open (Closed steps) = false
  has_open (Split t parts) = some_open parts

  pub some_open : Trees → Bool
  some_open no_trees = false
  some_open (trees part parts) = has_open part || some_open parts

abbrev pub count : Trees → ℕ
count no_trees = 0
count (trees part parts) = suc (count parts)

abbrev mutual
  -- whether each split is on one of these atoms, on none that was split on above it, and has at most three parts
  pub splits_once : List Term → List Term → Tree → Bool
  splits_once atoms above Open = true
  splits_once atoms above (Closed steps) = true
  splits_once atoms above (Split t parts) = is_among atoms t && (not (is_among above t) && (nat_le (count parts) 3 && each_once atoms (t ∷ above) parts))

  pub each_once : List Term → List Term → Trees → Bool
  each_once atoms above no_trees = true
  each_once atoms above (trees part parts) = splits_once atoms above part && each_once atoms above parts
