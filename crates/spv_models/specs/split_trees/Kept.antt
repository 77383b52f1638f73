-- When the tree of a search that gave up is kept: it splits only where it may, closes paths by steps, and all others are live.
use Rattle.std.specs.Prelude.{◌≡◌, ℕ, true, false, List, [], ◌∷◌, ◌++◌, ⊤}
use Rattle.spv_logic.specs.Terms.{Term}
use Rattle.spv_proof_rules.specs.Effects.{Question}
use Rattle.spv_proof_rules.specs.Accepted as accepted
use Rattle.spv_proof_rules.specs.Accepted.{walk, cases_of}
use Rattle.spv_models.specs.leaf_models.Subterms.{is_among}
use Rattle.spv_models.specs.split_trees.Trees.{Tree, Trees, Open, Closed, Split, no_trees, trees, splits, has_open}
use Rattle.spv_models.specs.split_trees.Paths.{atoms, facts, IsLive}

-- a path may split on an atom: one of the search's that was not split on above, where the path is live
pub record MaySplit (q : Question) (cases above : List Term) (t : Term) : Type 0 where
  pub is_atom : is_among (atoms q) t ≡ true
  pub is_new : is_among above t ≡ false
  pub live : IsLive q (facts q cases)

abbrev mutual
  -- a tree stands behind these cases, and splits on these atoms above it: open paths are live, steps close the closed ones from their
  -- cases alone, and a split has one part for each case of its atom
  pub Stands : Question → List Term → List Term → Tree → Type 0
  Stands q cases above Open = IsLive q (facts q cases)
  Stands q cases above (Closed steps) = walk q cases steps ≡ accepted.Closed
  Stands q cases above (Split t parts) = MaySplit q cases above t × PartsStand q cases (t ∷ above) (cases_of q t) parts

  pub PartsStand : Question → List Term → List Term → List Term → Trees → Type 0
  PartsStand q cases above [] no_trees = ⊤
  PartsStand q cases above (f ∷ fs) (trees part parts) = Stands q (cases ++ f ∷ []) above part × PartsStand q cases above fs parts
  PartsStand q cases above _ _ = ⊥

-- a tree with so many splits, which stands, and has a path that is open
pub record IsKept (q : Question) (limit : ℕ) (tree : Tree) : Type 0 where
  pub stands : Stands q [] [] tree
  pub so_many : splits tree ≡ limit
  pub one_open : has_open tree ≡ true
