-- The table of both sides as that of a leaf of a search.
use Rattle.std.specs.Prelude.{◌≡◌, ℕ, Bool, true, false, List, map, Some, slice_get}
use Rattle.spv_whole.specs.Fraction.{Fraction}
use Rattle.spv_logic.specs.declared.conditions.TermId.{TermId}
use Rattle.spv_logic.specs.Terms.{Term}
use Rattle.spv_term.specs.Arena.{Arena, tree}
use Rattle.spv_atoms.specs.Atoms.{is_truth, is_number}
use Rattle.spv_congruence.specs.Graph.{are_same}
use Rattle.spv_simplex.specs.State.{value_of}
use Rattle.spv_table.specs.Values.{truth_value}
use Rattle.spv_share.specs.declared.both.Both.{Both}
use Rattle.spv_models.specs.leaf_models.Subterms.{subterms, is_listed}
use Rattle.spv_models.specs.leaf_models.Leaves.{Leaf, truth_at}
use Rattle.spv_models.specs.leaf_models.Tables.{table, truth_number}
use Rattle.spv_branch_theory.specs.model_construction.Numbers.{IsFullTable}

-- these ids are the subterms of formulas, and flags say which of them a table lists
pub record AreSubterms (a : Arena) (fs : List Term) (ids : List TermId) (flags : List Bool) : Type 0 where
  pub trees : map (tree a) ids ≡ subterms fs
  pub flags_are : flags ≡ map (λ t. is_listed (tree a t)) ids

-- an id that a table lists
pub record IsOne (ids : List TermId) (flags : List Bool) (t : TermId) : Type 0 where
  pub place : ℕ
  pub there : slice_get ids place ≡ Some t
  pub flagged : slice_get flags place ≡ Some true

-- and one that it does not list
pub record IsOther (ids : List TermId) (flags : List Bool) (t : TermId) : Type 0 where
  pub place : ℕ
  pub there : slice_get ids place ≡ Some t
  pub flagged : slice_get flags place ≡ Some false

-- a leaf says of the terms that a table lists what both sides say; what it does not list is the same as none of them that is neither of sort Int nor of sort Bool
pub record IsLeafOf (a : Arena) (b : Both) (ids : List TermId) (flags : List Bool) (leaf : Leaf) : Type 0 where
  pub numbers : (t : TermId) → IsOne ids flags t → is_number a.shapes a.decls (tree a t) ≡ true → leaf.point (tree a t) ≡ value_of b.standing.tableau t
  pub truths : (t : TermId) → IsOne ids flags t → is_truth a.shapes a.decls (tree a t) ≡ true
      → truth_number (truth_at (is_truth a.shapes a.decls) leaf.given (tree a t)) ≡ truth_value (are_same b.trail.graph t b.trail.truth)
  pub classes : (s t : TermId) → IsOne ids flags s → IsOne ids flags t → leaf.same (tree a s) (tree a t) ≡ are_same b.trail.graph s t
  pub others : (s t : TermId) → IsOther ids flags s → IsOne ids flags t → is_number a.shapes a.decls (tree a t) ≡ false → is_truth a.shapes a.decls (tree a t) ≡ false → leaf.same (tree a s) (tree a t) ≡ false

-- then the table of both sides is the one of the leaf
abbrev pub IsTableOfLeaf : Type 0
IsTableOfLeaf = (a : Arena) (b : Both) (fs : List Term) (ids : List TermId) (flags : List Bool) (leaf : Leaf) (values : List (TermId × Fraction)) → AreSubterms a fs ids flags → IsLeafOf a b ids flags leaf → IsFullTable a b ids flags values
    → map (λ p. (tree a p.0, p.1)) values ≡ table a.shapes a.decls fs leaf
