-- The facts of a path of a search: that formulas of it are true or false, and orders that were told of equations.
use Rattle.std.specs.Prelude.{◌≡◌, Bool, true, List}
use Rattle.spv_logic.specs.Terms.{Term}
use Rattle.spv_term.specs.Arena.{Arena}
use Rattle.spv_proof_rules.specs.Effects.{Question, is_truth}
use Rattle.spv_tableau_rules.specs.constraints.Sayings.{literal}
use Rattle.spv_models.specs.leaf_models.Subterms.{is_among, subterms}
use Rattle.spv_models.specs.leaf_models.Tables.{formulas_of}
use Rattle.spv_models.specs.split_trees.Paths.{atoms}
use Rattle.spv_share.specs.declared.both.Both.{Both}
use Rattle.spv_branch_theory.specs.consistency.States.{IsOrderTold}

-- a formula of a search: an atom, or a part of the condition
pub data IsFormula (q : Question) (t : Term) : Type 0 where
  of_atoms : is_among (atoms q) t ≡ true → IsFormula q t
  of_parts : is_among (subterms (formulas_of q.sequent)) t ≡ true → is_truth q t ≡ true → IsFormula q t

-- a fact of a path: such a formula is true, or it is false; or an order was told of an equation
pub data IsFact (a : Arena) (b : Both) (q : Question) : Term → Type 0 where
  said : (c : Bool) (t : Term) → IsFormula q t → IsFact a b q (literal c t)
  ordered : (t : Term) → IsOrderTold a b q t → IsFact a b q t

-- each of these is one
pub record AreFacts (a : Arena) (b : Both) (q : Question) (fs : List Term) : Type 0 where
  pub each : (t : Term) → is_among fs t ≡ true → IsFact a b q t
