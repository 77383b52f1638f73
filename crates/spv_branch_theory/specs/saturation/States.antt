-- A search's state that is open and full, and its table.
use Rattle.std.specs.Prelude.{◌≡◌, ℕ, Bool, List, length, Option, Some, slice_get}
use Rattle.spv_whole.specs.Fraction.{Fraction}
use Rattle.spv_logic.specs.declared.conditions.TermId.{TermId}
use Rattle.spv_logic.specs.Terms.{Term}
use Rattle.spv_term.specs.declared.nodes.Condition.{Condition}
use Rattle.spv_term.specs.Arena.{Arena, AllBelow}
use Rattle.spv_proof_rules.specs.Stand.{question}
use Rattle.spv_models.specs.leaf_models.Tables.{formulas_of}
use Rattle.spv_models.specs.split_trees.Paths.{facts}
use Rattle.spv_share.specs.declared.both.Both.{Both}
use Rattle.spv_branch_theory.specs.model_construction.Laws.{AreSubterms}
use Rattle.spv_branch_theory.specs.model_construction.Numbers.{IsFullTable}
use Rattle.spv_branch_theory.specs.consistency.Laws.{IsOpenState}
use Rattle.spv_branch_theory.specs.saturation.Filled.{IsFilled, on_questions}

-- both sides are open, and the values of the questions are known and fill the path
pub record IsFullState (a : Arena) (c : Condition) (b : Both) (cases : List Term) (value : Term → Option Bool) : Type 0 where
  pub opened : IsOpenState a c b cases value
  pub filled : IsFilled (question a c) (facts (question a c) cases) (on_questions (question a c) value)

-- these ids are the subterms of a condition, and flags say which of them a table lists
pub record AreListed (a : Arena) (c : Condition) (ids : List TermId) (flags : List Bool) : Type 0 where
  pub in_range : AllBelow (length a.nodes) ids
  pub subterms : AreSubterms a (formulas_of (question a c).sequent) ids flags

-- the table of a full state, over the subterms of the condition
pub record IsTableOf (a : Arena) (c : Condition) (b : Both) (cases : List Term) (value : Term → Option Bool) (values : List (TermId × Fraction)) : Type 0 where
  pub state : IsFullState a c b cases value
  pub ids : List TermId
  pub flags : List Bool
  pub listed : AreListed a c ids flags
  pub table : IsFullTable a b ids flags values
