-- What shows that a path is live: an equivalence in which all that is told is the same, values, and points.
use Rattle.std.specs.Prelude.{◌≡◌, Bool, true, false, ◌||◌, List, ℤ, Option, Some, None}
use Rattle.spv_frac.specs.rational.Rational.{Rational}
use Rattle.spv_logic.specs.Terms.{Term}
use Rattle.spv_logic.specs.Formulas.{negation, equation, below}
use Rattle.spv_atoms.specs.Tables.{assigned, or_else, not_of}
use Rattle.spv_proof_rules.specs.Evaluation.{given_by, clashes}
use Rattle.spv_proof_rules.specs.Effects.{Question, is_truth, is_number}
use Rattle.spv_tableau_rules.specs.constraints.Sayings.{literal}
use Rattle.spv_models.specs.leaf_models.Subterms.{is_among, subterms}
use Rattle.spv_models.specs.leaf_models.Leaves.{IsSameness, truth_term, worth_at, is_met}
use Rattle.spv_models.specs.split_trees.Paths.{atoms, questions, Known, Gives, MeetsKnown, Told, numeral}

-- ---- what is known

-- values, and beside them what a step gives that supposes a formula to be false
abbrev pub supposing_false : (Term → Option Bool) → Term → Term → Option Bool
supposing_false value formula t = or_else (value t) (assigned (given_by false formula) t)

-- values that have the facts, and to which evaluations add nothing more
pub record IsFinished (q : Question) (fs : List Term) (value : Term → Option Bool) : Type 0 where
  pub facts : (t : Term) → is_among fs t ≡ true → value t ≡ Some true
  pub negations : (t : Term) → value (negation t) ≡ not_of (value t)
  pub lower : (s t : Term) → value (below s t) ≡ Some true → value (equation s t) ≡ Some false
  pub upper : (s t : Term) → value (below t s) ≡ Some true → value (equation s t) ≡ Some false
  pub agree : (t : Term) → clashes (is_truth q) value t ≡ false
  -- a question without a value may have either truth, as far as connectives go
  pub nothing_follows : (t : Term) (b : Bool) → is_among (questions q) t ≡ true → value t ≡ None → (u : Term) → clashes (is_truth q) (supposing_false value (literal b t)) u ≡ false

-- ---- what is joined

-- a point that gives equal values to the terms of sort Int that are the same
abbrev pub IsEqualAt : Question → (Term → Term → Bool) → (Term → Rational) → Type 0
IsEqualAt q same point = (s t : Term) → is_number q s ≡ true → is_number q t ≡ true → same s t ≡ true → worth_at point s ≡ worth_at point t

-- such a point for the relations that are known and one of the orders of two terms
pub record HasOrder (q : Question) (fs : List Term) (same : Term → Term → Bool) (s t : Term) : Type 0 where
  pub point : Term → Rational
  pub meets : MeetsKnown q fs point
  pub equal : IsEqualAt q same point
  pub order : (is_met (is_number q) point (below s t) || is_met (is_number q) point (below t s)) ≡ true

-- an equivalence that shows that a path is live
pub record ShowsLive (q : Question) (fs : List Term) (same : Term → Term → Bool) : Type 0 where
  pub sameness : IsSameness (subterms (atoms q)) same
  pub told : (s t : Term) → Told q fs s t → same s t ≡ true
  -- the sides of each equation of whole numbers among the atoms are the same, or have an order
  pub orders : (s t : Term) → is_among (atoms q) (equation s t) ≡ true → is_number q s ≡ true → is_number q t ≡ true → same s t ≡ false → HasOrder q fs same s t
  -- a value for each term that has a truth, none opposite to what connectives make of the others
  pub value : Term → Option Bool
  pub covers : (t : Term) (b : Bool) → Gives q fs t b → value t ≡ Some b
  pub agree : (t : Term) → clashes (is_truth q) value t ≡ false
  pub apart : (s t : Term) → is_among (atoms q) (equation s t) ≡ true → Known q fs (negation (equation s t)) → same s t ≡ false
  pub numerals : (y z : ℤ) → same (numeral y) (numeral z) ≡ true → y ≡ z
  pub truths : same (truth_term true) (truth_term false) ≡ false
  pub point : Term → Rational
  pub meets : MeetsKnown q fs point
  pub equal : IsEqualAt q same point
