-- A part of a list is no larger than the list.
use Rattle.std.proofs.Common.{ℕ, zero, suc, ◌≤◌, ◌<◌, List, [], ◌∷◌, length, get_or, arith}
use Rattle.spv_tree.specs.syntax.Formulas.{Formula, Selector}
use Rattle.spv_tree.specs.syntax.Types.{TypeDenoter, Field}
use Rattle.spv_tree.specs.syntax.Model.TypeSizes.{more_types_of, more_fields_of, type_size, more_types_size, field_size, more_fields_size}
use Rattle.spv_tree.specs.syntax.Statements.{Statement, Arm}
use Rattle.spv_tree.specs.syntax.Model.StatementSizes.{more_statements_of, more_arms_of, statement_size, more_statements_size, arm_size, more_arms_size}
use Rattle.spv_tree.specs.syntax.Model.FormulaSizes.{more_formulas_of, selectors_of, formula_size, more_formulas_size, selectors_size, selector_size}

pub formula_within : (fs : List Formula) (i : ℕ) (d : Formula) → i < length fs → formula_size (get_or fs i d) ≤ more_formulas_size (more_formulas_of fs)
formula_within [] i d h = absurd (omega arith)
formula_within (f ∷ fs) zero d h = omega arith
formula_within (f ∷ fs) (suc i) d h = omega (arith, formula_within fs i d (omega arith))

pub selector_within : (ss : List Selector) (i : ℕ) (d : Selector) → i < length ss → selector_size (get_or ss i d) ≤ selectors_size (selectors_of ss)
selector_within [] i d h = absurd (omega arith)
selector_within (s ∷ ss) zero d h = omega arith
selector_within (s ∷ ss) (suc i) d h = omega (arith, selector_within ss i d (omega arith))

pub type_within : (ts : List TypeDenoter) (i : ℕ) (d : TypeDenoter) → i < length ts → type_size (get_or ts i d) ≤ more_types_size (more_types_of ts)
type_within [] i d h = absurd (omega arith)
type_within (t ∷ ts) zero d h = omega arith
type_within (t ∷ ts) (suc i) d h = omega (arith, type_within ts i d (omega arith))

pub field_within : (fs : List Field) (i : ℕ) (d : Field) → i < length fs → field_size (get_or fs i d) ≤ more_fields_size (more_fields_of fs)
field_within [] i d h = absurd (omega arith)
field_within (f ∷ fs) zero d h = omega arith
field_within (f ∷ fs) (suc i) d h = omega (arith, field_within fs i d (omega arith))

pub statement_within : (ss : List Statement) (i : ℕ) (d : Statement) → i < length ss → statement_size (get_or ss i d) ≤ more_statements_size (more_statements_of ss)
statement_within [] i d h = absurd (omega arith)
statement_within (s ∷ ss) zero d h = omega arith
statement_within (s ∷ ss) (suc i) d h = omega (arith, statement_within ss i d (omega arith))

pub arm_within : (xs : List Arm) (i : ℕ) (d : Arm) → i < length xs → arm_size (get_or xs i d) ≤ more_arms_size (more_arms_of xs)
arm_within [] i d h = absurd (omega arith)
arm_within (a ∷ xs) zero d h = omega arith
arm_within (a ∷ xs) (suc i) d h = omega (arith, arm_within xs i d (omega arith))
