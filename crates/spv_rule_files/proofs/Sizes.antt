-- A formula of a list is no larger than the list.
use Rattle.std.proofs.Common.{ℕ, zero, suc, ◌≤◌, ◌<◌, List, [], ◌∷◌, length, get_or, arith}
use Rattle.spv_program.specs.Formulas.{Formula}
use Rattle.spv_program.specs.typed.FormulaViews.{formulas_of}
use Rattle.spv_program.specs.typed.Model.FormulaSizes.{formula_size, formulas_size}

pub formula_within : (fs : List Formula) (i : ℕ) (d : Formula) → i < length fs → formula_size (get_or fs i d) ≤ formulas_size (formulas_of fs)
formula_within [] i d h = absurd (omega arith)
formula_within (f ∷ fs) zero d h = omega arith
formula_within (f ∷ fs) (suc i) d h = omega (arith, formula_within fs i d (omega arith))
