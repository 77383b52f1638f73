-- What is proved of terms.
use Rattle.std.specs.Prelude.{◌≡◌, Option, Some}
use Rattle.spv_logic.specs.declared.types.TypeId.{TypeId}
use Rattle.spv_logic.specs.declared.types.Sort.{Sort}
use Rattle.spv_logic.specs.Terms.{Term}
use Rattle.spv_logic.specs.Sorts.{term_sort}
use Rattle.spv_program.specs.Types.{sort_of}
use Rattle.spv_program.specs.Expressions.{Expression, Designator}
use Rattle.spv_program.specs.Formulas.{Formula}
use Rattle.spv_program.specs.Programs.{Routine, Program, shapes}
use Rattle.spv_program.specs.Scopes.{Scope, exit_scope}
use Rattle.spv_program.specs.Supplies.{Supply}
use Rattle.spv_program.specs.Places.{present}
use Rattle.spv_program.specs.FormulaTypes.{formula_sort}
use Rattle.spv_program.specs.ExpressionTypes.{expression_sort, designator_type}
use Rattle.spv_program.specs.Terms.{formula_term, name_in, name_at_exit}
use Rattle.spv_program.specs.ExpressionTerms.{valued, placed}

abbrev pub HasSort : Program → Term → Sort → Type 0
HasSort p t s = term_sort (shapes p) p.symbols t ≡ Some s

-- the term of a well typed formula is well sorted, and has the formula's sort
abbrev pub FormulaTermsHaveTheirSort : Type 0
FormulaTermsHaveTheirSort =
    (p : Program) (names : Scope) (f : Formula) (s : Sort) → formula_sort p names f ≡ Some s → HasSort p (formula_term (name_in names) f) s

-- so has that of an EXIT, with value parameters as they were at the entry
abbrev pub ExitTermsHaveTheirSort : Type 0
ExitTermsHaveTheirSort =
    (p : Program) (r : Routine) (f : Formula) (s : Sort) → formula_sort p (exit_scope p r) f ≡ Some s
    → HasSort p (formula_term (name_at_exit p r) f) s

-- so has that of a well typed expression, whatever calls it makes
abbrev pub ExpressionTermsHaveTheirSort : Type 0
ExpressionTermsHaveTheirSort =
    (p : Program) (here : Option Routine) (n : Supply) (e : Expression) (s : Sort) → expression_sort p here e ≡ Some s
    → HasSort p (valued p here n e).term s

-- what stands at a well typed place has the sort of the place's type
abbrev pub PlaceTermsHaveTheirSort : Type 0
PlaceTermsHaveTheirSort =
    (p : Program) (here : Option Routine) (n : Supply) (d : Designator) (t : TypeId) → designator_type p here d ≡ Some t
    → HasSort p (present (placed p here n d).target) (sort_of p.forms t)
