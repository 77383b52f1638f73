-- The terms of well typed formulas, expressions and places: their sorts fit, and the types that they name are there.
use Rattle.std.specs.Prelude.{◌≡◌, Bool, true, Option, Some, None, IsTrue}
use Rattle.spv_logic.specs.declared.names.names.Symbol.{Symbol}
use Rattle.spv_logic.specs.declared.types.TypeId.{TypeId}
use Rattle.spv_logic.specs.declared.types.Sort.{Sort}
use Rattle.spv_logic.specs.Terms.{Term}
use Rattle.std.specs.List.{list_all}
use Rattle.spv_logic.specs.Sorts.{head_in_range, sort_in_range}
use Rattle.spv_program.specs.Lists.{found}
use Rattle.spv_program.specs.Expressions.{Expression, Designator}
use Rattle.spv_program.specs.Formulas.{Formula}
use Rattle.spv_program.specs.Programs.{Routine, Program, shapes}
use Rattle.spv_program.specs.Scopes.{Scope, body_scope, entry_scope, exit_scope}
use Rattle.spv_program.specs.FormulaTypes.{formula_sort}
use Rattle.spv_program.specs.ExpressionTypes.{expression_sort, designator_type}
use Rattle.spv_program.specs.Typing.{declarations_ok, heading_ok}
use Rattle.spv_program.specs.Supplies.{Supply}
use Rattle.spv_program.specs.ExpressionTerms.{valued}
use Rattle.spv_program.specs.Terms.{formula_term, name_in, name_at_exit}
use Rattle.spv_expression_terms.specs.term_walk.ExpressionTerms.{has_no_calls, place_has_no_calls, expression_term, place_term}
use Rattle.spv_expression_terms.specs.term_walk.OuterCalls.{made_calls, outer_calls}
use Rattle.spv_expression_terms.specs.term_walk.Makeable.{IsWellSorted}
use Rattle.spv_expression_terms.specs.term_walk.Laws.{variable_head}

-- the types that the names' sorts name are there
pub record SortsAreThere (p : Program) (names : Scope) : Type 0 where
  pub each : (x : Symbol) (s : Sort) → found names x ≡ Some s → IsTrue (sort_in_range (shapes p) s)

-- the heading of the routine that something stands in is right; the main block has none
abbrev pub heading_ok_in : Program → Option Routine → Bool
heading_ok_in p None = true
heading_ok_in p (Some r) = heading_ok p r

-- in a right program the sorts of all names are there
abbrev pub BodiesSeeSorts : Type 0
BodiesSeeSorts =
    (p : Program) (here : Option Routine) → IsTrue (declarations_ok p) → IsTrue (heading_ok_in p here) → SortsAreThere p (body_scope p here)

abbrev pub EntriesSeeSorts : Type 0
EntriesSeeSorts = (p : Program) (r : Routine) → IsTrue (declarations_ok p) → IsTrue (heading_ok p r) → SortsAreThere p (entry_scope p r)

abbrev pub ExitsSeeSorts : Type 0
ExitsSeeSorts = (p : Program) (r : Routine) → IsTrue (declarations_ok p) → IsTrue (heading_ok p r) → SortsAreThere p (exit_scope p r)

abbrev pub IsSorted : Program → Term → Type 0
IsSorted p t = IsWellSorted (shapes p) p.symbols t

-- the term of a well typed formula is well sorted, and the types that it names are there
abbrev pub FormulasAreSorted : Type 0
FormulasAreSorted =
    (p : Program) (names : Scope) (f : Formula) (s : Sort) → SortsAreThere p names → formula_sort p names f ≡ Some s
    → IsSorted p (formula_term (name_in names) f)

-- so is that of an EXIT
abbrev pub ExitsAreSorted : Type 0
ExitsAreSorted =
    (p : Program) (r : Routine) (f : Formula) (s : Sort) → SortsAreThere p (exit_scope p r) → formula_sort p (exit_scope p r) f ≡ Some s
    → IsSorted p (formula_term (name_at_exit p r) f)

-- so are those of well typed expressions and places without calls
abbrev pub ExpressionsAreSorted : Type 0
ExpressionsAreSorted =
    (p : Program) (here : Option Routine) (e : Expression) (s : Sort) → IsTrue (declarations_ok p) → IsTrue (heading_ok_in p here)
    → IsTrue (has_no_calls e) → expression_sort p here e ≡ Some s → IsSorted p (expression_term (variable_head p here) e)

abbrev pub PlacesAreSorted : Type 0
PlacesAreSorted =
    (p : Program) (here : Option Routine) (d : Designator) (t : TypeId) → IsTrue (declarations_ok p) → IsTrue (heading_ok_in p here)
    → IsTrue (place_has_no_calls d) → designator_type p here d ≡ Some t → IsSorted p (place_term (variable_head p here) d)

-- so is that of a well typed expression with its calls, where the types of their values are there
abbrev pub ValuesAreSorted : Type 0
ValuesAreSorted =
    (p : Program) (here : Option Routine) (n : Supply) (e : Expression) (s : Sort) → IsTrue (declarations_ok p) → IsTrue (heading_ok_in p here)
    → IsTrue (list_all (head_in_range (shapes p)) (made_calls p here n (outer_calls e)).variables)
    → expression_sort p here e ≡ Some s → IsSorted p (valued p here n e).term
