-- The terms of ENTRY and EXIT of a routine.
use Rattle.std.proofs.Common.{◌≡◌, true, List, Some, is_some, sym, ap, subst, ◌∙◌}
use Rattle.spv_logic.proofs.list.Tests.{left_true, right_true}
use Rattle.spv_logic.specs.declared.names.names.Symbol.{Symbol}
use Rattle.spv_logic.specs.declared.types.Decl.{Decl}
use Rattle.spv_logic.specs.declared.types.Shape.{Shape}
use Rattle.spv_logic.specs.declared.types.Sort.TheVariants as sort
use Rattle.spv_logic.specs.Terms.{Term}
use Rattle.spv_term.specs.Arena.{Arena}
use Rattle.spv_program.specs.Formulas.{Annotation}
use Rattle.spv_program.specs.FormulaTypes.{annotation_ok, formula_sort}
use Rattle.spv_program.specs.Lists.{found}
use Rattle.spv_program.specs.Programs.{Routine, Program, shapes}
use Rattle.spv_program.specs.Scopes.{Scope, entry_scope, exit_scope, is_value_parameter}
use Rattle.spv_program.specs.Typing.{declarations_ok, heading_ok, routine_ok}
use Rattle.spv_program.specs.Terms.{entry_term, exit_term, formula_term, name_in}
use Rattle.spv_program.proofs.SortFacts.{is_sort-true}
use Rattle.spv_expression_terms.specs.term_walk.Names.{head_in}
use Rattle.spv_expression_terms.specs.term_walk.Laws.{HasNamesOf}
use Rattle.spv_expression_terms.specs.term_walk.Makeable.{IsWellSorted}
use Rattle.spv_expression_terms.specs.makeable_terms.Laws.{IsSorted}
use Rattle.spv_expression_terms.proofs.term_walk.Tables.{tables_give_exits, tables_give_formulas}
use Rattle.spv_expression_terms.proofs.makeable_terms.Scopes.{entry_sorts, exit_sorts}
use Rattle.spv_expression_terms.proofs.makeable_terms.Sorting.{exit_sorted, formula_sorted}
use Rattle.spv_flow_parts.specs.calls.Arguments.{IsOver}

module _ (p : Program) (a : Arena) (r : Routine) (over : IsOver p a) (right : routine_ok p r ≡ true) (f : Annotation) where
  declarations : declarations_ok p ≡ true
  declarations = left_true (declarations_ok p) _ over.typed

  heading : heading_ok p r ≡ true
  heading = left_true (heading_ok p r) _ right

  in_arena : (x y : Term) → x ≡ y → IsSorted p y → IsWellSorted a.shapes a.decls x
  in_arena x y e sorted =
      subst (λ (s : List Shape). IsWellSorted s a.decls x) (sym over.shapes_are)
      (subst (λ (d : List Decl). IsWellSorted (shapes p) d x) (sym over.decls_are) (subst (λ (t : Term). IsWellSorted (shapes p) p.symbols t) (sym e) sorted))

  -- ENTRY
  module _ (names : Scope) (has : HasNamesOf names (entry_scope p r)) where
    pub entry_in : formula_term (name_in names) f.formula ≡ entry_term p r f
    entry_in = tables_give_formulas names (entry_scope p r) f.formula has

    pub entry_sorts_fit : r.entry ≡ Some f → IsWellSorted a.shapes a.decls (formula_term (name_in names) f.formula)
    entry_sorts_fit is =
        let checked = left_true (annotation_ok p (entry_scope p r) r.entry) _ (right_true (heading_ok p r) _ right) in
        in_arena (formula_term (name_in names) f.formula) (entry_term p r f) entry_in
        (formula_sorted p (entry_scope p r) f.formula sort.Bool (entry_sorts p r declarations heading)
        (is_sort-true sort.Bool (formula_sort p (entry_scope p r) f.formula) (ap (annotation_ok p (entry_scope p r)) (sym is) ∙ checked)))

  -- EXIT
  module _ (names : Scope) (starts : List (Symbol × Unit {0})) (has : HasNamesOf names (exit_scope p r)) (starts_are : (x : Symbol) → is_some (found starts x) ≡ is_value_parameter r x) where
    pub exit_in : formula_term (head_in names starts) f.formula ≡ exit_term p r f
    exit_in = tables_give_exits p r names starts f.formula (record { names_are = has; starts_are = starts_are })

    pub exit_sorts_fit : r.exit ≡ Some f → IsWellSorted a.shapes a.decls (formula_term (head_in names starts) f.formula)
    exit_sorts_fit is =
        let behind = right_true (annotation_ok p (entry_scope p r) r.entry) _ (right_true (heading_ok p r) _ right) in
        let checked = left_true (annotation_ok p (exit_scope p r) r.exit) _ behind in
        in_arena (formula_term (head_in names starts) f.formula) (exit_term p r f) exit_in
        (exit_sorted p r f.formula sort.Bool (exit_sorts p r declarations heading)
        (is_sort-true sort.Bool (formula_sort p (exit_scope p r) f.formula) (ap (annotation_ok p (exit_scope p r)) (sym is) ∙ checked)))
