-- The terms of well typed formulas and expressions are well sorted, and the types that they name are there.
use Rattle.std.proofs.Common.{◌≡◌, Bool, true, false, sym, ap, ◌∙◌, Option, Some, is_some}
use Rattle.spv_logic.specs.declared.names.names.Symbol.{Symbol}
use Rattle.spv_logic.specs.declared.types.TypeId.{TypeId}
use Rattle.spv_logic.specs.declared.types.Sort.{Sort}
use Rattle.std.specs.List.{list_all}
use Rattle.spv_logic.specs.Terms.{heads_pass}
use Rattle.spv_logic.specs.Sorts.{head_in_range, sort_in_range, term_sort}
use Rattle.spv_program.specs.Lists.{found}
use Rattle.spv_program.specs.Formulas.{Formula}
use Rattle.spv_program.specs.Expressions.{Expression, Designator}
use Rattle.spv_program.specs.Programs.{Routine, Program, shapes}
use Rattle.spv_program.specs.Scopes.{Scope, exit_scope, sort_or_int, is_value_parameter}
use Rattle.spv_program.specs.FormulaTypes.{formula_sort}
use Rattle.spv_program.specs.ExpressionTypes.{expression_sort, designator_type}
use Rattle.spv_program.specs.Typing.{declarations_ok}
use Rattle.spv_program.specs.Supplies.{Supply, full_supply}
use Rattle.spv_program.specs.Places.{present}
use Rattle.spv_program.specs.ExpressionTerms.{Valued, Placed, valued}
use Rattle.spv_program.specs.Terms.{formula_term, name_in, name_at_exit, start_or_name}
use Rattle.spv_program.proofs.FormulaSorting as sorting
use Rattle.spv_program.proofs.ExpressionSorting as valuing
use Rattle.spv_expression_terms.specs.term_walk.ExpressionTerms.{has_no_calls, place_has_no_calls, expression_term, place_term}
use Rattle.spv_expression_terms.specs.term_walk.Laws.{variable_head}
use Rattle.spv_expression_terms.specs.makeable_terms.Laws.{SortsAreThere, heading_ok_in, IsSorted}
use Rattle.spv_expression_terms.specs.term_walk.OuterCalls.{made_calls, outer_calls}
use Rattle.spv_expression_terms.proofs.term_walk.Gathered.{value_gathered}
use Rattle.spv_expression_terms.proofs.term_walk.Values.{value_is, place_is, terms_are_present}
use Rattle.spv_expression_terms.proofs.makeable_terms.Naming.{formula_there, filled_there, expression_there, place_there}
use Rattle.spv_expression_terms.proofs.makeable_terms.Scopes.{variable_there, forms_right}

-- the sort of a name that is found
name_there : (p : Program) (names : Scope) (x : Symbol) (s : Sort) → SortsAreThere p names → found names x ≡ Some s → sort_in_range (shapes p) (sort_or_int (found names x)) ≡ true
name_there p names x s there e = ap (λ o. sort_in_range (shapes p) (sort_or_int o)) e ∙ there.each x s e

pub formula_sorted : (p : Program) (names : Scope) (f : Formula) (s : Sort) → SortsAreThere p names → formula_sort p names f ≡ Some s → IsSorted p (formula_term (name_in names) f)
formula_sorted p names f s there e = record {
  sorts = ap is_some (sorting.scope_sorted p names f s e);
  types = formula_there p names (name_in names) (λ x s is. name_there p names x s there is) f s e;
}

pub exit_sorted : (p : Program) (r : Routine) (f : Formula) (s : Sort) → SortsAreThere p (exit_scope p r) → formula_sort p (exit_scope p r) f ≡ Some s → IsSorted p (formula_term (name_at_exit p r) f)
exit_sorted p r f s there e = record {
  sorts = ap is_some (sorting.exit_sorted p r f s e);
  types = formula_there p (exit_scope p r) (name_at_exit p r) (λ x s is. by_start (is_value_parameter r x) x (sort_or_int (found (exit_scope p r) x)) (name_there p (exit_scope p r) x s there is)) f s e;
}
  where
    by_start : (b : Bool) (x : Symbol) (s : Sort) → sort_in_range (shapes p) s ≡ true → head_in_range (shapes p) (start_or_name b x s) ≡ true
    by_start true x s h = h
    by_start false x s h = h

pub expression_sorted : (p : Program) (here : Option Routine) (e : Expression) (s : Sort) → declarations_ok p ≡ true → heading_ok_in p here ≡ true → has_no_calls e ≡ true → expression_sort p here e ≡ Some s
    → IsSorted p (expression_term (variable_head p here) e)
expression_sorted p here e s d h n g = record {
  sorts = ap is_some (sym (ap (λ (v : Valued). term_sort (shapes p) p.symbols v.term) (value_is p here full_supply e n)) ∙ valuing.value_sorted p here full_supply e s g);
  types = expression_there p here (variable_head p here) (forms_right p d) (λ x t is. variable_there p here x d h) e s g;
}

pub place_sorted : (p : Program) (here : Option Routine) (x : Designator) (t : TypeId) → declarations_ok p ≡ true → heading_ok_in p here ≡ true → place_has_no_calls x ≡ true → designator_type p here x ≡ Some t
    → IsSorted p (place_term (variable_head p here) x)
place_sorted p here x t d h n g = record {
  sorts = ap is_some
      (ap (term_sort (shapes p) p.symbols) (sym (ap (λ (v : Placed). present v.target) (place_is p here full_supply x n) ∙ terms_are_present (variable_head p here) x))
      ∙ valuing.place_sorted p here full_supply x t g);
  types = place_there p here (variable_head p here) (forms_right p d) (λ x t is. variable_there p here x d h) x t g;
}

pub valued_sorted : (p : Program) (here : Option Routine) (n : Supply) (e : Expression) (s : Sort) → declarations_ok p ≡ true → heading_ok_in p here ≡ true
    → list_all (head_in_range (shapes p)) (made_calls p here n (outer_calls e)).variables ≡ true → expression_sort p here e ≡ Some s → IsSorted p (valued p here n e).term
valued_sorted p here n e s d h there g = record {
  sorts = ap is_some (valuing.value_sorted p here n e s g);
  types = ap (λ (v : Valued). heads_pass (head_in_range (shapes p)) v.term) (value_gathered p here n e)
      ∙ filled_there p here (variable_head p here) (forms_right p d) (λ x t is. variable_there p here x d h) (made_calls p here n (outer_calls e)).variables there e s g;
}
