-- The term of an expression whose calls were made.
use Rattle.std.proofs.Common.{◌≡◌, ℕ, zero, suc, true, List, [], ◌∷◌, Option, Some, None, refl, sym, ap, subst, ◌∙◌}
use Rattle.std.specs.List.{list_all}
use Rattle.std.specs.Cmp.Derive.{both_true}
use Rattle.spv_logic.proofs.list.Tests.{left_true, right_true}
use Rattle.spv_logic.specs.declared.names.names.Symbol.{Symbol}
use Rattle.spv_logic.specs.declared.conditions.RoutineId.{RoutineId}
use Rattle.spv_logic.specs.declared.types.TypeId.{TypeId}
use Rattle.spv_logic.specs.declared.types.Shape.{Shape}
use Rattle.spv_logic.specs.declared.types.Decl.{Decl}
use Rattle.spv_logic.specs.declared.operators.Head.{Head}
use Rattle.spv_logic.specs.Terms.{Term}
use Rattle.spv_logic.specs.Sorts.{head_in_range, numeral_fits, sort_in_range, term_sort}
use Rattle.spv_term.specs.Arena.{Arena}
use Rattle.spv_term.specs.substitution.Images.{head_of}
use Rattle.spv_program.specs.Lists.{item_at}
use Rattle.spv_program.specs.Types.{type_exists}
use Rattle.spv_program.specs.Expressions.{Expression, Call, Read, designator, no_selectors, call}
use Rattle.spv_program.specs.Programs.{Routine, Program, shapes, routine_at, routine_in}
use Rattle.spv_program.specs.Scopes.{Scope, sort_or_int}
use Rattle.spv_program.specs.Typing.{declarations_ok, heading_ok, result_ok, routine_ok, well_typed}
use Rattle.spv_program.specs.ExpressionTypes.{expression_sort, sort_of_type}
use Rattle.spv_program.specs.Supplies.{Supply}
use Rattle.spv_program.specs.Terms.{name_in}
use Rattle.spv_program.specs.ExpressionTerms.{Argued, Valued, sort_of_result, valued, called, called_in, argued}
use Rattle.spv_program.proofs.ExpressionSorting.{value_sorted}
use Rattle.spv_expression_terms.specs.term_walk.Laws.{HasNamesOf, variable_scope, variable_head}
use Rattle.spv_expression_terms.specs.term_walk.Makeable.{IsWellSorted}
use Rattle.spv_expression_terms.specs.term_walk.OuterCalls as outer
use Rattle.spv_expression_terms.specs.term_walk.OuterCalls.{filled, made_calls, outer_calls}
use Rattle.spv_expression_terms.specs.makeable_terms.Laws.{IsSorted, heading_ok_in}
use Rattle.spv_expression_terms.proofs.term_walk.Gathered.{value_gathered}
use Rattle.spv_expression_terms.proofs.term_walk.Tables.{tables_give_expressions}
use Rattle.spv_expression_terms.proofs.makeable_terms.Ranges.{sort_there}
use Rattle.spv_expression_terms.proofs.makeable_terms.Scopes.{forms_right}
use Rattle.spv_expression_terms.proofs.makeable_terms.Sorting.{valued_sorted}
use Rattle.spv_flow_parts.specs.declared.bodies.Body.{Body}
use Rattle.spv_flow_parts.specs.calls.Arguments.{MayMake, IsExpression}

-- ---- names

module _ (p : Program) (here : Option Routine) (names : Scope) (has : HasNamesOf names (variable_scope p here)) where
  pub head_is : (x : Symbol) → name_in names x ≡ variable_head p here x
  head_is x = ap (λ (t : Term). head_of t) (tables_give_expressions p here names (Read (designator 0 x no_selectors)) has)

  heads_are : name_in names ≡ variable_head p here
  heads_are = λ i x. head_is x i

-- ---- the variables of calls

each_right : (p : Program) (rs : List Routine) (n : ℕ) → list_all (routine_ok p) rs ≡ true → heading_ok_in p (item_at rs n) ≡ true
each_right p [] n h = refl
each_right p (r ∷ rs) zero h = left_true (heading_ok p r) _ (left_true (routine_ok p r) (list_all (routine_ok p) rs) h)
each_right p (r ∷ rs) (suc n) h = each_right p rs n (right_true (routine_ok p r) (list_all (routine_ok p) rs) h)

module _ (p : Program) (typed : well_typed p ≡ true) where
  declared : declarations_ok p ≡ true
  declared = left_true (declarations_ok p) _ typed

  heading_right : (id : RoutineId) → heading_ok_in p (routine_at p id) ≡ true
  heading_right id = each_right p p.routines id.0 (left_true (list_all (routine_ok p) p.routines) _ (right_true (declarations_ok p) _ typed))

  result_there : (r : Routine) → heading_ok p r ≡ true → sort_in_range (shapes p) (sort_of_result p r) ≡ true
  result_there r h = by r.result (left_true (result_ok p r.result) _ (right_true (list_all (λ f. type_exists p.forms f.of) r.formals) _ h))
    where
      by : (t : Option TypeId) → result_ok p t ≡ true → sort_in_range (shapes p) (sort_or_int (sort_of_type p t)) ≡ true
      by None g = refl
      by (Some t) g = sort_there p.forms t (forms_right p declared) (left_true (type_exists p.forms t) _ g)

  -- the variable of a call, or FALSE, is of a type that is there
  in_range : (o : Option Routine) (line : ℕ) (given : Argued) → heading_ok_in p o ≡ true → head_in_range (shapes p) (outer.head_of (called_in p o line given).term) ≡ true
  in_range None line given h = refl
  in_range (Some r) line given h = result_there r h

  fits : (o : Option Routine) (line : ℕ) (given : Argued) → numeral_fits (outer.head_of (called_in p o line given).term) ≡ true
  fits None line given = refl
  fits (Some r) line given = refl

  variables_there : (here : Option Routine) (n : Supply) (cs : List Call) → list_all (head_in_range (shapes p)) (made_calls p here n cs).variables ≡ true
  variables_there here n [] = refl
  variables_there here n (call id line given ∷ cs) =
      both_true (in_range (routine_at p id) line (argued p here n given) (heading_right id)) (variables_there here (called p here n (call id line given)).supply cs)

  variables_fit : (here : Option Routine) (n : Supply) (cs : List Call) → list_all numeral_fits (made_calls p here n cs).variables ≡ true
  variables_fit here n [] = refl
  variables_fit here n (call id line given ∷ cs) = both_true (fits (routine_at p id) line (argued p here n given)) (variables_fit here (called p here n (call id line given)).supply cs)

-- ---- the term

module _ (p : Program) (body : Body) (a : Arena) (n : Supply) (may : MayMake p body a n) (e : Expression) (h : IsExpression p body.here e) where
  abbrev here : Option Routine
  here = routine_in p body.here

  abbrev variables : List Head
  variables = (made_calls p here n (outer_calls e)).variables

  value_is : filled (name_in body.variables) variables e ≡ (valued p here n e).term
  value_is = ap (λ (heads : Symbol → Head). filled heads variables e) (heads_are p here body.variables may.stands.body.variables) ∙ sym (ap (λ (v : Valued). v.term) (value_gathered p here n e))

  value_right : IsSorted p (valued p here n e).term
  value_right = valued_sorted p here n e h.sort may.stands.declarations may.stands.heading (variables_there p may.typed here n (outer_calls e)) h.sorted

  -- in an arena for the terms of the program
  module _ (b : Arena) (shapes_are : b.shapes ≡ shapes p) (decls_are : b.decls ≡ p.symbols) (vs : List Head) (same : vs ≡ variables) where
    pub filled_is : filled (name_in body.variables) vs e ≡ (valued p here n e).term
    filled_is = ap (λ us. filled (name_in body.variables) us e) same ∙ value_is

    pub filled_sorts : IsWellSorted b.shapes b.decls (filled (name_in body.variables) vs e)
    filled_sorts =
        subst (λ (s : List Shape). IsWellSorted s b.decls (filled (name_in body.variables) vs e)) (sym shapes_are)
        (subst (λ (d : List Decl). IsWellSorted (shapes p) d (filled (name_in body.variables) vs e)) (sym decls_are) (subst (λ (t : Term). IsSorted p t) (sym filled_is) value_right))

    pub filled_fit : list_all numeral_fits vs ≡ true
    filled_fit = ap (list_all numeral_fits) same ∙ variables_fit p may.typed here n (outer_calls e)

    pub filled_sort : expression_sort p here e ≡ term_sort b.shapes b.decls (filled (name_in body.variables) vs e)
    filled_sort =
        h.sorted
        ∙ (sym (value_sorted p here n e h.sort h.sorted)
        ∙ sym (λ i. term_sort (shapes_are i) (decls_are i) (filled_is i)))
