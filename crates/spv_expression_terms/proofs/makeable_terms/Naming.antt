-- The types that the heads of well typed formulas and expressions name are there.
use Rattle.std.proofs.Common.{◌≡◌, Bool, true, cond, ◌&&◌, List, [], drop, length, pos, refl, ap, ◌∙◌, subst, Option, Some, None}
use Rattle.std.specs.List.{list_all}
use Rattle.std.specs.Option.{option_and_then}
use Rattle.std.specs.Cmp.Derive.{both_true}
use Rattle.std.proofs.lemmas.Bool.{false≢true}
use Rattle.spv_logic.proofs.list.Tests.{left_true, right_true}
use Rattle.spv_logic.specs.declared.names.names.Symbol.{Symbol}
use Rattle.spv_logic.specs.declared.types.TypeId.{TypeId}
use Rattle.spv_logic.specs.declared.types.Sort.{Sort}
use Rattle.spv_logic.specs.declared.types.Sort.TheVariants as sort
use Rattle.spv_logic.specs.declared.operators.Head.{Head}
use Rattle.spv_logic.specs.declared.operators.Head.TheVariants as head
use Rattle.spv_logic.specs.Terms.{Term, sort_eq, heads_pass, all_heads_pass}
use Rattle.spv_logic.specs.Shapes.{element_sort, fields_of, field_sort_of}
use Rattle.spv_logic.specs.Sorts.{takes_declared, declared, result_sort, head_in_range}
use Rattle.spv_program.specs.declared.operators.Comparison.{Comparison}
use Rattle.spv_program.specs.declared.operators.Comparison.TheVariants as comparison
use Rattle.spv_program.specs.Lists.{found}
use Rattle.spv_program.specs.declared.types.TypeForm.{TypeForm}
use Rattle.spv_program.specs.declared.types.TypeForm.TheVariants as form
use Rattle.spv_program.specs.Types.{form_at, sort_of, sort_of_form, element_of, field_of, target_of, same_type, type_exists, forms_ok}
use Rattle.spv_program.specs.Formulas as formula
use Rattle.spv_program.specs.Expressions as expression
use Rattle.spv_program.specs.Programs.{Routine, Program, shapes}
use Rattle.spv_program.specs.Scopes.{Scope, name_type}
use Rattle.spv_program.specs.FormulaTypes.{is_sort, sort_if, compared_sort, any_sort, head_of_known, formula_sort, formula_sorts}
use Rattle.spv_program.specs.FormulaTypes as formulas
use Rattle.spv_program.specs.ExpressionTypes as expressions
use Rattle.spv_program.specs.ExpressionTypes.{callee, comparable, may_read, expression_sort, designator_type, result_type, selected_type, sort_of_type}
use Rattle.spv_program.specs.Terms.{alone, unary, binary, numeral, formula_term, formula_terms}
use Rattle.spv_program.proofs.SortFacts.{is_sort-true, test_passes, two_there, behind, passed, chosen, failed}
use Rattle.spv_program.proofs.FormulaSorting.{two_truths, two_numbers, one_of, some_sorts}
use Rattle.spv_program.proofs.ExpressionSorting.{same_types, mapped}
use Rattle.spv_expression_terms.specs.term_walk.ExpressionTerms.{expression_term, place_term}
use Rattle.spv_expression_terms.specs.term_walk.OuterCalls.{outer_calls, first_variable, for_first, for_others, filled, filled_place, filled_behind}
use Rattle.spv_expression_terms.proofs.term_walk.Filled.{filled_nothing, filled_place_nothing, first_passes, all_taken, all_dropped}
use Rattle.spv_expression_terms.proofs.term_walk.Passing.{is_operator, pass_one, pass_two, pass_known, pass_applied, pass_truth, pass_calculated, pass_joined, pass_compared}
use Rattle.spv_expression_terms.proofs.makeable_terms.Ranges.{shape_there, form_is_right, target_exists}

-- two operands of a comparison have sorts
record Operands (a b : Option Sort) : Type 0 where
  left : Sort
  right : Sort
  left_is : a ≡ Some left
  right_is : b ≡ Some right

of_numbers : (a b : Option Sort) (r : Sort) → formulas.numbers a b sort.Bool ≡ Some r → Operands a b
of_numbers a b r e =
    let both = test_passes (is_sort sort.Int a && is_sort sort.Int b) sort.Bool r e in
    record {
      left = sort.Int;
      right = sort.Int;
      left_is = is_sort-true sort.Int a (left_true (is_sort sort.Int a) (is_sort sort.Int b) both);
      right_is = is_sort-true sort.Int b (right_true (is_sort sort.Int a) (is_sort sort.Int b) both);
    }

of_values : (comparable : Sort → Bool) (a b : Option Sort) (r : Sort) → formulas.two_sorts a b (λ s t. sort_if (sort_eq t s && comparable s) sort.Bool) ≡ Some r → Operands a b
of_values comparable a b r e =
    let two = two_there a b (λ s t. sort_if (sort_eq t s && comparable s) sort.Bool) r e in
    record { left = two.left; right = two.right; left_is = two.left_is; right_is = two.right_is }

operands : (comparable : Sort → Bool) (o : Comparison) (a b : Option Sort) (r : Sort) → compared_sort comparable o a b ≡ Some r → Operands a b
operands comparable comparison.Equal a b r e = of_values comparable a b r e
operands comparable comparison.NotEqual a b r e = of_values comparable a b r e
operands comparable comparison.Less a b r e = of_numbers a b r e
operands comparable comparison.AtMost a b r e = of_numbers a b r e
operands comparable comparison.Greater a b r e = of_numbers a b r e
operands comparable comparison.AtLeast a b r e = of_numbers a b r e

module _ (p : Program) where
  abbrev test : Head → Bool
  test = head_in_range (shapes p)

  abbrev there : Term → Type 0
  there t = heads_pass test t ≡ true

  operators_there : (h : Head) → is_operator h ≡ true → test h ≡ true
  operators_there (head.Var x s n) h = absurd (false≢true h)
  operators_there (head.ClassVar t n) h = absurd (false≢true h)
  operators_there (head.Start x s) h = absurd (false≢true h)
  operators_there (head.Nil t) h = absurd (false≢true h)
  operators_there _ h = refl

  -- the content of a class of a type that is there
  content_there : (t : TypeId) (s : Term) → type_exists p.forms t ≡ true → there s → there (binary head.Cell (alone (head.ClassVar t 0)) s)
  content_there t s h g = pass_two test operators_there head.Cell (alone (head.ClassVar t 0)) s refl (both_true (shape_there p.forms t h) refl) g

  module _ (names : Scope) (heads : Symbol → Head) (right : (x : Symbol) (s : Sort) → found names x ≡ Some s → test (heads x) ≡ true) where
    mutual
      pub formula_there : (f : formula.Formula) (s : Sort) → formula_sort p names f ≡ Some s → there (formula_term heads f)
      formula_there (formula.Numeral z) s e = refl
      formula_there (formula.Boolean b) s e = pass_truth test operators_there b
      formula_there (formula.NilOf t) s e = both_true (shape_there p.forms t (test_passes (type_exists p.forms t) (sort.Ptr t) s e)) refl
      formula_there (formula.Named line x) s e = both_true (right x s e) refl
      formula_there (formula.ClassOf line t) s e = both_true (shape_there p.forms t (test_passes (type_exists p.forms t) (sort.Class t) s e)) refl
      formula_there (formula.Element a i) s e =
          let two = two_there (formula_sort p names a) (formula_sort p names i) (λ s t. cond (sort_eq t sort.Int) (element_sort (shapes p) s) None) s e in
          pass_two test operators_there head.Select (formula_term heads a) (formula_term heads i) refl (formula_there a two.left two.left_is) (formula_there i two.right two.right_is)
      formula_there (formula.FieldOf r f) s e =
          let b = behind (λ s. field_sort_of (fields_of (shapes p) s) f.0) (formula_sort p names r) s e in
          pass_one test operators_there (head.Field f) (formula_term heads r) refl (formula_there r b.item b.is)
      formula_there (formula.Content line t q) s e =
          let both = test_passes (type_exists p.forms t && is_sort (sort.Ptr t) (formula_sort p names q)) (sort_of p.forms t) s e in
          let pointer = is_sort-true (sort.Ptr t) (formula_sort p names q) (right_true (type_exists p.forms t) _ both) in
          content_there t (formula_term heads q) (left_true (type_exists p.forms t) (is_sort (sort.Ptr t) (formula_sort p names q)) both) (formula_there q (sort.Ptr t) pointer)
      formula_there (formula.Applied f fs) s e =
          let b = behind (takes_declared (declared p.symbols f.0)) (formula_sorts p names fs) s e in
          pass_applied test operators_there f (formula_terms heads fs) (formulas_there fs b.item b.is)
      formula_there (formula.Known k fs) s e =
          let b = behind (result_sort (shapes p) p.symbols (head_of_known k)) (formula_sorts p names fs) s e in
          pass_known test operators_there k (formula_terms heads fs) (formulas_there fs b.item b.is)
      formula_there (formula.Negative f) s e =
          one_of sort.Int sort.Int (formula_sort p names f) s (there (formula_term heads (formula.Negative f)))
          (λ is told. pass_two test operators_there head.Sub (numeral (pos 0)) (formula_term heads f) refl refl (formula_there f sort.Int is)) e
      formula_there (formula.Calculated o f g) s e =
          two_numbers (formula_sort p names f) (formula_sort p names g) s (there (formula_term heads (formula.Calculated o f g)))
          (λ a b told. pass_calculated test operators_there o (formula_term heads f) (formula_term heads g) (formula_there f sort.Int a) (formula_there g sort.Int b)) e
      formula_there (formula.Compared o f g) s e =
          let two = operands any_sort o (formula_sort p names f) (formula_sort p names g) s (failed (formulas.is_nil f && formulas.is_nil g) _ s e) in
          pass_compared test operators_there o (formula_term heads f) (formula_term heads g) (formula_there f two.left two.left_is) (formula_there g two.right two.right_is)
      formula_there (formula.Negated f) s e =
          one_of sort.Bool sort.Bool (formula_sort p names f) s (there (formula_term heads (formula.Negated f)))
          (λ is told. pass_one test operators_there head.Not (formula_term heads f) refl (formula_there f sort.Bool is)) e
      formula_there (formula.Joined o f g) s e =
          two_truths (formula_sort p names f) (formula_sort p names g) s (there (formula_term heads (formula.Joined o f g)))
          (λ a b told. pass_joined test operators_there o (formula_term heads f) (formula_term heads g) (formula_there f sort.Bool a) (formula_there g sort.Bool b)) e
      formula_there (formula.Implied f g) s e =
          two_truths (formula_sort p names f) (formula_sort p names g) s (there (formula_term heads (formula.Implied f g)))
          (λ a b told. pass_two test operators_there head.Implies (formula_term heads f) (formula_term heads g) refl (formula_there f sort.Bool a) (formula_there g sort.Bool b)) e

      formulas_there : (fs : formula.Formulas) (ss : List Sort) → formula_sorts p names fs ≡ Some ss → all_heads_pass test (formula_terms heads fs) ≡ true
      formulas_there formula.no_formulas ss e = refl
      formulas_there (formula.formulas f fs) ss e =
          some_sorts (formula_sort p names f) (formula_sorts p names fs) ss (all_heads_pass test (formula_terms heads (formula.formulas f fs)) ≡ true)
          (λ s rest a b told. both_true (formula_there f s a) (formulas_there fs rest b)) e

  some_same : (s t : Sort) → Some s ≡ Some t → s ≡ t
  some_same s t e = cc

  pointed_form : (f : TypeForm) (u t : TypeId) → sort_of_form f u ≡ sort.Ptr t → target_of f ≡ Some t
  pointed_form form.Integer u t e = absurd (cc)
  pointed_form form.Boolean u t e = absurd (cc)
  pointed_form (form.Range low high) u t e = absurd (cc)
  pointed_form (form.Pointer v) u t e = let same : v ≡ t = cc in ap Some same
  pointed_form (form.Array index v) u t e = absurd (cc)
  pointed_form (form.Record fields) u t e = absurd (cc)

  module _ (here : Option Routine) (heads : Symbol → Head) (forms : forms_ok p.forms ≡ true) (right : (x : Symbol) (t : TypeId) → name_type p here x ≡ Some t → test (heads x) ≡ true) where
    -- the type that a pointer leads to
    pointed_exists : (u t : TypeId) → sort_of p.forms u ≡ sort.Ptr t → type_exists p.forms t ≡ true
    pointed_exists u t e = target_exists p.forms (form_at p.forms u.0) t (form_is_right p.forms u.0 forms) (pointed_form (form_at p.forms u.0) u t e)

    mutual
      -- with variables of sorts that are there in the place of calls
      pub filled_there : (vs : List Head) → list_all test vs ≡ true → (e : expression.Expression) (s : Sort) → expression_sort p here e ≡ Some s → there (filled heads vs e)
      filled_there vs v (expression.Numeral z) s h = refl
      filled_there vs v (expression.Boolean b) s h = pass_truth test operators_there b
      filled_there vs v (expression.NilOf t) s h = both_true (shape_there p.forms t (test_passes (type_exists p.forms t) (sort.Ptr t) s h)) refl
      filled_there vs v (expression.Read d) s h =
          let t = mapped (sort_of p.forms) (designator_type p here d) s (chosen (may_read here d) _ s h) in
          filled_place_there vs v d t.item t.is
      filled_there vs v (expression.Result c) s h = both_true (first_passes test refl vs v) refl
      filled_there vs v (expression.Through c line t others) s h =
          let tested = is_sort (sort.Ptr t) (sort_of_type p (option_and_then result_type (callee p here c))) in
          let result = mapped (sort_of p.forms) (option_and_then result_type (callee p here c)) (sort.Ptr t)
          (is_sort-true (sort.Ptr t) (sort_of_type p (option_and_then result_type (callee p here c))) (passed tested _ s h)) in
          let r = mapped (sort_of p.forms) (selected_type p here t others) s (chosen tested _ s h) in
          let told = some_same (sort_of p.forms result.item) (sort.Ptr t) result.gives in
          filled_behind_there (drop 1 vs) (all_dropped test 1 vs v) (binary head.Cell (alone (head.ClassVar t 0)) (alone (first_variable vs))) t r.item others
          (content_there t (alone (first_variable vs)) (pointed_exists result.item t told) (both_true (first_passes test refl vs v) refl)) r.is
      filled_there vs v (expression.Negative e) s h =
          one_of sort.Int sort.Int (expression_sort p here e) s (there (filled heads vs (expression.Negative e)))
          (λ is told. pass_two test operators_there head.Sub (numeral (pos 0)) (filled heads vs e) refl refl (filled_there vs v e sort.Int is)) h
      filled_there vs v (expression.Calculated o a b) s h =
          two_numbers (expression_sort p here a) (expression_sort p here b) s (there (filled heads vs (expression.Calculated o a b)))
          (λ x y told. pass_calculated test operators_there o (filled heads (for_first a vs) a) (filled heads (for_others a vs) b)
          (filled_there (for_first a vs) (all_taken test (length (outer_calls a)) vs v) a sort.Int x) (filled_there (for_others a vs) (all_dropped test (length (outer_calls a)) vs v) b sort.Int y)) h
      filled_there vs v (expression.Compared o a b) s h =
          let two = operands comparable o (expression_sort p here a) (expression_sort p here b) s (failed (expressions.is_nil a && expressions.is_nil b) _ s h) in
          pass_compared test operators_there o (filled heads (for_first a vs) a) (filled heads (for_others a vs) b)
          (filled_there (for_first a vs) (all_taken test (length (outer_calls a)) vs v) a two.left two.left_is) (filled_there (for_others a vs) (all_dropped test (length (outer_calls a)) vs v) b two.right two.right_is)
      filled_there vs v (expression.Negated e) s h =
          one_of sort.Bool sort.Bool (expression_sort p here e) s (there (filled heads vs (expression.Negated e)))
          (λ is told. pass_one test operators_there head.Not (filled heads vs e) refl (filled_there vs v e sort.Bool is)) h
      filled_there vs v (expression.Joined o a b) s h =
          two_truths (expression_sort p here a) (expression_sort p here b) s (there (filled heads vs (expression.Joined o a b)))
          (λ x y told. pass_joined test operators_there o (filled heads (for_first a vs) a) (filled heads (for_others a vs) b)
          (filled_there (for_first a vs) (all_taken test (length (outer_calls a)) vs v) a sort.Bool x) (filled_there (for_others a vs) (all_dropped test (length (outer_calls a)) vs v) b sort.Bool y)) h

      pub filled_place_there : (vs : List Head) → list_all test vs ≡ true → (d : expression.Designator) (t : TypeId) → designator_type p here d ≡ Some t → there (filled_place heads vs d)
      filled_place_there vs v (expression.designator line x others) t h =
          let r = behind (λ t. selected_type p here t others) (name_type p here x) t h in
          filled_behind_there vs v (alone (heads x)) r.item t others (both_true (right x r.item r.is) refl) r.gives

      filled_behind_there : (vs : List Head) → list_all test vs ≡ true → (s : Term) (t u : TypeId) (others : expression.Selectors) → there s → selected_type p here t others ≡ Some u → there (filled_behind heads vs s others)
      filled_behind_there vs v s t u expression.no_selectors g h = g
      filled_behind_there vs v s t u (expression.at_index a e others) g h =
          let tested = same_type a t && is_sort sort.Int (expression_sort p here e) in
          let int = is_sort-true sort.Int (expression_sort p here e) (right_true (same_type a t) _ (passed tested _ u h)) in
          let r = behind (λ u. selected_type p here u others) (element_of (form_at p.forms t.0)) u (chosen tested _ u h) in
          filled_behind_there (for_others e vs) (all_dropped test (length (outer_calls e)) vs v) (binary head.Select s (filled heads (for_first e vs) e)) r.item u others
          (pass_two test operators_there head.Select s (filled heads (for_first e vs) e) refl g (filled_there (for_first e vs) (all_taken test (length (outer_calls e)) vs v) e sort.Int int)) r.gives
      filled_behind_there vs v s t u (expression.at_field a f others) g h =
          let r = behind (λ u. selected_type p here u others) (field_of (form_at p.forms t.0) f) u (chosen (same_type a t) _ u h) in
          filled_behind_there vs v (unary (head.Field f) s) r.item u others (pass_one test operators_there (head.Field f) s refl g) r.gives
      filled_behind_there vs v s t u (expression.at_cell line c others) g h =
          let r = behind (λ v. cond (same_type c v) (selected_type p here v others) None) (target_of (form_at p.forms t.0)) u h in
          let same = same_types c r.item (passed (same_type c r.item) _ u r.gives) in
          let exists = target_exists p.forms (form_at p.forms t.0) r.item (form_is_right p.forms t.0 forms) r.is in
          filled_behind_there vs v (binary head.Cell (alone (head.ClassVar c 0)) s) r.item u others (content_there c s (ap (type_exists p.forms) same ∙ exists) g)
          (chosen (same_type c r.item) _ u r.gives)

    pub expression_there : (e : expression.Expression) (s : Sort) → expression_sort p here e ≡ Some s → there (expression_term heads e)
    expression_there e s h = subst there (filled_nothing heads e) (filled_there [] refl e s h)

    pub place_there : (d : expression.Designator) (t : TypeId) → designator_type p here d ≡ Some t → there (place_term heads d)
    place_there d t h = subst there (filled_place_nothing heads d) (filled_place_there [] refl d t h)
