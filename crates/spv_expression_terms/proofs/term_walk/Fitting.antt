-- The numerals of terms whose formulas and expressions have numerals below 2^127.
use Rattle.std.proofs.Common.{◌≡◌, Bool, true, false, refl, subst, List, [], length, drop, pos, is_some}
use Rattle.std.specs.List.{list_all}
use Rattle.std.specs.Cmp.Derive.{both_true}
use Rattle.std.proofs.lemmas.Bool.{false≢true}
use Rattle.spv_logic.specs.declared.names.names.Symbol.{Symbol}
use Rattle.spv_logic.specs.declared.types.Shape.{Shape}
use Rattle.spv_logic.specs.declared.types.Decl.{Decl}
use Rattle.spv_logic.specs.declared.operators.Head.{Head}
use Rattle.spv_logic.specs.declared.operators.Head.TheVariants as head
use Rattle.spv_logic.specs.Terms.{Term, heads_pass, all_heads_pass}
use Rattle.spv_logic.specs.Sorts.{head_in_range, numeral_fits}
use Rattle.spv_program.specs.Formulas as formula
use Rattle.spv_program.specs.Expressions as expression
use Rattle.spv_program.specs.Terms.{alone, unary, binary, numeral, formula_term, formula_terms, start_or_name}
use Rattle.spv_program.specs.Lists.{found}
use Rattle.spv_program.specs.Scopes.{Scope, sort_or_int}
use Rattle.spv_expression_terms.specs.postfix.Postfix.{IsMakeable}
use Rattle.spv_expression_terms.specs.term_walk.Names.{head_in}
use Rattle.spv_expression_terms.specs.term_walk.ExpressionTerms.{expression_term, place_term}
use Rattle.spv_expression_terms.specs.term_walk.OuterCalls.{outer_calls, first_variable, for_first, for_others, filled, filled_place, filled_behind}
use Rattle.spv_expression_terms.proofs.term_walk.Filled.{filled_nothing, filled_place_nothing, first_passes, all_taken, all_dropped}
use Rattle.spv_expression_terms.specs.term_walk.Numerals.{FormulaFits, FormulasFit, ExpressionFits, PlaceFits, SelectorsFit}
use Rattle.spv_expression_terms.specs.term_walk.Makeable.{IsWellSorted}
use Rattle.spv_expression_terms.proofs.term_walk.Passing.{is_operator, pass_one, pass_two, pass_known, pass_applied, pass_truth, pass_calculated, pass_joined, pass_compared, pass_both}

abbrev small : Term → Type 0
small t = heads_pass numeral_fits t ≡ true

operators_small : (h : Head) → is_operator h ≡ true → numeral_fits h ≡ true
operators_small (head.Num z) h = absurd (false≢true h)
operators_small _ h = refl

-- the heads of names are no numerals
pub head_small : {X : Type 0} (names : Scope) (starts : List (Symbol × X)) (x : Symbol) → numeral_fits (head_in names starts x) ≡ true
head_small names starts x = by_start (is_some (found starts x))
  where
    by_start : (b : Bool) → numeral_fits (start_or_name b x (sort_or_int (found names x))) ≡ true
    by_start true = refl
    by_start false = refl

module _ (heads : Symbol → Head) (names : (x : Symbol) → numeral_fits (heads x) ≡ true) where
  mutual
    pub formula_small : (f : formula.Formula) → FormulaFits f → small (formula_term heads f)
    formula_small (formula.Numeral z) h = both_true h refl
    formula_small (formula.Boolean b) h = pass_truth numeral_fits operators_small b
    formula_small (formula.NilOf t) h = refl
    formula_small (formula.Named line x) h = both_true (names x) refl
    formula_small (formula.ClassOf line t) h = refl
    formula_small (formula.Element a i) h = pass_two numeral_fits operators_small head.Select (formula_term heads a) (formula_term heads i) refl (formula_small a h.0) (formula_small i h.1)
    formula_small (formula.FieldOf r f) h = pass_one numeral_fits operators_small (head.Field f) (formula_term heads r) refl (formula_small r h)
    formula_small (formula.Content line t q) h = pass_two numeral_fits operators_small head.Cell (alone (head.ClassVar t 0)) (formula_term heads q) refl refl (formula_small q h)
    formula_small (formula.Applied f fs) h = pass_applied numeral_fits operators_small f (formula_terms heads fs) (formulas_small fs h)
    formula_small (formula.Known b fs) h = pass_known numeral_fits operators_small b (formula_terms heads fs) (formulas_small fs h)
    formula_small (formula.Negative f) h = pass_two numeral_fits operators_small head.Sub (numeral (pos 0)) (formula_term heads f) refl refl (formula_small f h)
    formula_small (formula.Calculated o f g) h =
        pass_calculated numeral_fits operators_small o (formula_term heads f) (formula_term heads g) (formula_small f h.0) (formula_small g h.1)
    formula_small (formula.Compared o f g) h = pass_compared numeral_fits operators_small o (formula_term heads f) (formula_term heads g) (formula_small f h.0) (formula_small g h.1)
    formula_small (formula.Negated f) h = pass_one numeral_fits operators_small head.Not (formula_term heads f) refl (formula_small f h)
    formula_small (formula.Joined o f g) h =
        pass_joined numeral_fits operators_small o (formula_term heads f) (formula_term heads g) (formula_small f h.0) (formula_small g h.1)
    formula_small (formula.Implied f g) h = pass_two numeral_fits operators_small head.Implies (formula_term heads f) (formula_term heads g) refl (formula_small f h.0) (formula_small g h.1)

    formulas_small : (fs : formula.Formulas) → FormulasFit fs → all_heads_pass numeral_fits (formula_terms heads fs) ≡ true
    formulas_small formula.no_formulas h = refl
    formulas_small (formula.formulas f fs) h = both_true (formula_small f h.0) (formulas_small fs h.1)

  mutual
    -- variables in the place of calls are no numerals
    pub filled_small : (vs : List Head) → list_all numeral_fits vs ≡ true → (e : expression.Expression) → ExpressionFits e → small (filled heads vs e)
    filled_small vs v (expression.Numeral z) h = both_true h refl
    filled_small vs v (expression.Boolean b) h = pass_truth numeral_fits operators_small b
    filled_small vs v (expression.NilOf t) h = refl
    filled_small vs v (expression.Read d) h = filled_place_small vs v d h
    filled_small vs v (expression.Result c) h = both_true (first_passes numeral_fits refl vs v) refl
    filled_small vs v (expression.Through c line t others) h =
        filled_behind_small (drop 1 vs) (all_dropped numeral_fits 1 vs v) (binary head.Cell (alone (head.ClassVar t 0)) (alone (first_variable vs))) others
        (pass_two numeral_fits operators_small head.Cell (alone (head.ClassVar t 0)) (alone (first_variable vs)) refl refl (both_true (first_passes numeral_fits refl vs v) refl)) h
    filled_small vs v (expression.Negative e) h = pass_two numeral_fits operators_small head.Sub (numeral (pos 0)) (filled heads vs e) refl refl (filled_small vs v e h)
    filled_small vs v (expression.Calculated o a b) h =
        pass_calculated numeral_fits operators_small o (filled heads (for_first a vs) a) (filled heads (for_others a vs) b)
        (filled_small (for_first a vs) (all_taken numeral_fits (length (outer_calls a)) vs v) a h.0) (filled_small (for_others a vs) (all_dropped numeral_fits (length (outer_calls a)) vs v) b h.1)
    filled_small vs v (expression.Compared o a b) h =
        pass_compared numeral_fits operators_small o (filled heads (for_first a vs) a) (filled heads (for_others a vs) b)
        (filled_small (for_first a vs) (all_taken numeral_fits (length (outer_calls a)) vs v) a h.0) (filled_small (for_others a vs) (all_dropped numeral_fits (length (outer_calls a)) vs v) b h.1)
    filled_small vs v (expression.Negated e) h = pass_one numeral_fits operators_small head.Not (filled heads vs e) refl (filled_small vs v e h)
    filled_small vs v (expression.Joined o a b) h =
        pass_joined numeral_fits operators_small o (filled heads (for_first a vs) a) (filled heads (for_others a vs) b)
        (filled_small (for_first a vs) (all_taken numeral_fits (length (outer_calls a)) vs v) a h.0) (filled_small (for_others a vs) (all_dropped numeral_fits (length (outer_calls a)) vs v) b h.1)

    pub filled_place_small : (vs : List Head) → list_all numeral_fits vs ≡ true → (d : expression.Designator) → PlaceFits d → small (filled_place heads vs d)
    filled_place_small vs v (expression.designator line x others) h = filled_behind_small vs v (alone (heads x)) others (both_true (names x) refl) h

    filled_behind_small : (vs : List Head) → list_all numeral_fits vs ≡ true → (s : Term) (others : expression.Selectors) → small s → SelectorsFit others → small (filled_behind heads vs s others)
    filled_behind_small vs v s expression.no_selectors g h = g
    filled_behind_small vs v s (expression.at_index t e others) g h =
        filled_behind_small (for_others e vs) (all_dropped numeral_fits (length (outer_calls e)) vs v) (binary head.Select s (filled heads (for_first e vs) e)) others
        (pass_two numeral_fits operators_small head.Select s (filled heads (for_first e vs) e) refl g (filled_small (for_first e vs) (all_taken numeral_fits (length (outer_calls e)) vs v) e h.0)) h.1
    filled_behind_small vs v s (expression.at_field t f others) g h = filled_behind_small vs v (unary (head.Field f) s) others (pass_one numeral_fits operators_small (head.Field f) s refl g) h
    filled_behind_small vs v s (expression.at_cell line t others) g h =
        filled_behind_small vs v (binary head.Cell (alone (head.ClassVar t 0)) s) others (pass_two numeral_fits operators_small head.Cell (alone (head.ClassVar t 0)) s refl refl g) h

  pub expression_small : (e : expression.Expression) → ExpressionFits e → small (expression_term heads e)
  expression_small e h = subst small (filled_nothing heads e) (filled_small [] refl e h)

  pub place_small : (d : expression.Designator) → PlaceFits d → small (place_term heads d)
  place_small d h = subst small (filled_place_nothing heads d) (filled_place_small [] refl d h)

-- a well sorted term with such numerals may be made
pub makeable : (shapes : List Shape) (decls : List Decl) (t : Term) → IsWellSorted shapes decls t → small t → IsMakeable shapes decls t
makeable shapes decls t w h = record { sorts = w.sorts; heads = pass_both (head_in_range shapes) numeral_fits t w.types h }
