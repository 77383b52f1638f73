-- The terms of expressions and places that make no calls.
use Rattle.std.specs.Prelude.{Bool, true, false, ◌&&◌, [], None}
use Rattle.spv_logic.specs.declared.names.names.Symbol.{Symbol}
use Rattle.spv_logic.specs.declared.operators.Head.{Head}
use Rattle.spv_logic.specs.declared.operators.Head.TheVariants as head
use Rattle.spv_logic.specs.Terms.{Term}
use Rattle.spv_program.specs.Expressions.{Expression, Designator, Selectors, Numeral, Boolean, NilOf, Read, Result, Through, Negative, Calculated, Compared, Negated, Joined, designator, no_selectors, at_index, at_field, at_cell}
use Rattle.spv_program.specs.Places.{Target, ToElement, ToField, further, cell_behind, present}
use Rattle.spv_program.specs.Terms.{alone, unary, binary, numeral, truth, negative, head_of_arithmetic, comparing, head_of_connective}

-- ---- no calls

abbrev mutual
  -- whether an expression makes no call
  pub has_no_calls : Expression → Bool
  has_no_calls (Numeral z) = true
  has_no_calls (Boolean b) = true
  has_no_calls (NilOf t) = true
  has_no_calls (Read d) = place_has_no_calls d
  has_no_calls (Result c) = false
  has_no_calls (Through c line t others) = false
  has_no_calls (Negative e) = has_no_calls e
  has_no_calls (Calculated o a b) = has_no_calls a && has_no_calls b
  has_no_calls (Compared o a b) = has_no_calls a && has_no_calls b
  has_no_calls (Negated e) = has_no_calls e
  has_no_calls (Joined o a b) = has_no_calls a && has_no_calls b

  pub place_has_no_calls : Designator → Bool
  place_has_no_calls (designator line x others) = selectors_have_no_calls others

  pub selectors_have_no_calls : Selectors → Bool
  selectors_have_no_calls no_selectors = true
  selectors_have_no_calls (at_index t e others) = has_no_calls e && selectors_have_no_calls others
  selectors_have_no_calls (at_field t f others) = selectors_have_no_calls others
  selectors_have_no_calls (at_cell line t others) = selectors_have_no_calls others

-- ---- terms

abbrev mutual
  -- the term of an expression without calls whose names have these heads; a call, which it has not, would be FALSE
  pub expression_term : (Symbol → Head) → Expression → Term
  expression_term heads (Numeral z) = numeral z
  expression_term heads (Boolean b) = truth b
  expression_term heads (NilOf t) = alone (head.Nil t)
  expression_term heads (Read d) = place_term heads d
  expression_term heads (Result c) = alone head.False
  expression_term heads (Through c line t others) =
      term_behind heads (binary head.Cell (alone (head.ClassVar t 0)) (alone head.False)) others
  expression_term heads (Negative e) = negative (expression_term heads e)
  expression_term heads (Calculated o a b) = binary (head_of_arithmetic o) (expression_term heads a) (expression_term heads b)
  expression_term heads (Compared o a b) = comparing o (expression_term heads a) (expression_term heads b)
  expression_term heads (Negated e) = unary head.Not (expression_term heads e)
  expression_term heads (Joined o a b) = binary (head_of_connective o) (expression_term heads a) (expression_term heads b)

  -- what stands at a place
  pub place_term : (Symbol → Head) → Designator → Term
  place_term heads (designator line x others) = term_behind heads (alone (heads x)) others

  -- what stands behind selectors
  pub term_behind : (Symbol → Head) → Term → Selectors → Term
  term_behind heads s no_selectors = s
  term_behind heads s (at_index t e others) = term_behind heads (binary head.Select s (expression_term heads e)) others
  term_behind heads s (at_field t f others) = term_behind heads (unary (head.Field f) s) others
  term_behind heads s (at_cell line t others) = term_behind heads (binary head.Cell (alone (head.ClassVar t 0)) s) others

-- ---- places

-- the place that selectors lead to
abbrev pub target_behind : (Symbol → Head) → Target → Selectors → Target
target_behind heads d no_selectors = d
target_behind heads d (at_index t e others) = target_behind heads (further (ToElement (expression_term heads e)) d) others
target_behind heads d (at_field t f others) = target_behind heads (further (ToField f) d) others
target_behind heads d (at_cell line t others) = target_behind heads (cell_behind t (present d)) others

-- the variable of a name, as a whole
abbrev pub variable_at : Head → Target
variable_at h = record { root = h; pointer = None; path = [] }

-- the place of a designator without calls
abbrev pub place_target : (Symbol → Head) → Designator → Target
place_target heads (designator line x others) = target_behind heads (variable_at (heads x)) others
