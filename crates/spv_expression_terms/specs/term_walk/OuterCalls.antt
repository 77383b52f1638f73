-- The outermost calls of an expression, and its term with something in the place of each.
use Rattle.std.specs.Prelude.{List, [], ◌∷◌, ◌++◌, length, take, drop, Option}
use Rattle.spv_logic.specs.declared.names.names.Symbol.{Symbol}
use Rattle.spv_logic.specs.declared.operators.Head.{Head}
use Rattle.spv_logic.specs.declared.operators.Head.TheVariants as head
use Rattle.spv_logic.specs.Terms.{Term, term}
use Rattle.spv_program.specs.Expressions.{Expression, Designator, Selectors, Call, Numeral, Boolean, NilOf, Read, Result, Through, Negative, Calculated, Compared, Negated, Joined, designator, no_selectors, at_index, at_field, at_cell}
use Rattle.spv_program.specs.Programs.{Routine, Program}
use Rattle.spv_program.specs.Supplies.{Supply}
use Rattle.spv_program.specs.Places.{Target, ToElement, ToField, further, cell_behind, present}
use Rattle.spv_program.specs.Terms.{alone, unary, binary, numeral, truth, negative, head_of_arithmetic, comparing, head_of_connective}
use Rattle.spv_program.specs.ExpressionTerms.{Called, called}

-- ---- calls

abbrev mutual
  -- the calls that stand in no other call of an expression, in the order in which they are made
  pub outer_calls : Expression → List Call
  outer_calls (Numeral z) = []
  outer_calls (Boolean b) = []
  outer_calls (NilOf t) = []
  outer_calls (Read d) = place_outer_calls d
  outer_calls (Result c) = c ∷ []
  outer_calls (Through c line t others) = c ∷ selectors_outer_calls others
  outer_calls (Negative e) = outer_calls e
  outer_calls (Calculated o a b) = outer_calls a ++ outer_calls b
  outer_calls (Compared o a b) = outer_calls a ++ outer_calls b
  outer_calls (Negated e) = outer_calls e
  outer_calls (Joined o a b) = outer_calls a ++ outer_calls b

  pub place_outer_calls : Designator → List Call
  place_outer_calls (designator line x others) = selectors_outer_calls others

  pub selectors_outer_calls : Selectors → List Call
  selectors_outer_calls no_selectors = []
  selectors_outer_calls (at_index t e others) = outer_calls e ++ selectors_outer_calls others
  selectors_outer_calls (at_field t f others) = selectors_outer_calls others
  selectors_outer_calls (at_cell line t others) = selectors_outer_calls others

-- of variables for the calls in some text, those for the calls in its first expression, and the others
abbrev pub for_first : Expression → List Head → List Head
for_first e vs = take (length (outer_calls e)) vs

abbrev pub for_others : Expression → List Head → List Head
for_others e vs = drop (length (outer_calls e)) vs

-- ---- terms

-- what stands in the place of a call: the first variable, FALSE where there is none
abbrev pub first_variable : List Head → Head
first_variable [] = head.False
first_variable (v ∷ vs) = v

abbrev mutual
  -- the term of an expression whose names have these heads, with these variables in the place of its outermost calls, in order
  pub filled : (Symbol → Head) → List Head → Expression → Term
  filled heads vs (Numeral z) = numeral z
  filled heads vs (Boolean b) = truth b
  filled heads vs (NilOf t) = alone (head.Nil t)
  filled heads vs (Read d) = filled_place heads vs d
  filled heads vs (Result c) = alone (first_variable vs)
  filled heads vs (Through c line t others) =
      filled_behind heads (drop 1 vs) (binary head.Cell (alone (head.ClassVar t 0)) (alone (first_variable vs))) others
  filled heads vs (Negative e) = negative (filled heads vs e)
  filled heads vs (Calculated o a b) = binary (head_of_arithmetic o) (filled heads (for_first a vs) a) (filled heads (for_others a vs) b)
  filled heads vs (Compared o a b) = comparing o (filled heads (for_first a vs) a) (filled heads (for_others a vs) b)
  filled heads vs (Negated e) = unary head.Not (filled heads vs e)
  filled heads vs (Joined o a b) = binary (head_of_connective o) (filled heads (for_first a vs) a) (filled heads (for_others a vs) b)

  -- what stands at a place
  pub filled_place : (Symbol → Head) → List Head → Designator → Term
  filled_place heads vs (designator line x others) = filled_behind heads vs (alone (heads x)) others

  -- what stands behind selectors
  pub filled_behind : (Symbol → Head) → List Head → Term → Selectors → Term
  filled_behind heads vs s no_selectors = s
  filled_behind heads vs s (at_index t e others) =
      filled_behind heads (for_others e vs) (binary head.Select s (filled heads (for_first e vs) e)) others
  filled_behind heads vs s (at_field t f others) = filled_behind heads vs (unary (head.Field f) s) others
  filled_behind heads vs s (at_cell line t others) = filled_behind heads vs (binary head.Cell (alone (head.ClassVar t 0)) s) others

-- the place that selectors lead to
abbrev pub filled_target : (Symbol → Head) → List Head → Target → Selectors → Target
filled_target heads vs d no_selectors = d
filled_target heads vs d (at_index t e others) =
    filled_target heads (for_others e vs) (further (ToElement (filled heads (for_first e vs) e)) d) others
filled_target heads vs d (at_field t f others) = filled_target heads vs (further (ToField f) d) others
filled_target heads vs d (at_cell line t others) = filled_target heads vs (cell_behind t (present d)) others

-- ---- calls that are made one after the other

abbrev pub head_of : Term → Head
head_of (term h ts) = h

-- the variables that stand for their values, the calls with those in their arguments, and the supply that is left
pub record MadeCalls : Type 0 where
  pub variables : List Head
  pub calls : List Called
  pub supply : Supply

abbrev pub made_calls : Program → Option Routine → Supply → List Call → MadeCalls
made_calls p here n [] = record { variables = []; calls = []; supply = n }
made_calls p here n (c ∷ others) =
    let first = called p here n c in
    let rest = made_calls p here first.supply others in
    record { variables = head_of first.term ∷ rest.variables; calls = first.calls ++ rest.calls; supply = rest.supply }
