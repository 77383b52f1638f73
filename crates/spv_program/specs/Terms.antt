-- Terms by their parts, and the terms of formulas.
use Rattle.std.specs.Prelude.{Bool, true, false, ℤ, pos, Option}
use Rattle.spv_logic.specs.declared.names.names.Symbol.{Symbol}
use Rattle.spv_logic.specs.declared.types.Sort.{Sort}
use Rattle.spv_logic.specs.declared.operators.Head.{Head}
use Rattle.spv_logic.specs.declared.operators.Head.TheVariants as head
use Rattle.spv_logic.specs.Terms.{Term, Terms, term, terms, no_terms}
use Rattle.spv_program.specs.declared.types.Item.{Item}
use Rattle.spv_program.specs.declared.types.Item.TheVariants.{Variable, Class}
use Rattle.spv_program.specs.declared.operators.Arithmetic.{Arithmetic}
use Rattle.spv_program.specs.declared.operators.Arithmetic.TheVariants as arithmetic
use Rattle.spv_program.specs.declared.operators.Comparison.{Comparison}
use Rattle.spv_program.specs.declared.operators.Comparison.TheVariants as comparison
use Rattle.spv_program.specs.declared.operators.Connective.{Connective}
use Rattle.spv_program.specs.declared.operators.Connective.TheVariants as connective
use Rattle.spv_program.specs.Lists.{found}
use Rattle.spv_program.specs.Formulas.{Formula, Formulas, Annotation, Numeral, Boolean, NilOf, Named, ClassOf, Element, FieldOf, Content, Applied, Known, Negative, Calculated, Compared, Negated, Joined, Implied, no_formulas, formulas}
use Rattle.spv_program.specs.Programs.{Routine, Program}
use Rattle.spv_program.specs.Scopes.{Scope, body_scope, entry_scope, exit_scope, item_sort, sort_or_int, is_value_parameter}
use Rattle.spv_program.specs.FormulaTypes.{head_of_known}

-- ---- terms by their parts

abbrev pub alone : Head → Term
alone h = term h no_terms

abbrev pub unary : Head → Term → Term
unary h s = term h (terms s no_terms)

abbrev pub binary : Head → Term → Term → Term
binary h s t = term h (terms s (terms t no_terms))

abbrev pub ternary : Head → Term → Term → Term → Term
ternary h s t u = term h (terms s (terms t (terms u no_terms)))

abbrev pub numeral : ℤ → Term
numeral z = alone (head.Num z)

abbrev pub truth : Bool → Term
truth true = alone head.True
truth false = alone head.False

-- a sign `-` before what is no numeral
abbrev pub negative : Term → Term
negative t = binary head.Sub (numeral (pos 0)) t

abbrev pub head_of_arithmetic : Arithmetic → Head
head_of_arithmetic arithmetic.Plus = head.Add
head_of_arithmetic arithmetic.Minus = head.Sub
head_of_arithmetic arithmetic.Times = head.Mul
head_of_arithmetic arithmetic.Div = head.Div
head_of_arithmetic arithmetic.Mod = head.Mod

-- `>` and `>=` are turned round
abbrev pub comparing : Comparison → Term → Term → Term
comparing comparison.Equal s t = binary head.Eq s t
comparing comparison.NotEqual s t = unary head.Not (binary head.Eq s t)
comparing comparison.Less s t = binary head.Lt s t
comparing comparison.AtMost s t = binary head.Le s t
comparing comparison.Greater s t = binary head.Lt t s
comparing comparison.AtLeast s t = binary head.Le t s

abbrev pub head_of_connective : Connective → Head
head_of_connective connective.And = head.And
head_of_connective connective.Or = head.Or

-- ---- the heads of names

-- a name of a scope as it stands now
abbrev pub name_in : Scope → Symbol → Head
name_in names x = head.Var x (sort_or_int (found names x)) 0

-- in EXIT a value parameter is what it was at the entry
abbrev pub start_or_name : Bool → Symbol → Sort → Head
start_or_name true x s = head.Start x s
start_or_name false x s = head.Var x s 0

abbrev pub name_at_exit : Program → Routine → Symbol → Head
name_at_exit p r x = start_or_name (is_value_parameter r x) x (sort_or_int (found (exit_scope p r) x))

-- the variable or class of an item
abbrev pub item_head : Program → Option Routine → Item → Head
item_head p here (Variable x) = head.Var x (item_sort p here (Variable x)) 0
item_head p here (Class t) = head.ClassVar t 0

-- ---- formulas

abbrev mutual
  -- the term of a formula whose names have these heads
  pub formula_term : (Symbol → Head) → Formula → Term
  formula_term names (Numeral z) = numeral z
  formula_term names (Boolean b) = truth b
  formula_term names (NilOf t) = alone (head.Nil t)
  formula_term names (Named line x) = alone (names x)
  formula_term names (ClassOf line t) = alone (head.ClassVar t 0)
  formula_term names (Element a i) = binary head.Select (formula_term names a) (formula_term names i)
  formula_term names (FieldOf r f) = unary (head.Field f) (formula_term names r)
  formula_term names (Content line t q) = binary head.Cell (alone (head.ClassVar t 0)) (formula_term names q)
  formula_term names (Applied f fs) = term (head.App f) (formula_terms names fs)
  formula_term names (Known b fs) = term (head_of_known b) (formula_terms names fs)
  formula_term names (Negative f) = negative (formula_term names f)
  formula_term names (Calculated o f g) = binary (head_of_arithmetic o) (formula_term names f) (formula_term names g)
  formula_term names (Compared o f g) = comparing o (formula_term names f) (formula_term names g)
  formula_term names (Negated f) = unary head.Not (formula_term names f)
  formula_term names (Joined o f g) = binary (head_of_connective o) (formula_term names f) (formula_term names g)
  formula_term names (Implied f g) = binary head.Implies (formula_term names f) (formula_term names g)

  pub formula_terms : (Symbol → Head) → Formulas → Terms
  formula_terms names no_formulas = no_terms
  formula_terms names (formulas f fs) = terms (formula_term names f) (formula_terms names fs)

-- the term of an annotation in a body, or of the main block's ENTRY and EXIT
abbrev pub body_term : Program → Option Routine → Annotation → Term
body_term p here a = formula_term (name_in (body_scope p here)) a.formula

-- the terms of a routine's ENTRY and EXIT
abbrev pub entry_term : Program → Routine → Annotation → Term
entry_term p r a = formula_term (name_in (entry_scope p r)) a.formula

abbrev pub exit_term : Program → Routine → Annotation → Term
exit_term p r a = formula_term (name_at_exit p r) a.formula
