-- What statements and formulas read and write, in the order of the text.
use Rattle.std.specs.Prelude.{ℕ, Bool, true, false, ◌&&◌, not, List, [], ◌∷◌, ◌++◌, Option, Some, None, if◌then◌else◌}
use Rattle.spv_logic.specs.declared.names.names.Symbol.{Symbol}
use Rattle.spv_program.specs.declared.types.Item.{Item}
use Rattle.spv_program.specs.declared.types.Item.TheVariants.{Variable, Class}
use Rattle.spv_program.specs.Lists.{same_name}
use Rattle.spv_program.specs.Types.{same_item}
use Rattle.spv_program.specs.Expressions.{Expression, Designator, Selectors, Call, Arguments, Numeral, Boolean, NilOf, Read, Result, Through, Negative, Calculated, Compared, Negated, Joined, designator, no_selectors, at_index, at_field, at_cell, call, no_arguments, by_value, by_place}
use Rattle.spv_program.specs.Formulas as formula
use Rattle.spv_program.specs.Formulas.{Formula, Formulas, Annotation, no_formulas, formulas}
use Rattle.spv_program.specs.Statements.{Statement, Arms, Empty, Assign, Perform, New, Sequence, If, Case, While, Repeat, For, Assert, no_arms, arm}

-- what a use is of: a routine's own name, or something that the program shares
pub data Root : Type 0 where
  Own : Symbol → Root
  Shared : Item → Root

-- a use: of what, whether it may be changed, and the line
pub record Use : Type 0 where
  pub root : Root
  pub changes : Bool
  pub line : ℕ

abbrev pub same_root : Root → Root → Bool
same_root (Own x) (Own y) = same_name x y
same_root (Shared i) (Shared j) = same_item i j
same_root _ _ = false

-- what a name stands for, where `own` tells the own names
abbrev pub name_root : (Symbol → Bool) → Symbol → Root
name_root own x = if own x then Own x else Shared (Variable x)

-- ---- expressions

-- whether `^` stands among selectors
abbrev pub has_cell : Selectors → Bool
has_cell no_selectors = false
has_cell (at_index t e others) = has_cell others
has_cell (at_field t f others) = has_cell others
has_cell (at_cell line t others) = true

-- a place is written at its root: its first name, or the class of its last `^`; the rest of it is read
abbrev mutual
  pub expression_uses : (Symbol → Bool) → Expression → List Use
  expression_uses own (Numeral z) = []
  expression_uses own (Boolean b) = []
  expression_uses own (NilOf t) = []
  expression_uses own (Read d) = designator_uses own false d
  expression_uses own (Result c) = call_uses own c
  expression_uses own (Through c line t others) = call_uses own c ++ record { root = Shared (Class t); changes = false; line = line }
      ∷ selector_uses own false others
  expression_uses own (Negative e) = expression_uses own e
  expression_uses own (Calculated o a b) = expression_uses own a ++ expression_uses own b
  expression_uses own (Compared o a b) = expression_uses own a ++ expression_uses own b
  expression_uses own (Negated e) = expression_uses own e
  expression_uses own (Joined o a b) = expression_uses own a ++ expression_uses own b

  pub designator_uses : (Symbol → Bool) → Bool → Designator → List Use
  designator_uses own writes (designator line x others) =
      record { root = name_root own x; changes = writes && not (has_cell others); line = line } ∷ selector_uses own writes others

  pub selector_uses : (Symbol → Bool) → Bool → Selectors → List Use
  selector_uses own writes no_selectors = []
  selector_uses own writes (at_index t e others) = expression_uses own e ++ selector_uses own writes others
  selector_uses own writes (at_field t f others) = selector_uses own writes others
  selector_uses own writes (at_cell line t others) =
      record { root = Shared (Class t); changes = writes && not (has_cell others); line = line } ∷ selector_uses own writes others

  pub call_uses : (Symbol → Bool) → Call → List Use
  call_uses own (call r line arguments) = argument_uses own arguments

  pub argument_uses : (Symbol → Bool) → Arguments → List Use
  argument_uses own no_arguments = []
  argument_uses own (by_value e others) = expression_uses own e ++ argument_uses own others
  argument_uses own (by_place d others) = designator_uses own true d ++ argument_uses own others

-- the calls in an expression, inner ones first
abbrev mutual
  pub expression_calls : Expression → List Call
  expression_calls (Numeral z) = []
  expression_calls (Boolean b) = []
  expression_calls (NilOf t) = []
  expression_calls (Read d) = designator_calls d
  expression_calls (Result c) = calls_with c
  expression_calls (Through c line t others) = calls_with c ++ selector_calls others
  expression_calls (Negative e) = expression_calls e
  expression_calls (Calculated o a b) = expression_calls a ++ expression_calls b
  expression_calls (Compared o a b) = expression_calls a ++ expression_calls b
  expression_calls (Negated e) = expression_calls e
  expression_calls (Joined o a b) = expression_calls a ++ expression_calls b

  pub designator_calls : Designator → List Call
  designator_calls (designator line x others) = selector_calls others

  pub selector_calls : Selectors → List Call
  selector_calls no_selectors = []
  selector_calls (at_index t e others) = expression_calls e ++ selector_calls others
  selector_calls (at_field t f others) = selector_calls others
  selector_calls (at_cell line t others) = selector_calls others

  -- a call behind those in its arguments
  pub calls_with : Call → List Call
  calls_with (call r line arguments) = argument_calls arguments ++ call r line arguments ∷ []

  pub argument_calls : Arguments → List Call
  argument_calls no_arguments = []
  argument_calls (by_value e others) = expression_calls e ++ argument_calls others
  argument_calls (by_place d others) = designator_calls d ++ argument_calls others

-- ---- formulas

abbrev pub reading : Root → ℕ → Use
reading root line = record { root = root; changes = false; line = line }

-- an annotation reads what it names
abbrev mutual
  pub formula_uses : (Symbol → Bool) → Formula → List Use
  formula_uses own (formula.Numeral z) = []
  formula_uses own (formula.Boolean b) = []
  formula_uses own (formula.NilOf t) = []
  formula_uses own (formula.Named line x) = reading (name_root own x) line ∷ []
  formula_uses own (formula.ClassOf line t) = reading (Shared (Class t)) line ∷ []
  formula_uses own (formula.Element a i) = formula_uses own a ++ formula_uses own i
  formula_uses own (formula.FieldOf r f) = formula_uses own r
  formula_uses own (formula.Content line t q) = formula_uses own q ++ reading (Shared (Class t)) line ∷ []
  formula_uses own (formula.Applied f fs) = formulas_uses own fs
  formula_uses own (formula.Known b fs) = formulas_uses own fs
  formula_uses own (formula.Negative f) = formula_uses own f
  formula_uses own (formula.Calculated o f g) = formula_uses own f ++ formula_uses own g
  formula_uses own (formula.Compared o f g) = formula_uses own f ++ formula_uses own g
  formula_uses own (formula.Negated f) = formula_uses own f
  formula_uses own (formula.Joined o f g) = formula_uses own f ++ formula_uses own g
  formula_uses own (formula.Implied f g) = formula_uses own f ++ formula_uses own g

  pub formulas_uses : (Symbol → Bool) → Formulas → List Use
  formulas_uses own no_formulas = []
  formulas_uses own (formulas f fs) = formula_uses own f ++ formulas_uses own fs

abbrev pub annotation_uses : (Symbol → Bool) → Option Annotation → List Use
annotation_uses own None = []
annotation_uses own (Some a) = formula_uses own a.formula

-- ---- statements

abbrev mutual
  pub statement_uses : (Symbol → Bool) → Statement → List Use
  statement_uses own Empty = []
  statement_uses own (Assign d e) = designator_uses own true d ++ expression_uses own e
  statement_uses own (Perform c) = call_uses own c
  statement_uses own (New line d t) = designator_uses own true d ++ record { root = Shared (Class t); changes = true; line = line } ∷ []
  statement_uses own (Sequence a b) = statement_uses own a ++ statement_uses own b
  statement_uses own (If line e a b) = expression_uses own e ++ (statement_uses own a ++ statement_uses own b)
  statement_uses own (Case line e arms) = expression_uses own e ++ arms_uses own arms
  statement_uses own (While line f e s) = annotation_uses own f ++ (expression_uses own e ++ statement_uses own s)
  statement_uses own (Repeat line f s e) = annotation_uses own f ++ (statement_uses own s ++ expression_uses own e)
  statement_uses own (For line f count s) =
      annotation_uses own f
      ++ record { root = name_root own count.variable; changes = true; line = line }
      ∷ (expression_uses own count.first ++ (expression_uses own count.last ++ statement_uses own s))
  statement_uses own (Assert a) = formula_uses own a.formula

  pub arms_uses : (Symbol → Bool) → Arms → List Use
  arms_uses own no_arms = []
  arms_uses own (arm labels s others) = statement_uses own s ++ arms_uses own others

abbrev mutual
  pub statement_calls : Statement → List Call
  statement_calls Empty = []
  statement_calls (Assign d e) = designator_calls d ++ expression_calls e
  statement_calls (Perform c) = calls_with c
  statement_calls (New line d t) = designator_calls d
  statement_calls (Sequence a b) = statement_calls a ++ statement_calls b
  statement_calls (If line e a b) = expression_calls e ++ (statement_calls a ++ statement_calls b)
  statement_calls (Case line e arms) = expression_calls e ++ arms_calls arms
  statement_calls (While line f e s) = expression_calls e ++ statement_calls s
  statement_calls (Repeat line f s e) = statement_calls s ++ expression_calls e
  statement_calls (For line f count s) = expression_calls count.first ++ (expression_calls count.last ++ statement_calls s)
  statement_calls (Assert a) = []

  pub arms_calls : Arms → List Call
  arms_calls no_arms = []
  arms_calls (arm labels s others) = statement_calls s ++ arms_calls others

-- ---- bodies

-- what the body of a routine, or of the main block, reads and writes, and which routines it calls
abbrev pub body_uses : (Symbol → Bool) → Statement → List Use
body_uses own body = statement_uses own body

abbrev pub body_calls : Statement → List Call
body_calls body = statement_calls body
