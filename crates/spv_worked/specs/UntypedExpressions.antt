-- Programs that are not well typed, for an expression, an argument or a formula: each breaks one rule alone.
use Rattle.std.specs.Prelude.{List, [], ◌∷◌}
use Rattle.spv_program.specs.declared.operators.Arithmetic.TheVariants as arithmetic
use Rattle.spv_program.specs.declared.operators.BuiltIn.TheVariants as known
use Rattle.spv_program.specs.declared.operators.Comparison.TheVariants as comparison
use Rattle.spv_program.specs.declared.operators.Connective.TheVariants as connective
use Rattle.spv_program.specs.Expressions.{Expression, Arguments, NilOf, Read, Result, Through, Negative, Calculated, Compared, Negated, Joined, designator, no_selectors, at_index, at_field, at_cell, call, no_arguments, by_value, by_place}
use Rattle.spv_program.specs.Formulas as formula
use Rattle.spv_program.specs.Formulas.{Formula, Formulas, no_formulas, formulas}
use Rattle.spv_program.specs.Statements.{Statement, Assign, Perform, Assert}
use Rattle.spv_program.specs.Programs.{Program}
use Rattle.spv_worked.specs.Small.{x, y, i, b, a, p, q, f, g, n, t, val, Fact, integer, three, ref, node, other, num, at, read, set, element, content, named, number, equal, note, place_formal, routine}
use Rattle.spv_worked.specs.TypedPrograms.{nothing, sharing, pointing, over, with_main, sharing_call, pointing_call}
use Rattle.spv_worked.specs.UntypedDeclarations.{no_type}

-- ---- expressions

abbrev pub to_x : Expression → Program
to_x e = with_main (set x e)

abbrev pub to_b : Expression → Program
to_b e = with_main (set b e)

-- operands of other sorts: signs, numbers, truth values, comparisons
abbrev pub with_wrong_operands : List Program
with_wrong_operands =
    to_x (Negative (read b))
    ∷ to_x (Calculated arithmetic.Plus (read b) (num 1))
    ∷ to_x (Calculated arithmetic.Plus (num 1) (read b))
    ∷ to_b (Negated (read x))
    ∷ to_b (Joined connective.And (read x) (read b))
    ∷ to_b (Joined connective.Or (read b) (read x))
    ∷ to_b (Compared comparison.Equal (read x) (read b))
    ∷ to_b (Compared comparison.NotEqual (read p) (read q))
    ∷ to_b (Compared comparison.Less (read b) (read b))
    ∷ to_b (Compared comparison.AtMost (read p) (read p))
    ∷ to_b (Compared comparison.Equal (read a) (read a))
    ∷ to_b (Compared comparison.Equal (read t) (read t))
    ∷ to_b (Compared comparison.Equal (NilOf node) (NilOf node)) ∷ []

-- names that are not there; a function's result that is read by its name in its own body
abbrev pub with_wrong_reads : List Program
with_wrong_reads =
    to_x (read n)
    ∷ with_main (Assign (at n) (num 1))
    ∷ over sharing (record pointing { body = set g (read g) }) (set x (num 1)) ∷ []

-- `[ ]` behind no array, with a truth value, or told of another type; `.` behind no record, or without such a field;
-- `^` behind no pointer, or told of another type
abbrev pub with_wrong_selectors : List Program
with_wrong_selectors =
    to_x (Read (designator 1 x (at_index integer (num 1) no_selectors)))
    ∷ to_x (Read (element a (read b)))
    ∷ to_x (Read (designator 1 a (at_index ref (num 1) no_selectors)))
    ∷ to_x (Read (designator 1 x (at_field integer val no_selectors)))
    ∷ to_x (Read (designator 1 t (at_field node x no_selectors)))
    ∷ to_x (Read (designator 1 t (at_field other val no_selectors)))
    ∷ to_x (Read (designator 1 x (at_cell 1 node no_selectors)))
    ∷ to_b (Read (designator 1 q (at_cell 1 node (at_field other val no_selectors)))) ∷ []

-- ---- calls

abbrev pub calling : Arguments → Program
calling given = with_main (Perform (call (routine 0) 1 given))

-- too few and too many arguments, a value for a place and a place for a value, and arguments of other sorts
abbrev pub with_wrong_arguments : List Program
with_wrong_arguments =
    calling no_arguments
    ∷ calling (by_place (at x) no_arguments)
    ∷ calling (by_place (at x) (by_value (num 1) (by_value (num 1) no_arguments)))
    ∷ calling (by_place (at x) (by_value (num 1) (by_place (at x) no_arguments)))
    ∷ calling (by_value (read x) (by_value (num 1) no_arguments))
    ∷ calling (by_place (at x) (by_place (at x) no_arguments))
    ∷ calling (by_place (at x) (by_value (read b) no_arguments))
    ∷ calling (by_place (at b) (by_value (num 1) no_arguments))
    ∷ calling (by_place (at n) (by_value (num 1) no_arguments)) ∷ []

-- PROCEDURE f(VAR n: 1..3)
abbrev pub with_three : Statement → Program
with_three s = over (record nothing { formals = place_formal n three ∷ [] }) pointing s

-- a place of a subrange stands for one with the same bounds alone
abbrev pub with_wrong_bounds : List Program
with_wrong_bounds =
    with_main (sharing_call (at i) (num 1))
    ∷ with_three (Perform (call (routine 0) 1 (by_place (at x) no_arguments)))
    ∷ with_three (Perform (call (routine 0) 1 (by_place (at y) no_arguments))) ∷ []

-- no such routine; a procedure in an expression, a function as a statement; `^` behind a result that is no such pointer; and
-- a function that hands on a part of its own result
abbrev pub with_wrong_calls : List Program
with_wrong_calls =
    with_main (Perform (call (routine 9) 1 no_arguments))
    ∷ to_x (Result (call (routine 0) 1 (by_place (at x) (by_value (num 1) no_arguments))))
    ∷ with_main (Perform (pointing_call (num 1)))
    ∷ to_x (Result (pointing_call (num 1)))
    ∷ to_b (Through (pointing_call (num 1)) 1 other (at_field other val no_selectors))
    ∷ to_x (Through (pointing_call (num 1)) 1 node no_selectors)
    ∷ over sharing (record pointing { body = sharing_call (content g) (num 1) }) (set x (num 1)) ∷ []

-- ---- formulas

abbrev pub stating : Formula → Program
stating f = with_main (Assert (note 1 f))

abbrev pub one : Formula → Formulas
one f = formulas f no_formulas

-- an annotation is a truth value; operands of other sorts
abbrev pub with_wrong_formulas : List Program
with_wrong_formulas =
    stating (number 1)
    ∷ stating (equal (formula.Negative (named b)) (number 1))
    ∷ stating (equal (formula.Calculated arithmetic.Times (number 1) (named b)) (number 1))
    ∷ stating (equal (named x) (named b))
    ∷ stating (formula.Compared comparison.Greater (named b) (named b))
    ∷ stating (equal (formula.NilOf node) (formula.NilOf node))
    ∷ stating (formula.Negated (named x))
    ∷ stating (formula.Joined connective.Or (named b) (named x))
    ∷ stating (formula.Implied (named x) (named b)) ∷ []

-- names that are not there, parts of what has none, symbols with other arguments than declared
abbrev pub with_wrong_names_in_formulas : List Program
with_wrong_names_in_formulas =
    stating (equal (named n) (number 1))
    ∷ stating (equal (formula.Element (named x) (number 1)) (number 1))
    ∷ stating (equal (formula.Element (named a) (named b)) (number 1))
    ∷ stating (equal (formula.FieldOf (named x) val) (number 1))
    ∷ stating (equal (formula.FieldOf (named t) x) (number 1))
    ∷ stating (formula.Compared comparison.Equal (formula.Content 1 node (named x)) (named t))
    ∷ stating (formula.Compared comparison.Equal (formula.Content 1 node (named q)) (named t))
    ∷ stating (equal (formula.Applied Fact no_formulas) (number 1))
    ∷ stating (equal (formula.Applied Fact (one (named b))) (number 1))
    ∷ stating (equal (formula.Applied x (one (number 1))) (number 1))
    ∷ stating (equal (formula.Known known.Select (formulas (named x) (one (number 1)))) (number 1))
    ∷ stating (formula.Known known.PointerTo (formulas (formula.NilOf no_type) (one (formula.ClassOf 1 no_type)))) ∷ []
