-- Small loops, calls, headings, types and annotations: what comes from them and what does not.
use Rattle.std.proofs.Common.{◌≡◌, Bool, true, false, refl, sym, ap, ◌∙◌}
use Rattle.std.proofs.lemmas.Bool.{false≢true}
use Rattle.std.specs.Prelude.{ℕ, ℤ, [], ◌∷◌, Option, Some, None, pos, is_some, nat_eq}
use Rattle.std.specs.Ordering.{int_eq}
use Rattle.spv_logic.specs.declared.names.names.Symbol.{Symbol}
use Rattle.spv_logic.specs.declared.types.TypeId.{TypeId}
use Rattle.spv_logic.specs.declared.conditions.RoutineId.{RoutineId}
use Rattle.spv_tree.specs.declared.syntax.operators.Comparison.TheVariants as comparing
use Rattle.spv_tree.specs.declared.syntax.operators.Direction.{Direction as DirectionSign}
use Rattle.spv_tree.specs.declared.syntax.operators.Direction.TheVariants as towards
use Rattle.spv_tree.specs.declared.syntax.routines.RoutineMark.TheVariants.{Announced}
use Rattle.spv_tree.specs.syntax.Formulas as tree
use Rattle.spv_tree.specs.syntax.Types as types
use Rattle.spv_program.specs.declared.operators.Direction.{Direction}
use Rattle.spv_program.specs.declared.operators.Direction.TheVariants as direction
use Rattle.spv_program.specs.declared.types.TypeForm.{TypeForm}
use Rattle.spv_program.specs.declared.types.TypeForm.TheVariants.{Integer, Range}
use Rattle.spv_program.specs.Expressions.{Expression, Arguments, Numeral, no_arguments, by_value, by_place, Read}
use Rattle.spv_program.specs.Statements.{Statement, For}
use Rattle.spv_program.proofs.SortFacts.{nothing_there, some_is}
use Rattle.spv_type_soundness.specs.faithfulness.Examples.{c, name, x, y, start, integer, program, view, variable, number, alone, related, read, one, No, FromStatement, assign, assigning}
use Rattle.spv_type_soundness.specs.faithfulness.RoutineExamples.{for_of, boolean_group, counting, for_tree, CountersAreKept, with_p, first_routine, calling, call_tree, CallsAreKept, formal, group, ParametersAreKept, RoutinesAreKept, numeral_text, with_range, third, RangesAreKept, noted, NotesAreKept, Note, implication, ImplicationsAreKept, with_car, car_tree, applied, FunctionsAreKept}
use Rattle.spv_type_soundness.specs.faithfulness.Formulas.{operator_of, noted_constant, noted_variable, noted_start, noted_symbol, with_symbol, with_built_in, with_put, not_there, annotation, FormulaFrom, AnnotationFrom, formula_operators, Noted, NotedWith}
use Rattle.spv_type_soundness.specs.faithfulness.Names.{View, names_place}
use Rattle.spv_typing.specs.Known.{Function, Put, Car}
use Rattle.spv_program.specs.declared.operators.BuiltIn.{BuiltIn}
use Rattle.spv_program.specs.declared.operators.BuiltIn.TheVariants as known
use Rattle.spv_program.specs.Formulas.{Formula, Formulas, Named, Implied, Known}
use Rattle.spv_type_soundness.specs.faithfulness.Operators as origin
use Rattle.spv_type_soundness.specs.faithfulness.Expressions.{expression_operators, IsRead, IsWritten, IsCalled, read_variable, CallFrom, call_of}
use Rattle.spv_type_soundness.specs.faithfulness.Statements as statements
use Rattle.spv_type_soundness.specs.faithfulness.Types as type_trees
use Rattle.spv_type_soundness.specs.faithfulness.Routines.{FormalsFrom, no_formals, one_group, RoutinesFrom}
use Rattle.spv_type_soundness.specs.faithfulness.Routines as routines
use Rattle.spv_type_soundness.proofs.faithfulness.Examples.{one_alone, assigned, alone_read, numeral_is}

-- ---- FOR

number_alone : (n : ℕ) → Rattle.spv_type_soundness.specs.faithfulness.Examples.From (Numeral (pos n)) (alone (number n))
number_alone n = alone_read (origin.product origin.numeral origin.no_factors)

abbrev direction_in : Statement → Direction
direction_in (For line i count s) = count.direction
direction_in s = direction.Up

abbrev first_in : Statement → Expression
first_in (For line i count s) = count.first
first_in s = one

abbrev last_in : Statement → Expression
last_in (For line i count s) = count.last
last_in s = one

-- the direction of a FOR
record TowardsOf (d : DirectionSign) (s : Statement) : Type 0 where
  pub direction_is : direction_in s ≡ statements.direction_of d

towards_of : (d : DirectionSign) (from to : ℕ) (s : Statement) → FromStatement s (for_tree d from to) → TowardsOf d s
towards_of d from to s (statements.for i n f l a) = record { direction_is = refl }

abbrev is_up : Direction → Bool
is_up direction.Up = true
is_up direction.Down = false

other_direction : No (FromStatement (counting direction.Up 1 2) (for_tree towards.Down 1 2))
other_direction h = false≢true (sym (ap is_up (towards_of towards.Down 1 2 (counting direction.Up 1 2) h).direction_is))

-- the first number of a FOR
first_of : (d : DirectionSign) (from to : ℕ) (s : Statement) → FromStatement s (for_tree d from to)
    → Rattle.spv_type_soundness.specs.faithfulness.Examples.From (first_in s) (alone (number from))
first_of d from to s (statements.for i n f l a) = f

number_in : (e : Expression) (n : ℕ) → Rattle.spv_type_soundness.specs.faithfulness.Examples.From e (alone (number n)) → Numeral (pos n) ≡ e
number_in e n (origin.alone (origin.one_side (origin.unsigned (origin.product origin.numeral origin.no_factors) origin.no_terms))) = refl

abbrev is_two : Expression → Bool
is_two (Numeral z) = int_eq z (pos 2)
is_two e = false

no_one_in_two : No (Rattle.spv_type_soundness.specs.faithfulness.Examples.From one (alone (number 2)))
no_one_in_two h = false≢true (sym (ap is_two (number_in one 2 h)))

other_bounds : No (FromStatement (counting direction.Up 1 2) (for_tree towards.Up 2 1))
other_bounds h = no_one_in_two (first_of towards.Up 2 1 (counting direction.Up 1 2) h)

last_of : (d : DirectionSign) (from to : ℕ) (s : Statement) → FromStatement s (for_tree d from to)
    → Rattle.spv_type_soundness.specs.faithfulness.Examples.From (last_in s) (alone (number to))
last_of d from to s (statements.for i n f l a) = l

other_last : No (FromStatement (counting direction.Up 1 2) (for_tree towards.Up 1 1))
other_last h = false≢true (ap is_two (number_in (Numeral (pos 2)) 1 (last_of towards.Up 1 1 (counting direction.Up 1 2) h)))

counter_named : (z : Symbol) (d : DirectionSign) (from to : ℕ) (s : Statement) → FromStatement s (for_of z d from to)
    → names_place view z ≡ true
counter_named z d from to s (statements.for i n f l a) = n

no_constant_counts : (s : Statement) → No (FromStatement s (for_of c towards.Up 1 2))
no_constant_counts s h = false≢true (counter_named c towards.Up 1 2 s h)

pub counters_are_kept : CountersAreKept
counters_are_kept = (
  statements.for not_there refl (number_alone 1) (number_alone 2) (assigned y one (alone (number 1)) refl one_alone),
  other_direction,
  other_bounds,
  other_last,
  no_constant_counts,
)

-- ---- calls

x_argument : origin.FromArguments expression_operators (IsRead with_p) (IsWritten with_p) (IsCalled with_p) (origin.Value (read x) ∷ [])
    (tree.more_formulas (alone (variable x)) tree.no_more_formulas)
x_argument = origin.one_argument (origin.value (origin.alone (origin.one_side (origin.unsigned
    (origin.product (origin.read (origin.read_name (read_variable refl) origin.no_more)) origin.no_factors) origin.no_terms))))
    origin.no_arguments

second_is_not_first : Some first_routine ≡ Some (record { 0 = 1 }) → ⊥
second_is_not_first e = let k : first_routine ≡ record { 0 = 1 } = some_is e in false≢true
    (ap (λ (r : RoutineId). Rattle.std.specs.Prelude.nat_eq r.0 1) k)

other_routine : No (statements.StatementFrom with_p with_p (calling (record { 0 = 1 }) (by_value (read x) no_arguments)) call_tree)
other_routine (statements.procedure (call_of e gs k)) = second_is_not_first e

abbrev has_some : Option Arguments → Bool
has_some (Some (by_value e others)) = true
has_some (Some (by_place d others)) = true
has_some (Some no_arguments) = false
has_some None = true

some_given : (g : origin.Given Expression) → has_some (Rattle.spv_type_soundness.specs.faithfulness.Expressions.arguments_of (g ∷ [])) ≡ true
some_given (origin.Value e) = refl
some_given (origin.FieldName f) = refl
some_given (origin.AtPlace (Read d)) = refl
some_given (origin.AtPlace (Numeral z)) = refl
some_given (origin.AtPlace e) = refl

argument_lost : No (statements.StatementFrom with_p with_p (calling first_routine no_arguments) call_tree)
argument_lost (statements.procedure (call_of e (origin.one_argument {g = g} h origin.no_arguments) k)) = false≢true
    (sym (ap has_some k) ∙ some_given g)

no_routine_there : No (statements.StatementFrom view view (calling first_routine (by_value (read x) no_arguments)) call_tree)
no_routine_there (statements.procedure (call_of e gs k)) = nothing_there e

pub calls_are_kept : CallsAreKept
calls_are_kept = (statements.procedure (call_of refl x_argument refl), other_routine, argument_lost, no_routine_there)

-- ---- headings and routines

abbrev record_of : ℕ → TypeId
record_of n = record { 0 = n }

boolean_is_not_integer : Some (record_of 1) ≡ Some integer → ⊥
boolean_is_not_integer e = let k : record_of 1 ≡ integer = some_is e in false≢true (ap (λ (t : TypeId). nat_eq t.0 0) k)

var_lost : No (FormalsFrom start program [] (group true ∷ []) (formal false ∷ []))
var_lost (one_group e h) = elim h [ ]

parameter_lost : No (FormalsFrom start program [] (group true ∷ []) [])
parameter_lost (one_group e h) = elim h [ ]

boolean_parameter : No (FormalsFrom start program [] (boolean_group ∷ []) (formal true ∷ []))
boolean_parameter (one_group e no_formals) = boolean_is_not_integer e

pub parameters_are_kept : ParametersAreKept
parameters_are_kept = (one_group refl no_formals, var_lost, parameter_lost, boolean_parameter)

pub routines_are_kept : RoutinesAreKept
routines_are_kept h c l b = (λ r. elim r [ ], no_body, λ r. elim r [ ], λ r. elim r [ ])
  where
    no_body : No (RoutinesFrom start program [] (Announced h c ∷ []) [])
    no_body (routines.announced e r) = elim r [ ]

-- ---- types

nine_is_not_eight : pos 8 ≡ pos 9 → ⊥
nine_is_not_eight e = false≢true (ap (λ (q : ℤ). int_eq q (pos 9)) e)

abbrev high_in : TypeForm → ℤ
high_in (Range low high) = high
high_in f = pos 0

abbrev is_range : TypeForm → Bool
is_range (Range low high) = true
is_range f = false

other_bound : No (type_trees.TypeFrom with_range [] third (types.range 1 (numeral_text 1) (numeral_text 8)))
other_bound (type_trees.subrange {a = a} {b = b} e low high) =
    let k : Range (pos 1) (pos 9) ≡ Range a b = some_is e in
    nine_is_not_eight (numeral_is with_range b 8 high ∙ sym (ap high_in k))

no_subrange : No (type_trees.TypeFrom with_range [] integer (types.range 1 (numeral_text 1) (numeral_text 9)))
no_subrange (type_trees.subrange {a = a} {b = b} e low high) = let k : Integer ≡ Range a b = some_is e in false≢true (ap is_range k)

other_name : No (type_trees.TypeFrom with_range [] third (types.named 1 (name (Rattle.spv_type_soundness.specs.faithfulness.Examples.named 0))))
other_name (type_trees.by_name e) = let k : integer ≡ third = some_is e in false≢true
    (ap (λ (t : TypeId). Rattle.std.specs.Prelude.nat_eq t.0 2) k)

abbrev low_in : TypeForm → ℤ
low_in (Range low high) = low
low_in f = pos 0

other_low : No (type_trees.TypeFrom with_range [] third (types.range 1 (numeral_text 2) (numeral_text 9)))
other_low (type_trees.subrange {a = a} {b = b} e low high) =
    let k : Range (pos 1) (pos 9) ≡ Range a b = some_is e in
    let z : pos 2 ≡ pos 1 = numeral_is with_range a 2 low ∙ sym (ap low_in k) in
    false≢true (ap (λ (q : ℤ). int_eq q (pos 1)) z)

pub ranges_are_kept : RangesAreKept
ranges_are_kept = (
  type_trees.subrange refl (statements.unsigned statements.number) (statements.unsigned statements.number),
  other_bound,
  other_low,
  no_subrange,
  other_name,
)

-- ---- annotations

x_noted : origin.FromTerm (formula_operators view) (Noted view) (Noted view) (NotedWith view)
    (Rattle.spv_program.specs.Formulas.Named 1 x) (variable x)
x_noted = origin.product (origin.read (origin.read_name (noted_variable refl) origin.no_more)) origin.no_factors

y_noted : origin.FromTerm (formula_operators view) (Noted view) (Noted view) (NotedWith view)
    (Rattle.spv_program.specs.Formulas.Named 1 y) (variable y)
y_noted = origin.product (origin.read (origin.read_name (noted_variable refl) origin.no_more)) origin.no_factors

other_line : No (AnnotationFrom view (noted 2) (related comparing.Equal (variable x) (variable y)))
other_line h = elim h [ ]

pub notes_are_kept : NotesAreKept
notes_are_kept = (
  annotation (origin.alone (origin.two_sides (origin.unsigned x_noted origin.no_terms)
      (origin.unsigned y_noted origin.no_terms))),
  other_line,
)

note_alone : {v : View} {f : Formula} {t : tree.Term} → origin.FromTerm (formula_operators v) (Noted v) (Noted v) (NotedWith v) f t
    → FormulaFrom v f (alone t)
note_alone h = origin.alone (origin.one_side (origin.unsigned h origin.no_terms))

-- an implication and its sides
record Implies (f : Formula) : Type 0 where
  pub left : Formula
  pub right : Formula
  pub left_from : origin.FromTerm (formula_operators view) (Noted view) (Noted view) (NotedWith view) left (variable x)
  pub is : Implied left right ≡ f

implies_of : (f : Formula) → Note f implication → Implies f
implies_of f (origin.implication {x = a} {y = b} (origin.one_side (origin.unsigned h origin.no_terms)) g e) = record
    { left = a; right = b; left_from = h; is = some_is e }

abbrev left_of : Formula → Formula
left_of (Implied a b) = a
left_of f = f

abbrev is_implied : Formula → Bool
is_implied (Implied a b) = true
is_implied f = false

abbrev is_y : Formula → Bool
is_y (Named line s) = nat_eq s.0 11
is_y f = false

x_is : (f : Formula) → origin.FromTerm (formula_operators view) (Noted view) (Noted view) (NotedWith view) f (variable x) → is_y f ≡ false
x_is f (origin.product (origin.read (origin.read_name (noted_constant e) origin.no_more)) origin.no_factors) = refl
x_is f (origin.product (origin.read (origin.read_name (noted_variable e) origin.no_more)) origin.no_factors) = refl
x_is f (origin.product (origin.read (origin.read_name (noted_start e) origin.no_more)) origin.no_factors) = refl
x_is f (origin.product (origin.read (origin.read_name (noted_symbol e) origin.no_more)) origin.no_factors) = refl

swapped : No (Note (Implied (Named 1 y) (Named 1 x)) implication)
swapped h = let i = implies_of (Implied (Named 1 y) (Named 1 x)) h in false≢true (sym (x_is i.left i.left_from) ∙ ap is_y (ap left_of i.is))

no_conclusion_lost : No (Note (Named 1 x) implication)
no_conclusion_lost h = let i = implies_of (Named 1 x) h in false≢true (sym (ap is_implied i.is))

abbrev line_of : Formula → ℕ
line_of (Named line s) = line
line_of f = 1

line_is : (f : Formula) → Note f (alone (variable x)) → line_of f ≡ 1
line_is f (origin.alone (origin.one_side (origin.unsigned (origin.product (origin.read (origin.read_name (noted_constant e)
    origin.no_more)) origin.no_factors) origin.no_terms))) = refl
line_is f (origin.alone (origin.one_side (origin.unsigned (origin.product (origin.read (origin.read_name (noted_variable e)
    origin.no_more)) origin.no_factors) origin.no_terms))) = refl
line_is f (origin.alone (origin.one_side (origin.unsigned (origin.product (origin.read (origin.read_name (noted_start e) origin.no_more))
    origin.no_factors) origin.no_terms))) = refl
line_is f (origin.alone (origin.one_side (origin.unsigned (origin.product (origin.read (origin.read_name (noted_symbol e) origin.no_more))
    origin.no_factors) origin.no_terms))) = refl

other_name_line : No (Note (Named 2 x) (alone (variable x)))
other_name_line h = false≢true (ap (λ n. nat_eq n 1) (line_is (Named 2 x) h))

pub implications_are_kept : ImplicationsAreKept
implications_are_kept = (
  origin.implication (origin.one_side (origin.unsigned x_noted origin.no_terms)) (note_alone y_noted) refl,
  swapped,
  no_conclusion_lost,
  other_name_line,
)

-- ---- functions that are known from the start

x_with_car : origin.FromTerm (formula_operators with_car) (Noted with_car) (Noted with_car) (NotedWith with_car) (Named 1 x) (variable x)
x_with_car = origin.product (origin.read (origin.read_name (noted_variable refl) origin.no_more)) origin.no_factors

abbrev is_car : Formula → Bool
is_car (Known known.Car fs) = true
is_car f = false

abbrev is_put : Function → Bool
is_put Put = true
is_put b = false

car_operator : (b : Function) (o : BuiltIn) (fs : Formulas) → Some Car ≡ Some b → operator_of b ≡ Some o → is_car (Known o fs) ≡ true
car_operator b o fs e f = ap (λ q. is_car (Known q fs)) (some_is (sym f ∙ ap operator_of (sym (some_is e))))

car_is : (f : Formula) → FormulaFrom with_car f car_tree → is_car f ≡ true
car_is f (origin.alone (origin.one_side (origin.unsigned (origin.product (origin.applied gs (with_symbol none is given) origin.no_more)
    origin.no_factors) origin.no_terms))) = absurd (nothing_there (sym none))
car_is f (origin.alone (origin.one_side (origin.unsigned (origin.product (origin.applied gs
    (with_built_in {b = b} {o = o} {fs = fs} is op given) origin.no_more) origin.no_factors) origin.no_terms))) = car_operator b o fs is op
car_is f (origin.alone (origin.one_side (origin.unsigned (origin.product (origin.applied gs (with_put is) origin.no_more)
    origin.no_factors) origin.no_terms))) = absurd (false≢true (ap is_put (some_is is)))

other_function : No (FormulaFrom with_car (applied known.Cdr (Named 1 x)) car_tree)
other_function h = false≢true (car_is (applied known.Cdr (Named 1 x)) h)

lost_function : No (FormulaFrom with_car (Named 1 x) car_tree)
lost_function h = false≢true (car_is (Named 1 x) h)

pub functions_are_kept : FunctionsAreKept
functions_are_kept = (
  note_alone (origin.product (origin.applied (origin.one_argument (origin.value (note_alone x_with_car)) origin.no_arguments)
      (with_built_in refl refl refl) origin.no_more) origin.no_factors),
  other_function,
  lost_function,
)
