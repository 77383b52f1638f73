-- A small system worked through: x + y is at least 2, and x - y at most -1. And one that has no solution.
use Rattle.std.specs.Prelude.{ℕ, zero, suc, Bool, List, [], ◌∷◌, ◌++◌, ℤ, pos, negsuc, nat_eq, if◌then◌else◌}
use Rattle.spv_whole.specs.Fraction.{Fraction}
use Rattle.spv_logic.specs.declared.conditions.TermId.{TermId}
use Rattle.spv_frac.specs.rational.Rational.{Rational, whole}
use Rattle.spv_atoms.specs.Linear.{IdForm}
use Rattle.spv_tableau_rules.specs.declared.tableaux.side.Side.{Side}
use Rattle.spv_tableau_rules.specs.declared.tableaux.side.Side.TheVariants.{Lower, Upper}
use Rattle.spv_tableau_rules.specs.tableaux.Numbers.{nothing, one, minus_one}
use Rattle.spv_tableau_rules.specs.tableaux.Rows.{Rows, Point}
use Rattle.spv_tableau_rules.specs.tableaux.Bounds.{Bound, Limits, limits, is_out}
use Rattle.spv_tableau_rules.specs.tableaux.Solved.{Place, Basic, Held, Places, Entries, point, exchanged, pivot, row_places, row_entries}
use Rattle.spv_tableau_rules.specs.tableaux.Steps.{is_least, may_enter, inside}
use Rattle.spv_tableau_rules.specs.tableaux.Contradictions.{Multiple, is_multiple, coefficient_sum, bound_sum}
use Rattle.spv_tableau_rules.specs.tableaux.Forms.{rows_of}

abbrev two : Rational
two = whole (pos 2)

-- num / den
abbrev over : ℤ → ℕ → Fraction
over num den = record { num = num; den = den }

-- the first n values
abbrev pub values : ℕ → (ℕ → Rational) → List Fraction
values zero f = []
values (suc n) f = values n f ++ (f n).fraction ∷ []

-- ---- the system: the parts x and y are the columns 0 and 1, the rows x + y and x - y the columns 2 and 3

abbrev coefficient : ℕ → ℕ → Rational
coefficient zero c = one
coefficient (suc i) zero = one
coefficient (suc i) (suc c) = minus_one

abbrev pub rows : Rows
rows = record { parts = 2; count = 2; coefficient = coefficient }

abbrev at_least : ℕ → Rational → Bound
at_least row value = record { row = row; side = Lower; value = value }

abbrev at_most : ℕ → Rational → Bound
at_most row value = record { row = row; side = Upper; value = value }

abbrev pub bounded : Limits
bounded = limits rows (at_least 0 two ∷ at_most 1 minus_one ∷ [])

abbrev pub zeros : Point
zeros c = nothing

-- ---- as it begins: the rows are in the basis

abbrev pub start : Places
start = row_places rows

abbrev pub first : Entries
first = row_entries rows

abbrev pub first_point : Point
first_point = point rows bounded zeros start first

abbrev pub first_entries : List (List Fraction)
first_entries = values 4 (first 2) ∷ values 4 (first 3) ∷ []

-- ---- x + y, which is 0, leaves for 2, and x enters: x = (x + y) - y, and x - y = (x + y) - 2 * y

abbrev pub places_after_one : Places
places_after_one = exchanged start 2 Lower 0

abbrev pub second : Entries
second = pivot first 2 0

abbrev pub second_point : Point
second_point = point rows bounded zeros places_after_one second

abbrev pub second_entries : List (List Fraction)
second_entries = values 4 (second 0) ∷ values 4 (second 3) ∷ []

-- ---- x - y, which is 2, leaves for -1, and y enters: x and y are half the sum and half the difference of the rows

abbrev pub places_after_two : Places
places_after_two = exchanged places_after_one 3 Upper 1

abbrev pub third : Entries
third = pivot second 3 1

abbrev pub third_point : Point
third_point = point rows bounded zeros places_after_two third

abbrev pub third_entries : List (List Fraction)
third_entries = values 4 (third 0) ∷ values 4 (third 1) ∷ []

abbrev pub are_out : Point → List Bool
are_out v = is_out bounded v 0 ∷ is_out bounded v 1 ∷ is_out bounded v 2 ∷ is_out bounded v 3 ∷ []

-- ---- what may enter

abbrev may_enter_all : Places → Point → Entries → ℕ → Side → List Bool
may_enter_all places v t leaving side =
    may_enter bounded places v t leaving side 0 ∷ may_enter bounded places v t leaving side 1 ∷ may_enter bounded places v t leaving side 2 ∷ may_enter bounded places v t leaving side 3 ∷ []

abbrev pub may_enter_first : List Bool
may_enter_first = may_enter_all start first_point first 2 Lower

-- x + y stands at its lower bound, and x - y would have to fall with it
abbrev pub may_enter_second : List Bool
may_enter_second = may_enter_all places_after_one second_point second 3 Upper

abbrev pub greatest_enters : Bool
greatest_enters = is_least (may_enter bounded start first_point first 2 Lower) 1

-- ---- a check that begins with 1 at x + y and with 5 at x - y, which are both outside the basis; what x and y held does not count

abbrev pub held : Point
held c = if nat_eq c 2 then one else if nat_eq c 3 then whole (pos 5) else whole (pos 7)

abbrev outside : Places
outside c = if nat_eq c 2 then Held else if nat_eq c 3 then Held else Basic

abbrev pub moved : List Place
moved = inside bounded held outside 0 ∷ inside bounded held outside 2 ∷ inside bounded held outside 3 ∷ []

abbrev pub at_bounds : List Fraction
at_bounds = values 4 (point rows bounded held (inside bounded held outside) third)

abbrev pub as_held : List Fraction
as_held = values 4 (point rows bounded held outside third)

-- ---- no solution: x + y is at least 2, x at most 0 and y at most 1

abbrev coefficient_of_three : ℕ → ℕ → Rational
coefficient_of_three zero c = one
coefficient_of_three (suc zero) zero = one
coefficient_of_three (suc zero) (suc c) = nothing
coefficient_of_three (suc (suc i)) zero = nothing
coefficient_of_three (suc (suc i)) (suc c) = one

abbrev pub three_rows : Rows
three_rows = record { parts = 2; count = 3; coefficient = coefficient_of_three }

abbrev pub three_bounds : List Bound
three_bounds = at_least 0 two ∷ at_most 1 nothing ∷ at_most 2 one ∷ []

-- y is no part of the row x
abbrev pub absent_part_enters : Bool
absent_part_enters =
    may_enter (limits three_rows three_bounds) (row_places three_rows) (point three_rows (limits three_rows three_bounds) zeros (row_places three_rows) (row_entries three_rows)) (row_entries three_rows) 3 Upper 1

abbrev times_bound : Rational → ℕ → Side → Multiple
times_bound factor row side = record { row = row; side = side; factor = factor }

abbrev pub multiples : List Multiple
multiples = times_bound one 0 Lower ∷ times_bound one 1 Upper ∷ times_bound one 2 Upper ∷ []

abbrev pub sums : List Fraction
sums = values 2 (coefficient_sum three_rows multiples) ++ (bound_sum three_bounds multiples).fraction ∷ []

abbrev pub may_multiply : List Bool
may_multiply =
    is_multiple three_rows three_bounds (times_bound one 0 Lower)
    ∷ is_multiple three_rows three_bounds (times_bound minus_one 0 Lower)
    ∷ is_multiple three_rows three_bounds (times_bound one 0 Upper)
    ∷ is_multiple three_rows three_bounds (times_bound one 3 Upper)
    ∷ []

-- ---- forms: 7 * b - a + 1 and c - b, with the ids 4 of a, 5 of b and 9 of c

abbrev id : ℕ → TermId
id n = record { 0 = n }

abbrev form : List (TermId × ℤ) → ℤ → IdForm
form parts constant = record { parts = parts; constant = constant }

abbrev part : ℕ → ℤ → TermId × ℤ
part n k = (id n, k)

abbrev pub rows_of_forms : Rows
rows_of_forms = rows_of (form (part 4 (negsuc 0) ∷ part 5 (pos 7) ∷ []) (pos 1) ∷ form (part 5 (negsuc 0) ∷ part 9 (pos 1) ∷ []) (pos 0) ∷ [])

abbrev pub coefficients : List (List Fraction)
coefficients = values 4 (rows_of_forms.coefficient 0) ∷ values 4 (rows_of_forms.coefficient 1) ∷ []

-- ---- what the values are

abbrev z : Fraction
z = over (pos 0) 1

abbrev w : ℕ → Fraction
w n = over (pos n) 1

abbrev m : ℕ → Fraction
m n = over (negsuc n) 1

abbrev half : Fraction
half = over (pos 1) 2

abbrev pub first_entries_are : List (List Fraction)
first_entries_are = (w 1 ∷ w 1 ∷ m 0 ∷ z ∷ []) ∷ (w 1 ∷ m 0 ∷ z ∷ m 0 ∷ []) ∷ []

abbrev pub second_entries_are : List (List Fraction)
second_entries_are = (m 0 ∷ m 0 ∷ w 1 ∷ z ∷ []) ∷ (z ∷ m 1 ∷ w 1 ∷ m 0 ∷ []) ∷ []

abbrev pub third_entries_are : List (List Fraction)
third_entries_are = (m 0 ∷ z ∷ half ∷ half ∷ []) ∷ (z ∷ m 0 ∷ half ∷ over (negsuc 0) 2 ∷ []) ∷ []

abbrev pub second_point_is : List Fraction
second_point_is = w 2 ∷ z ∷ w 2 ∷ w 2 ∷ []

abbrev pub third_point_is : List Fraction
third_point_is = half ∷ over (pos 3) 2 ∷ w 2 ∷ m 0 ∷ []

abbrev pub as_held_is : List Fraction
as_held_is = w 3 ∷ m 1 ∷ w 1 ∷ w 5 ∷ []

abbrev pub sums_are : List Fraction
sums_are = z ∷ z ∷ m 0 ∷ []

abbrev pub coefficients_are : List (List Fraction)
coefficients_are = (m 0 ∷ w 7 ∷ z ∷ z ∷ []) ∷ (z ∷ m 0 ∷ w 1 ∷ z ∷ []) ∷ []
