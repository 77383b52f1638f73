-- How a point goes on along a solved form, and the multiples that a sum is read as.
use Rattle.std.specs.Prelude.{ℕ, zero, suc, ◌+◌, List, [], ◌∷◌, ◌++◌, nat_eq, if◌then◌else◌}
use Rattle.spv_frac.specs.rational.Rational.{Rational, plus, times, opposite, is_zero, is_positive}
use Rattle.spv_tableau_rules.specs.declared.tableaux.side.Side.{Side}
use Rattle.spv_tableau_rules.specs.declared.tableaux.side.Side.TheVariants.{Lower, Upper}
use Rattle.spv_tableau_rules.specs.tableaux.Rows.{Rows, Point}
use Rattle.spv_tableau_rules.specs.tableaux.Bounds.{other_side}
use Rattle.spv_tableau_rules.specs.tableaux.Solved.{Place, Basic, Held, Places, is_basic, Entries}
use Rattle.spv_tableau_rules.specs.tableaux.Contradictions.{Multiple, signed}

-- a column outside the basis moves by a distance, and the columns in the basis with it
abbrev pub moved : Point → Places → Entries → ℕ → Rational → Point
moved v places t entering distance c =
    if nat_eq c entering then plus (v c) distance else if is_basic (places c) then plus (v c) (times distance (t c entering)) else v c

-- one column in another place
abbrev pub placed : Places → ℕ → Place → Places
placed places column place c = if nat_eq c column then place else places c

-- the basis, and each other column at the value that it holds
abbrev pub as_held : Places → Places
as_held places c = if is_basic (places c) then Basic else Held

-- the sum of a leaving column, with the sign by which it is at most 0 where the column is out of its bounds on this side
abbrev pub turned : Entries → ℕ → Side → ℕ → Rational
turned t leaving side c = signed (other_side side) (t leaving c)

-- a row times an entry: its upper bound, or its lower one where the entry is negative
abbrev pub multiple_of : ℕ → Rational → Multiple
multiple_of i entry =
    if is_positive entry then record { row = i; side = Upper; factor = entry } else record { row = i; side = Lower; factor = opposite entry }

abbrev pub multiples_at : ℕ → Rational → List Multiple
multiples_at i entry = if is_zero entry then [] else multiple_of i entry ∷ []

-- the rows below n, each times its entry
abbrev pub multiples_to : ℕ → (ℕ → Rational) → List Multiple
multiples_to zero entry = []
multiples_to (suc n) entry = multiples_to n entry ++ multiples_at n (entry n)

-- the multiples that a stuck column is read as
abbrev pub stuck_multiples : Rows → Entries → ℕ → Side → List Multiple
stuck_multiples rows t leaving side = multiples_to rows.count (λ i. turned t leaving side (rows.parts + i))
