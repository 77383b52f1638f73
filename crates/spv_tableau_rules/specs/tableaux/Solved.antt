-- Placed bases, solved forms, and the point of a placed basis.
use Rattle.std.specs.Prelude.{◌≡◌, ℕ, ◌-◌, ◌<◌, Bool, true, false, List, nat_eq, nat_lt, if◌then◌else◌}
use Rattle.std.specs.List.{list_any}
use Rattle.spv_frac.specs.rational.Rational.{Rational, plus, times, opposite}
use Rattle.spv_tableau_rules.specs.declared.tableaux.side.Side.{Side}
use Rattle.spv_tableau_rules.specs.tableaux.Numbers.{nothing, minus_one, divided, sum_to, count_to}
use Rattle.spv_tableau_rules.specs.tableaux.Rows.{Rows, columns, Point, IsSolution}
use Rattle.spv_tableau_rules.specs.tableaux.Bounds.{Limits, or_nothing}

-- ---- placed bases

-- where a column is: in the basis, or else at the value that it held when the check began, or at its bound on a side
pub data Place : Type 0 where
  Basic : Place
  Held : Place
  At : Side → Place

-- a basis with the place of each other column
abbrev pub Places : Type 0
Places = ℕ → Place

abbrev pub is_basic : Place → Bool
is_basic Basic = true
is_basic Held = false
is_basic (At side) = false

-- the basis of these columns, each other one at the value that it holds
abbrev pub basis_of : List ℕ → Places
basis_of basis c = if list_any (nat_eq c) basis then Basic else Held

-- as many columns are in the basis as there are rows
abbrev pub IsBasis : Rows → Places → Type 0
IsBasis rows places = count_to (columns rows) (λ c. is_basic (places c)) ≡ rows.count

-- ---- solved forms

-- For each column of a basis a sum that is 0: every column times its entry. Its own entry is -1, so that it is the sum of the
-- others.
abbrev pub Entries : Type 0
Entries = ℕ → ℕ → Rational

abbrev pub equation_sum : Rows → Entries → ℕ → Point → Rational
equation_sum rows t b v = sum_to (columns rows) (λ c. times (t b c) (v c))

-- each sum is 0
abbrev pub MeetsEntries : Rows → Places → Entries → Point → Type 0
MeetsEntries rows places t v = (b : ℕ) → b < columns rows → is_basic (places b) ≡ true → equation_sum rows t b v ≡ nothing

-- the basis is one, each of its columns is a sum of columns outside it, and the sums have the solutions of the rows
pub record IsSolved (rows : Rows) (places : Places) (t : Entries) : Type 0 where
  pub basis : IsBasis rows places
  pub own : (b : ℕ) → b < columns rows → is_basic (places b) ≡ true → t b b ≡ minus_one
  pub others : (b c : ℕ) → b < columns rows → is_basic (places b) ≡ true → c < columns rows → is_basic (places c) ≡ true → nat_eq b c ≡ false → t b c ≡ nothing
  pub meets : (v : Point) → IsSolution rows v → MeetsEntries rows places t v
  pub solves : (v : Point) → MeetsEntries rows places t v → IsSolution rows v

-- ---- the point of a placed basis

-- the value of a column outside the basis
abbrev pub resting : Limits → Point → ℕ → Place → Rational
resting limits held c Basic = nothing
resting limits held c Held = held c
resting limits held c (At side) = or_nothing (limits c side)

abbrev pub at_rest : Limits → Point → Places → Point
at_rest limits held places c = resting limits held c (places c)

-- columns outside the basis rest, and each in it has the value of its sum
abbrev pub point : Rows → Limits → Point → Places → Entries → Point
point rows limits held places t c = if is_basic (places c) then equation_sum rows t c (at_rest limits held places) else at_rest limits held places c

-- ---- one column for another

-- the basis with an entering column in place of a leaving one, which goes to its bound on a side
abbrev pub exchanged : Places → ℕ → Side → ℕ → Places
exchanged places leaving side entering c = if nat_eq c entering then Basic else if nat_eq c leaving then At side else places c

-- the leaving column's sum, solved for the entering one
abbrev pub solved_for : Entries → ℕ → ℕ → ℕ → Rational
solved_for t leaving entering c = opposite (divided (t leaving c) (t leaving entering))

-- the entering column put into the sums of the others
abbrev pub pivot : Entries → ℕ → ℕ → Entries
pivot t leaving entering b c =
    if nat_eq b entering then solved_for t leaving entering c else plus (t b c) (times (solved_for t leaving entering c) (t b entering))

-- the rows themselves are solved for their own columns
abbrev pub row_entries : Rows → Entries
row_entries rows b c = if nat_eq b c then minus_one else if nat_lt c rows.parts then rows.coefficient (b - rows.parts) c else nothing

abbrev pub row_places : Rows → Places
row_places rows c = if nat_lt c rows.parts then Held else Basic
