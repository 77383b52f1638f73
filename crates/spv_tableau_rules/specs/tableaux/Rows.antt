-- Rows: each names a sum of parts, and has a column of its own that stands for this sum.
use Rattle.std.specs.Prelude.{◌≡◌, ℕ, ◌+◌, ◌<◌}
use Rattle.spv_frac.specs.rational.Rational.{Rational, times}
use Rattle.spv_tableau_rules.specs.tableaux.Numbers.{sum_to}

-- the columns are first the parts, from 0, and then one for each row
pub record Rows : Type 0 where
  pub parts : ℕ
  pub count : ℕ
  -- what a row multiplies a part by
  pub coefficient : ℕ → ℕ → Rational

abbrev pub columns : Rows → ℕ
columns rows = rows.parts + rows.count

-- the column of a row
abbrev pub column_of : Rows → ℕ → ℕ
column_of rows i = rows.parts + i

-- a value for each column
abbrev pub Point : Type 0
Point = ℕ → Rational

-- what a row sums to at a point
abbrev pub row_sum : Rows → ℕ → Point → Rational
row_sum rows i v = sum_to rows.parts (λ c. times (rows.coefficient i c) (v c))

-- each row's column has the value that the row sums to
abbrev pub IsSolution : Rows → Point → Type 0
IsSolution rows v = (i : ℕ) → i < rows.count → v (column_of rows i) ≡ row_sum rows i v
