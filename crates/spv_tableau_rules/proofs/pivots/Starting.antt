-- The rows are a solved form for their own columns.
use Rattle.std.proofs.Common.{◌≡◌, ℕ, ◌+◌, ◌-◌, ◌<◌, Bool, true, false, nat_eq, nat_lt, refl, sym, ap, ◌∙◌, arith}
use Rattle.std.proofs.lemmas.Bool.{false≢true}
use Rattle.std.proofs.lemmas.Bool.Decides.{nat_tests}
use mathlib.Core.Path.{ap₂}
use Rattle.spv_frac.specs.rational.Rational.{plus, times, opposite}
use Rattle.spv_frac.proofs.rational.Field.{plus_opposite, zero_times}
use Rattle.spv_tableau_rules.specs.tableaux.Numbers.{nothing, minus_one}
use Rattle.spv_tableau_rules.specs.tableaux.Rows.{Rows, columns, Point, IsSolution, row_sum}
use Rattle.spv_tableau_rules.specs.tableaux.Solved.{is_basic, equation_sum, MeetsEntries, IsBasis, row_places, row_entries}
use Rattle.spv_tableau_rules.specs.pivots.Laws.{RowsAreSolved}
use Rattle.spv_tableau_rules.proofs.pivots.Algebra.{minus_one_times, equal_of}
use Rattle.spv_tableau_rules.proofs.pivots.Sums.{sum_same, sum_only, sum_split, only, only_here, only_there, count_split, count_all, count_none, eq_self, eq_is}

-- a row's column, by its number
pub record IsRow (rows : Rows) (b : ℕ) : Type 0 where
  pub row : ℕ
  pub below : row < rows.count
  pub is : b ≡ rows.parts + row

place_part : (rows : Rows) (c : ℕ) → nat_lt c rows.parts ≡ true → is_basic (row_places rows c) ≡ false
place_part rows c e = rw e refl

place_row : (rows : Rows) (c : ℕ) → nat_lt c rows.parts ≡ false → is_basic (row_places rows c) ≡ true
place_row rows c e = rw e refl

below_is : (a b : ℕ) → a < b → nat_lt a b ≡ true
below_is a b h = grind (arith, nat_tests)

pub above_is : (a b : ℕ) → nat_lt (a + b) a ≡ false
above_is a b = grind (arith, nat_tests)

pub row_of : (rows : Rows) (b : ℕ) → b < columns rows → nat_lt b rows.parts ≡ false → IsRow rows b
row_of rows b inside e = record { row = b - rows.parts; below = under b rows.parts rows.count inside e; is = whole b rows.parts e }
  where
    under : (b p n : ℕ) → b < p + n → nat_lt b p ≡ false → b - p < n
    under b p n h e = grind (arith, nat_tests)

    whole : (b p : ℕ) → nat_lt b p ≡ false → b ≡ p + (b - p)
    whole b p e = grind (arith, nat_tests)

basic_row : (rows : Rows) (b : ℕ) → b < columns rows → is_basic (row_places rows b) ≡ true → IsRow rows b
basic_row rows b inside h = by_case (nat_lt b rows.parts) refl
  where
    by_case : (e : Bool) → nat_lt b rows.parts ≡ e → IsRow rows b
    by_case true e = absurd (false≢true (sym (place_part rows b e) ∙ h))
    by_case false e = row_of rows b inside e

-- ---- entries

entry_own : (rows : Rows) (b c : ℕ) → nat_eq b c ≡ true → row_entries rows b c ≡ minus_one
entry_own rows b c e = rw e refl

entry_part : (rows : Rows) (b c : ℕ) → nat_eq b c ≡ false → nat_lt c rows.parts ≡ true → row_entries rows b c ≡ rows.coefficient (b - rows.parts) c
entry_part rows b c e h = rw (e, h) refl

entry_other : (rows : Rows) (b c : ℕ) → nat_eq b c ≡ false → nat_lt c rows.parts ≡ false → row_entries rows b c ≡ nothing
entry_other rows b c e h = rw (e, h) refl

-- the sum of a row's column is what the row sums to, less its value
pub start_sum : (rows : Rows) (i : ℕ) → i < rows.count → (v : Point)
    → equation_sum rows (row_entries rows) (rows.parts + i) v ≡ plus (row_sum rows i v) (opposite (v (rows.parts + i)))
start_sum rows i inside v =
    sum_split rows.parts rows.count (λ c. times (row_entries rows (rows.parts + i) c) (v c))
    ∙ ap₂ plus (sum_same rows.parts _ (λ c. times (rows.coefficient i c) (v c)) at_part)
    (sum_same rows.count _ (only i (opposite (v (rows.parts + i)))) at_row ∙ sum_only rows.count i (opposite (v (rows.parts + i))) inside)
  where
    not_part : (p i c : ℕ) → c < p → nat_eq (p + i) c ≡ false
    not_part p i c h = grind arith

    back : (p i : ℕ) → p + i - p ≡ i
    back p i = omega arith

    at_part : (c : ℕ) → c < rows.parts → times (row_entries rows (rows.parts + i) c) (v c) ≡ times (rows.coefficient i c) (v c)
    at_part c below =
        ap (λ x. times x (v c)) (entry_part rows (rows.parts + i) c (not_part rows.parts i c below) (below_is c rows.parts below) ∙ ap (λ k. rows.coefficient k c) (back rows.parts i))

    at_row : (j : ℕ) → j < rows.count → times (row_entries rows (rows.parts + i) (rows.parts + j)) (v (rows.parts + j)) ≡ only i (opposite (v (rows.parts + i))) j
    at_row j below = by_case (nat_eq j i) refl
      where
        apart : (p i j : ℕ) → nat_eq j i ≡ false → nat_eq (p + i) (p + j) ≡ false
        apart p i j e = grind arith

        same : (p i j : ℕ) → j ≡ i → nat_eq (p + i) (p + j) ≡ true
        same p i j e = grind (arith, e)

        by_case : (e : Bool) → nat_eq j i ≡ e → times (row_entries rows (rows.parts + i) (rows.parts + j)) (v (rows.parts + j)) ≡ only i (opposite (v (rows.parts + i))) j
        by_case true e =
            ap (λ x. times x (v (rows.parts + j))) (entry_own rows (rows.parts + i) (rows.parts + j) (same rows.parts i j (eq_is j i e)))
            ∙ minus_one_times (v (rows.parts + j)) ∙ ap (λ k. opposite (v (rows.parts + k))) (eq_is j i e) ∙ sym (only_here i j (opposite (v (rows.parts + i))) e)
        by_case false e =
            ap (λ x. times x (v (rows.parts + j))) (entry_other rows (rows.parts + i) (rows.parts + j) (apart rows.parts i j e) (above_is rows.parts j))
            ∙ zero_times (v (rows.parts + j)) ∙ sym (only_there i j (opposite (v (rows.parts + i))) e)

start_basis : (rows : Rows) → IsBasis rows (row_places rows)
start_basis rows =
    count_split rows.parts rows.count (λ c. is_basic (row_places rows c))
    ∙ ap₂ (λ (a b : ℕ). a + b) (count_none rows.parts (λ c. is_basic (row_places rows c)) (λ c below. place_part rows c (below_is c rows.parts below)))
    (count_all rows.count (λ i. is_basic (row_places rows (rows.parts + i))) (λ i below. place_row rows (rows.parts + i) (above_is rows.parts i)))
    ∙ no_more rows.count
  where
    no_more : (n : ℕ) → 0 + n ≡ n
    no_more n = omega arith

pub rows_are_solved : RowsAreSolved
rows_are_solved rows = record {
  basis = start_basis rows;
  own = λ b inside basic. entry_own rows b b (eq_self b);
  others = others;
  meets = meets;
  solves = solves;
}
  where
    others : (b c : ℕ) → b < columns rows → is_basic (row_places rows b) ≡ true → c < columns rows → is_basic (row_places rows c) ≡ true → nat_eq b c ≡ false → row_entries rows b c ≡ nothing
    others b c inside basic c_in c_basic different =
        let r = basic_row rows c c_in c_basic in
        entry_other rows b c different (ap (λ x. nat_lt x rows.parts) r.is ∙ above_is rows.parts r.row)

    meets : (v : Point) → IsSolution rows v → MeetsEntries rows (row_places rows) (row_entries rows) v
    meets v solution b inside basic =
        let r = basic_row rows b inside basic in
        ap (λ x. equation_sum rows (row_entries rows) x v) r.is ∙ start_sum rows r.row r.below v
        ∙ ap (λ x. plus (row_sum rows r.row v) (opposite x)) (solution r.row r.below) ∙ plus_opposite (row_sum rows r.row v)

    solves : (v : Point) → MeetsEntries rows (row_places rows) (row_entries rows) v → IsSolution rows v
    solves v m i below =
        sym (equal_of (row_sum rows i v) (v (rows.parts + i)) (sym (start_sum rows i below v) ∙ m (rows.parts + i) (more rows.parts i rows.count below) (place_row rows (rows.parts + i) (above_is rows.parts i))))
      where
        more : (p i n : ℕ) → i < n → p + i < p + n
        more p i n h = omega arith
