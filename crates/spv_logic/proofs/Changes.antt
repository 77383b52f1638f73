-- What is under a key of rows that were changed at one.
use Rattle.std.proofs.Common.{◌≡◌, ◌≢◌, ℕ, Bool, true, false, cond, List, ℤ, pos, refl, sym, ap, ◌∙◌, Some, arith}
use Rattle.std.proofs.lemmas.Int.{ints}
use Rattle.std.specs.Int.RustNames.{int_lt}
use Rattle.std.specs.Ordering.{int_eq}
use Rattle.spv_logic.proofs.list.Tests.{left_true, right_true}
use Rattle.spv_logic.specs.declared.types.Sort.{Sort}
use Rattle.spv_logic.specs.declared.types.Shape.{Shape}
use Rattle.spv_logic.specs.Values.{Value, Rows, no_rows, row, value_eq, row_at, without_row, with_row, put_row, rows_in, default_in}
use Rattle.spv_logic.specs.Shapes.{element_sort, content_sort}
use Rattle.spv_logic.specs.Fits.{ascend, ascend_after, fits}
use Rattle.spv_logic.proofs.Equality.{int_eq-true, int_eq-refl, value_eq-true}
use Rattle.spv_logic.proofs.Sorting.{after_weaker, ascend_from_after, array_parts, class_parts}

below_differs : (a b : ℤ) → int_lt a b ≡ true → int_eq a b ≡ false
below_differs a b h = grind (arith, ints)

pub differs : (a b : ℤ) → a ≢ b → int_eq a b ≡ false
differs a b h = by_case (int_eq a b) refl
  where
    by_case : (c : Bool) → int_eq a b ≡ c → c ≡ false
    by_case true e = absurd (h (int_eq-true a b e))
    by_case false e = refl

-- ---- under the key

absent_after : (key : ℤ) (rows : Rows) (d : Value) → ascend_after key rows ≡ true → row_at rows key d ≡ d
absent_after key no_rows d h = refl
absent_after key (row i v rows) d h =
    let below = left_true (int_lt key i) (ascend_after i rows) h in
    ap (λ b. cond b v (row_at rows key d)) (below_differs key i below) ∙ absent_after key rows d (after_weaker key i rows below (right_true (int_lt key i) _ h))

without_same : (rows : Rows) (key : ℤ) (d : Value) → ascend rows ≡ true → row_at (without_row rows key) key d ≡ d
without_same no_rows key d h = refl
without_same (row i v rows) key d h =
    by_case (int_eq key i) refl (without_same rows key d (ascend_from_after i rows h))
  where
    by_case : (b : Bool) → int_eq key i ≡ b → row_at (without_row rows key) key d ≡ d → row_at (cond b rows (row i v (without_row rows key))) key d ≡ d
    by_case true e later = absent_after key rows d (ap (λ k. ascend_after k rows) (int_eq-true key i e) ∙ h)
    by_case false e later = ap (λ b. cond b v (row_at (without_row rows key) key d)) e ∙ later

with_same : (rows : Rows) (key : ℤ) (w d : Value) → row_at (with_row rows key w) key d ≡ w
with_same no_rows key w d = ap (λ b. cond b w d) (int_eq-refl key)
with_same (row i v rows) key w d = by_order (int_lt key i) (int_eq key i) refl (with_same rows key w d)
  where
    by_order : (below is : Bool) → int_eq key i ≡ is → row_at (with_row rows key w) key d ≡ w → row_at (cond below (row key w (row i v rows)) (cond is (row key w rows) (row i v (with_row rows key w)))) key d ≡ w
    by_order true is e later = ap (λ b. cond b w (row_at (row i v rows) key d)) (int_eq-refl key)
    by_order false true e later = ap (λ b. cond b w (row_at rows key d)) (int_eq-refl key)
    by_order false false e later = ap (λ b. cond b v (row_at (with_row rows key w) key d)) e ∙ later

put_same : (rows : Rows) (key : ℤ) (w d : Value) → ascend rows ≡ true → row_at (put_row rows key w d) key d ≡ w
put_same rows key w d h = by_case (value_eq w d) refl
  where
    by_case : (b : Bool) → value_eq w d ≡ b → row_at (cond b (without_row rows key) (with_row rows key w)) key d ≡ w
    by_case true e = without_same rows key d h ∙ sym (value_eq-true w d e)
    by_case false e = with_same rows key w d

-- ---- under other keys

without_other : (rows : Rows) (key other : ℤ) (d : Value) → int_eq other key ≡ false → row_at (without_row rows key) other d ≡ row_at rows other d
without_other no_rows key other d differ = refl
without_other (row i v rows) key other d differ =
    by_case (int_eq key i) refl (without_other rows key other d differ)
  where
    by_case : (b : Bool) → int_eq key i ≡ b → row_at (without_row rows key) other d ≡ row_at rows other d → row_at (cond b rows (row i v (without_row rows key))) other d ≡ row_at (row i v rows) other d
    by_case true e later =
        sym (ap (λ b. cond b v (row_at rows other d)) (ap (int_eq other) (sym (int_eq-true key i e)) ∙ differ))
    by_case false e later = ap (λ r. cond (int_eq other i) v r) later

with_other : (rows : Rows) (key other : ℤ) (w d : Value) → int_eq other key ≡ false → row_at (with_row rows key w) other d ≡ row_at rows other d
with_other no_rows key other w d differ = ap (λ b. cond b w d) differ
with_other (row i v rows) key other w d differ =
    by_order (int_lt key i) (int_eq key i) refl (with_other rows key other w d differ)
  where
    by_order : (below is : Bool) → int_eq key i ≡ is → row_at (with_row rows key w) other d ≡ row_at rows other d → row_at (cond below (row key w (row i v rows)) (cond is (row key w rows) (row i v (with_row rows key w)))) other d ≡ row_at (row i v rows) other d
    by_order true is e later = ap (λ b. cond b w (row_at (row i v rows) other d)) differ
    by_order false true e later =
        ap (λ b. cond b w (row_at rows other d)) differ ∙ sym (ap (λ b. cond b v (row_at rows other d)) (ap (int_eq other) (sym (int_eq-true key i e)) ∙ differ))
    by_order false false e later = ap (λ r. cond (int_eq other i) v r) later

pub put_other : (rows : Rows) (key other : ℤ) (w d : Value) → int_eq other key ≡ false → row_at (put_row rows key w d) other d ≡ row_at rows other d
put_other rows key other w d differ = by_case (value_eq w d)
  where
    by_case : (b : Bool) → row_at (cond b (without_row rows key) (with_row rows key w)) other d ≡ row_at rows other d
    by_case true = without_other rows key other d differ
    by_case false = with_other rows key other w d differ

-- ---- arrays and classes

pub array_same : (shapes : List Shape) (s e : Sort) (a w : Value) (key : ℤ) → element_sort shapes s ≡ Some e → fits shapes a s ≡ true → row_at (put_row (rows_in a) key w (default_in a)) key (default_in a) ≡ w
array_same shapes s e a w key g h =
    let parts = array_parts shapes a s e g h in
    put_same (rows_in a) key w (default_in a) (ap (λ b. ascend (rows_in b)) parts.is ∙ parts.tidy.in_order)

pub class_same : (shapes : List Shape) (s e : Sort) (c w : Value) (key : ℤ) → content_sort shapes s ≡ Some e → fits shapes c s ≡ true → row_at (put_row (rows_in c) key w (default_in c)) key (default_in c) ≡ w
class_same shapes s e c w key g h =
    let parts = class_parts shapes c s e g h in
    put_same (rows_in c) key w (default_in c) (ap (λ b. ascend (rows_in b)) parts.is ∙ parts.tidy.in_order)

pub pos_differs : (p q : ℕ) → p ≢ q → pos p ≢ pos q
pos_differs p q h e = h cc
