-- Division, and fields of records.
use Rattle.std.proofs.Common.{◌≡◌, ◌≢◌, ◌%◌, ℕ, suc, Bool, true, false, cond, List, ℤ, pos, negsuc, neg_ℤ, refl, sym, ap, ◌∙◌, Some}
use Rattle.std.specs.Int.RustNames.{int_rem, unsigned_abs}
use Rattle.std.specs.Ordering.{int_eq}
use Rattle.spv_logic.specs.declared.names.names.Symbol.{Symbol}
use Rattle.spv_logic.specs.declared.types.Sort.{Sort}
use Rattle.spv_logic.specs.declared.types.Shape.{Shape}
use Rattle.spv_logic.specs.Values.{Value, Rows, Number, Truth, Pointer, ArrayOf, RecordOf, ClassOf, AtomOf, PairOf, no_rows, row, row_at, rows_in, set_row}
use Rattle.spv_logic.specs.Shapes.{fields_of, field_sort_of}
use Rattle.spv_logic.specs.Fits.{fits}
use Rattle.spv_logic.proofs.Equality.{int_eq-true}
use Rattle.spv_logic.proofs.Changes.{pos_differs}
use Rattle.spv_program.proofs.SortFacts.{nothing_there}
use Rattle.spv_meaning.specs.Places.{FieldStep, row_found, step_part}
use Rattle.spv_rule_soundness.proofs.evaluation.Steps.{field_step}

pub of_positive : (m : ℕ) (b : ℤ) → int_rem (pos m) b ≡ pos (m % unsigned_abs b)
of_positive m b = refl

pub of_negative : (m : ℕ) (b : ℤ) → int_rem (negsuc m) b ≡ neg_ℤ (pos (suc m % unsigned_abs b))
of_negative m b = refl

-- ---- rows

pub set_same : (rows : Rows) (key : ℤ) (w d u : Value) → row_found rows key ≡ Some u → row_at (set_row rows key w) key d ≡ w
set_same no_rows key w d u there = absurd (nothing_there there)
set_same (row i v rows) key w d u there = by_key (int_eq key i) refl there (set_same rows key w d u)
  where
    by_key : (b : Bool) → int_eq key i ≡ b → cond b (Some v) (row_found rows key) ≡ Some u → (row_found rows key ≡ Some u → row_at (set_row rows key w) key d ≡ w) → row_at (cond b (row i w rows) (row i v (set_row rows key w))) key d ≡ w
    by_key true e there later = ap (λ b. cond b w (row_at rows key d)) e
    by_key false e there later = ap (λ b. cond b v (row_at (set_row rows key w) key d)) e ∙ later there

pub set_other : (rows : Rows) (key other : ℤ) (w d : Value) → int_eq other key ≡ false → row_at (set_row rows key w) other d ≡ row_at rows other d
set_other no_rows key other w d differ = refl
set_other (row i v rows) key other w d differ = by_key (int_eq key i) refl (set_other rows key other w d differ)
  where
    by_key : (b : Bool) → int_eq key i ≡ b → row_at (set_row rows key w) other d ≡ row_at rows other d → row_at (cond b (row i w rows) (row i v (set_row rows key w))) other d ≡ cond (int_eq other i) v (row_at rows other d)
    by_key true e later =
        let apart : int_eq other i ≡ false = ap (int_eq other) (sym (int_eq-true key i e)) ∙ differ in
        ap (λ b. cond b w (row_at rows other d)) apart ∙ sym (ap (λ b. cond b v (row_at rows other d)) apart)
    by_key false e later = ap (λ r. cond (int_eq other i) v r) later

-- the same of what is found
pub found_same : (rows : Rows) (key : ℤ) (w u : Value) → row_found rows key ≡ Some u → row_found (set_row rows key w) key ≡ Some w
found_same no_rows key w u there = absurd (nothing_there there)
found_same (row i v rows) key w u there = by_key (int_eq key i) refl there (found_same rows key w u)
  where
    by_key : (b : Bool) → int_eq key i ≡ b → cond b (Some v) (row_found rows key) ≡ Some u → (row_found rows key ≡ Some u → row_found (set_row rows key w) key ≡ Some w) → row_found (cond b (row i w rows) (row i v (set_row rows key w))) key ≡ Some w
    by_key true e there later = ap (λ b. cond b (Some w) (row_found rows key)) e
    by_key false e there later = ap (λ b. cond b (Some v) (row_found (set_row rows key w) key)) e ∙ later there

pub found_other : (rows : Rows) (key other : ℤ) (w : Value) → int_eq other key ≡ false → row_found (set_row rows key w) other ≡ row_found rows other
found_other no_rows key other w differ = refl
found_other (row i v rows) key other w differ = by_key (int_eq key i) refl (found_other rows key other w differ)
  where
    by_key : (b : Bool) → int_eq key i ≡ b → row_found (set_row rows key w) other ≡ row_found rows other → row_found (cond b (row i w rows) (row i v (set_row rows key w))) other ≡ cond (int_eq other i) (Some v) (row_found rows other)
    by_key true e later =
        let apart : int_eq other i ≡ false = ap (int_eq other) (sym (int_eq-true key i e)) ∙ differ in
        ap (λ b. cond b (Some w) (row_found rows other)) apart ∙ sym (ap (λ b. cond b (Some v) (row_found rows other)) apart)
    by_key false e later = ap (λ r. cond (int_eq other i) (Some v) r) later

-- ---- records

-- a value with a field is a record
pub record_is : (shapes : List Shape) (r : Value) (t s : Sort) (f : Symbol) → field_sort_of (fields_of shapes t) f.0 ≡ Some s → fits shapes r t ≡ true → r ≡ RecordOf (rows_in r)
record_is shapes (RecordOf rows) t s f told fit = refl
record_is shapes (Number z) t s f told fit = absurd (nothing_there (field_step shapes (Number z) t s f told fit))
record_is shapes (Truth b) t s f told fit = absurd (nothing_there (field_step shapes (Truth b) t s f told fit))
record_is shapes (Pointer q) t s f told fit = absurd (nothing_there (field_step shapes (Pointer q) t s f told fit))
record_is shapes (ArrayOf d rows) t s f told fit = absurd (nothing_there (field_step shapes (ArrayOf d rows) t s f told fit))
record_is shapes (ClassOf cells d rows) t s f told fit = absurd (nothing_there (field_step shapes (ClassOf cells d rows) t s f told fit))
record_is shapes (AtomOf z) t s f told fit = absurd (nothing_there (field_step shapes (AtomOf z) t s f told fit))
record_is shapes (PairOf a b) t s f told fit = absurd (nothing_there (field_step shapes (PairOf a b) t s f told fit))

pub field_there : (shapes : List Shape) (r : Value) (t s : Sort) (f : Symbol) → field_sort_of (fields_of shapes t) f.0 ≡ Some s → fits shapes r t ≡ true → row_found (rows_in r) (pos f.0) ≡ Some (row_at (rows_in r) (pos f.0) (Number (pos 0)))
field_there shapes r t s f told fit = sym (ap (λ k. step_part k (FieldStep f)) (record_is shapes r t s f told fit)) ∙ field_step shapes r t s f told fit

pub keys_differ : (f g : ℕ) → g ≢ f → int_eq (pos g) (pos f) ≡ false
keys_differ f g differ = by_case (int_eq (pos g) (pos f)) refl
  where
    by_case : (b : Bool) → int_eq (pos g) (pos f) ≡ b → b ≡ false
    by_case true e = absurd (pos_differs g f differ (int_eq-true (pos g) (pos f) e))
    by_case false e = refl
