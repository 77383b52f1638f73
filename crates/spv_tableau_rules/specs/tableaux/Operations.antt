-- The operations of a check, each with its two operands.
use Rattle.std.specs.Prelude.{◌≡◌, ℕ, ◌<◌, Bool, true, false, Some, nat_eq}
use Rattle.spv_frac.specs.rational.Rational.{Rational, times}
use Rattle.spv_frac.specs.declared.frac.Op.{Op}
use Rattle.spv_frac.specs.declared.frac.Op.TheVariants.{Add, Sub, Mul, Div, Cmp}
use Rattle.spv_frac.specs.Range.{op_fits}
use Rattle.spv_tableau_rules.specs.declared.tableaux.side.Side.{Side}
use Rattle.spv_tableau_rules.specs.tableaux.Numbers.{one, minus, divided}
use Rattle.spv_tableau_rules.specs.tableaux.Rows.{Rows, columns, Point}
use Rattle.spv_tableau_rules.specs.tableaux.Bounds.{Limits, breaks}
use Rattle.spv_tableau_rules.specs.tableaux.Solved.{Held, Places, is_basic, Entries, solved_for}
use Rattle.spv_tableau_rules.specs.tableaux.Steps.{IsStep}

-- an operation and its operands
pub record Operation : Type 0 where
  pub op : Op
  pub left : Rational
  pub right : Rational

abbrev pub operation : Op → Rational → Rational → Operation
operation op left right = record { op = op; left = left; right = right }

-- its operands in lowest terms fit it
abbrev pub fits : Operation → Bool
fits o = op_fits o.op o.left.fraction o.right.fraction

-- a value is compared with a bound of its column
pub data Compares (limits : Limits) (v : Point) : Operation → Type 0 where
  comparing : (c : ℕ) (side : Side) (bound : Rational) → limits c side ≡ Some bound → Compares limits v (operation Cmp (v c) bound)

-- a column outside the basis moves to a value, and the columns in the basis with it
pub data Moves (rows : Rows) (places : Places) (t : Entries) (v : Point) (c : ℕ) (value : Rational) : Operation → Type 0 where
  distance : Moves rows places t v c value (operation Sub value (v c))
  scaling : (b : ℕ) → b < columns rows → is_basic (places b) ≡ true → Moves rows places t v c value (operation Mul (minus value (v c)) (t b c))
  adding : (b : ℕ) → b < columns rows → is_basic (places b) ≡ true
      → Moves rows places t v c value (operation Add (v b) (times (minus value (v c)) (t b c)))

-- how far the entering column moves, for the leaving one to reach a value
abbrev pub shift : Point → Entries → ℕ → ℕ → Rational → Rational
shift v t leaving entering value = divided (minus value (v leaving)) (t leaving entering)

-- the leaving column moves to a value by the entering one
pub data Shifts (rows : Rows) (places : Places) (t : Entries) (v : Point) (leaving entering : ℕ) (value : Rational) : Operation → Type 0 where
  distance : Shifts rows places t v leaving entering value (operation Sub value (v leaving))
  dividing : Shifts rows places t v leaving entering value (operation Div (minus value (v leaving)) (t leaving entering))
  entering_moves : Shifts rows places t v leaving entering value (operation Add (v entering) (shift v t leaving entering value))
  scaling : (b : ℕ) → b < columns rows → is_basic (places b) ≡ true → nat_eq b leaving ≡ false
      → Shifts rows places t v leaving entering value (operation Mul (shift v t leaving entering value) (t b entering))
  adding : (b : ℕ) → b < columns rows → is_basic (places b) ≡ true → nat_eq b leaving ≡ false
      → Shifts rows places t v leaving entering value (operation Add (v b) (times (shift v t leaving entering value) (t b entering)))

-- the leaving column's sum is solved for the entering column, which is put into the other sums
pub data Pivots (rows : Rows) (places : Places) (t : Entries) (leaving entering : ℕ) : Operation → Type 0 where
  inverting : Pivots rows places t leaving entering (operation Div one (t leaving entering))
  dividing : (c : ℕ) → c < columns rows → is_basic (places c) ≡ false → nat_eq c entering ≡ false
      → Pivots rows places t leaving entering (operation Div (t leaving c) (t leaving entering))
  scaling : (b c : ℕ) → b < columns rows → is_basic (places b) ≡ true → nat_eq b leaving ≡ false → c < columns rows → nat_eq c entering ≡ false
      → Pivots rows places t leaving entering (operation Mul (solved_for t leaving entering c) (t b entering))
  adding : (b c : ℕ) → b < columns rows → is_basic (places b) ≡ true → nat_eq b leaving ≡ false → c < columns rows → is_basic (places c) ≡ false
      → nat_eq c entering ≡ false → Pivots rows places t leaving entering (operation Add (t b c) (times (solved_for t leaving entering c) (t b entering)))

-- ---- in a check

-- before the first step: a value is compared, or a column that still holds its value moves to the bound that it breaks
pub data IsFirst (rows : Rows) (limits : Limits) (places : Places) (t : Entries) (v : Point) : Operation → Type 0 where
  compares : (o : Operation) → Compares limits v o → IsFirst rows limits places t v o
  moves : (c : ℕ) (side : Side) (bound : Rational) (o : Operation) → c < columns rows → places c ≡ Held → limits c side ≡ Some bound → breaks side bound (v c) ≡ true
      → Moves rows places t v c bound o → IsFirst rows limits places t v o

-- in a step: a value is compared, or the columns of the next step are exchanged
pub data IsNext (rows : Rows) (limits : Limits) (places : Places) (t : Entries) (v : Point) : Operation → Type 0 where
  compares : (o : Operation) → Compares limits v o → IsNext rows limits places t v o
  shifts : (leaving entering : ℕ) (side : Side) (bound : Rational) (o : Operation) → IsStep rows limits places v t leaving side entering → limits leaving side ≡ Some bound
      → Shifts rows places t v leaving entering bound o → IsNext rows limits places t v o
  pivots : (leaving entering : ℕ) (side : Side) (o : Operation) → IsStep rows limits places v t leaving side entering → Pivots rows places t leaving entering o
      → IsNext rows limits places t v o
