-- Division, and fields of records.
use Rattle.std.specs.Prelude.{◌≡◌, ◌≢◌, ◌<◌, ◌%◌, ℕ, suc, List, [], ◌∷◌, Some, ℤ, pos, negsuc, neg_ℤ, IsTrue}
use Rattle.std.specs.Int.RustNames.{unsigned_abs}
use Rattle.spv_logic.specs.declared.names.names.Symbol.{Symbol}
use Rattle.spv_logic.specs.declared.types.Sort.{Sort}
use Rattle.spv_logic.specs.declared.types.Shape.{Shape}
use Rattle.spv_logic.specs.declared.operators.Head.TheVariants as head
use Rattle.spv_logic.specs.Values.{Value, Number, number_of}
use Rattle.spv_logic.specs.Terms.{worth}
use Rattle.spv_logic.specs.Shapes.{fields_of, field_sort_of}
use Rattle.spv_logic.specs.Fits.{fits}
use Rattle.spv_logic.specs.Conditions.{Meaning, Valuation}

-- ---- division

-- what DIV and MOD give of two numbers
abbrev pub quotient : Meaning → Valuation → ℤ → ℤ → Value
quotient symbols v a b = worth symbols v head.Div (Number a ∷ Number b ∷ [])

abbrev pub remainder : Meaning → Valuation → ℤ → ℤ → Value
remainder symbols v a b = worth symbols v head.Mod (Number a ∷ Number b ∷ [])

-- the quotient times the divisor, and the remainder, make the dividend
abbrev pub DivisionSplits : Type 0
DivisionSplits =
    (a b : ℤ) (symbols : Meaning) (v : Valuation)
    → worth symbols v head.Add (worth symbols v head.Mul (quotient symbols v a b ∷ Number b ∷ []) ∷ remainder symbols v a b ∷ []) ≡ Number a

-- the remainder is smaller than the divisor, where that is not 0
abbrev pub RemainderIsSmaller : Type 0
RemainderIsSmaller =
    (a b : ℤ) (symbols : Meaning) (v : Valuation) → 0 < unsigned_abs b → unsigned_abs (number_of (remainder symbols v a b)) < unsigned_abs b

-- it has the dividend's sign: that of m, and that of -(m + 1)
abbrev pub RemainderOfPositive : Type 0
RemainderOfPositive =
    (m : ℕ) (b : ℤ) (symbols : Meaning) (v : Valuation) → remainder symbols v (pos m) b ≡ Number (pos (m % unsigned_abs b))

abbrev pub RemainderOfNegative : Type 0
RemainderOfNegative =
    (m : ℕ) (b : ℤ) (symbols : Meaning) (v : Valuation) → remainder symbols v (negsuc m) b ≡ Number (neg_ℤ (pos (suc m % unsigned_abs b)))

-- ---- records

-- the field that was put into a record is read from it
abbrev pub FieldAfterPut : Type 0
FieldAfterPut =
    (shapes : List Shape) (t s : Sort) (f : Symbol) → field_sort_of (fields_of shapes t) f.0 ≡ Some s → (r w : Value) → IsTrue (fits shapes r t)
    → (symbols : Meaning) (v : Valuation) → worth symbols v (head.Field f) (worth symbols v (head.Put f) (r ∷ w ∷ []) ∷ []) ≡ w

-- every other field is as before
abbrev pub OtherFieldsAfterPut : Type 0
OtherFieldsAfterPut =
    (f g : Symbol) → g.0 ≢ f.0 → (r w : Value) (symbols : Meaning) (v : Valuation)
    → worth symbols v (head.Field g) (worth symbols v (head.Put f) (r ∷ w ∷ []) ∷ []) ≡ worth symbols v (head.Field g) (r ∷ [])
