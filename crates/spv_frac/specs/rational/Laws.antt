-- What rational numbers obey.
use Rattle.std.specs.Prelude.{◌≡◌, ℤ, pos, ◌+ℤ◌, ◌*ℤ◌, false, true}
use Rattle.spv_whole.specs.Fraction.{Fraction, IsLowest}
use Rattle.spv_whole.specs.Fraction as fraction
use Rattle.spv_frac.specs.rational.Rational.{Rational, whole, number, plus, times, opposite, is_zero, is_positive, is_negative}

-- rational numbers with one fraction are one
abbrev pub OneValue : Type 0
OneValue = (a b : Rational) → a.fraction ≡ b.fraction → a ≡ b

-- an operation whose operands may be exchanged
abbrev pub Commutes : (Rational → Rational → Rational) → Type 0
Commutes op = (a b : Rational) → op a b ≡ op b a

-- an operation whose operands may be grouped either way
abbrev pub Associates : (Rational → Rational → Rational) → Type 0
Associates op = (a b c : Rational) → op (op a b) c ≡ op a (op b c)

-- an operation that leaves a number as it is, with this operand
abbrev pub HasUnit : (Rational → Rational → Rational) → Rational → Type 0
HasUnit op e = (a : Rational) → op a e ≡ a

abbrev pub Distributes : Type 0
Distributes = (a b c : Rational) → times a (plus b c) ≡ plus (times a b) (times a c)

abbrev pub Cancels : Type 0
Cancels = (a : Rational) → plus a (opposite a) ≡ whole (pos 0)

abbrev pub TimesZero : Type 0
TimesZero = (a : Rational) → times a (whole (pos 0)) ≡ whole (pos 0)

-- whole numbers keep their sums, products and signs
abbrev pub WholeSum : Type 0
WholeSum = (a b : ℤ) → plus (whole a) (whole b) ≡ whole (a +ℤ b)

abbrev pub WholeProduct : Type 0
WholeProduct = (a b : ℤ) → times (whole a) (whole b) ≡ whole (a *ℤ b)

-- the number of a fraction in lowest terms has that fraction
abbrev pub NumberOfLowest : Type 0
NumberOfLowest = (f : Fraction) → IsLowest f → (number f).fraction ≡ f

-- the numbers of fractions add and multiply as the fractions do
abbrev pub NumberOfSum : Type 0
NumberOfSum = (a b : Fraction) → IsLowest a → IsLowest b → number (fraction.sum a b) ≡ plus (number a) (number b)

abbrev pub NumberOfProduct : Type 0
NumberOfProduct = (a b : Fraction) → IsLowest a → IsLowest b → number (fraction.product a b) ≡ times (number a) (number b)

-- ---- signs

abbrev pub NotPositiveSum : Type 0
NotPositiveSum = (a b : Rational) → is_positive a ≡ false → is_positive b ≡ false → is_positive (plus a b) ≡ false

-- a factor that is not negative leaves what is not positive so
abbrev pub NotPositiveProduct : Type 0
NotPositiveProduct = (a b : Rational) → is_negative a ≡ false → is_positive b ≡ false → is_positive (times a b) ≡ false

abbrev pub ZeroIsZero : Type 0
ZeroIsZero = (a : Rational) → is_zero a ≡ true → a ≡ whole (pos 0)
