-- What terms are worth where some are listed with fractions, and the first operation that is too wide.
use Rattle.std.specs.Prelude.{Bool, true, false, ◌&&◌, ◌||◌, not, List, [], ◌∷◌, ℤ, pos, nat_eq, Option, is_some, Result, Ok, Err, if◌then◌else◌}
use Rattle.std.specs.Ordering.{int_eq}
use Rattle.std.specs.declared.cmp.Ordering.{Ordering}
use Rattle.std.specs.declared.cmp.Ordering.TheVariants.{Less, Greater}
use Rattle.spv_whole.specs.Fraction.{Fraction, whole, negated, sum, product, order}
use Rattle.spv_frac.specs.Range.{op_fits}
use Rattle.spv_frac.specs.declared.frac.Op.{Op}
use Rattle.spv_frac.specs.declared.frac.Op.TheVariants as op
use Rattle.spv_logic.specs.declared.operators.Head.{Head}
use Rattle.spv_logic.specs.declared.operators.Head.TheVariants.{Num, Add, Sub, Mul, Eq, Lt, Le, Not, And, Or, Implies, True, False}
use Rattle.spv_logic.specs.Terms.{Term, Terms, term, no_terms, terms, term_eq}
use Rattle.spv_atoms.specs.Forms.{constant_values}
use Rattle.spv_table.specs.declared.operations.WideValue.{WideValue}

-- a fraction, or the first operation that is too wide
abbrev pub Outcome : Type 0
Outcome = Result Fraction WideValue

-- ---- truth values as fractions

abbrev pub truth_value : Bool → Fraction
truth_value true = whole (pos 1)
truth_value false = whole (pos 0)

abbrev pub is_same : Fraction → Fraction → Bool
is_same x y = int_eq x.num y.num && nat_eq x.den y.den

abbrev pub is_true : Fraction → Bool
is_true x = is_same x (whole (pos 1))

-- ---- operations

abbrev pub too_wide : Op → Fraction → Fraction → Outcome
too_wide o x y = Err (record { op = o; left = x; right = y })

-- a sum, a difference or a product
abbrev pub exact : Op → Fraction → Fraction → Fraction
exact op.Add x y = sum x y
exact op.Sub x y = sum x (negated y)
exact _ x y = product x y

abbrev pub operated : Op → Fraction → Fraction → Outcome
operated o x y = if op_fits o x y then Ok (exact o x y) else too_wide o x y

abbrev pub is_less : Ordering → Bool
is_less Less = true
is_less _ = false

abbrev pub is_at_most : Ordering → Bool
is_at_most Greater = false
is_at_most _ = true

abbrev pub compared : (Ordering → Bool) → Fraction → Fraction → Outcome
compared test x y = if op_fits op.Cmp x y then Ok (truth_value (test (order x y))) else too_wide op.Cmp x y

-- what a head with a meaning of its own makes of two fractions
abbrev pub of_pair : Head → Fraction → Fraction → Outcome
of_pair Add x y = operated op.Add x y
of_pair Sub x y = operated op.Sub x y
of_pair Mul x y = operated op.Mul x y
of_pair Lt x y = compared is_less x y
of_pair Le x y = compared is_at_most x y
of_pair And x y = Ok (truth_value (is_true x && is_true y))
of_pair Or x y = Ok (truth_value (is_true x || is_true y))
of_pair Implies x y = Ok (truth_value (not (is_true x) || is_true y))
of_pair _ x y = Ok (truth_value (is_same x y))

-- whether a head over two terms, which are constant or not, has a meaning of its own
abbrev pub has_meaning_over : Head → Bool → Bool → Bool
has_meaning_over Mul a b = a || b
has_meaning_over Add a b = true
has_meaning_over Sub a b = true
has_meaning_over Eq a b = true
has_meaning_over Lt a b = true
has_meaning_over Le a b = true
has_meaning_over And a b = true
has_meaning_over Or a b = true
has_meaning_over Implies a b = true
has_meaning_over _ a b = false

-- ---- values of terms

-- the left side comes first
abbrev pub both : (Fraction → Fraction → Outcome) → Outcome → Outcome → Outcome
both f (Err w) b = Err w
both f (Ok x) (Err w) = Err w
both f (Ok x) (Ok y) = f x y

abbrev pub negation : Outcome → Outcome
negation (Err w) = Err w
negation (Ok x) = Ok (truth_value (not (is_true x)))

abbrev pub negation_or : List Outcome → Fraction → Outcome
negation_or (a ∷ []) own = negation a
negation_or _ own = Ok own

abbrev pub pair_or : Head → List (Option ℤ) → List Outcome → Fraction → Outcome
pair_or h (c ∷ d ∷ []) (a ∷ b ∷ []) own = if has_meaning_over h (is_some c) (is_some d) then both (of_pair h) a b else Ok own
pair_or h _ _ own = Ok own

-- the value of a head over arguments of these constant values, if they are constant, and these values, where its application is listed with `own`
abbrev pub value_over : Head → List (Option ℤ) → List Outcome → Fraction → Outcome
value_over (Num z) constants values own = Ok (whole z)
value_over True constants values own = Ok (truth_value true)
value_over False constants values own = Ok (truth_value false)
value_over Not constants values own = negation_or values own
value_over h constants values own = pair_or h constants values own

abbrev mutual
  -- the value of a term, where `listed` says it of variables and of applications of other heads
  pub value : (Term → Fraction) → Term → Outcome
  value listed (term h ts) = value_over h (constant_values ts) (values listed ts) (listed (term h ts))

  pub values : (Term → Fraction) → Terms → List Outcome
  values listed no_terms = []
  values listed (terms t ts) = value listed t ∷ values listed ts

abbrev pub holding : Outcome → Result Bool WideValue
holding (Err w) = Err w
holding (Ok x) = Ok (is_true x)

-- whether a formula holds
abbrev pub holds : (Term → Fraction) → Term → Result Bool WideValue
holds listed f = holding (value listed f)

-- ---- tables

-- the fraction that a list gives a term: of two the first; 0 where it is not listed
abbrev pub listed_in : List (Term × Fraction) → Term → Fraction
listed_in [] t = whole (pos 0)
listed_in (p ∷ pairs) t = if term_eq p.0 t then p.1 else listed_in pairs t
