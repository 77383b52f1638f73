-- What terms are worth in a table by exact numbers, however wide.
use Rattle.std.specs.Prelude.{Bool, true, false, ◌&&◌, ◌||◌, not, List, [], ◌∷◌, ℤ, Option, is_some, if◌then◌else◌}
use Rattle.spv_whole.specs.Fraction.{Fraction, whole, order}
use Rattle.spv_frac.specs.declared.frac.Op.TheVariants as op
use Rattle.spv_logic.specs.declared.operators.Head.{Head}
use Rattle.spv_logic.specs.declared.operators.Head.TheVariants.{Num, Add, Sub, Mul, Lt, Le, Not, And, Or, Implies, True, False}
use Rattle.spv_logic.specs.Terms.{Term, Terms, term, no_terms, terms}
use Rattle.spv_atoms.specs.Forms.{constant_values}
use Rattle.spv_table.specs.Values.{truth_value, is_same, is_true, is_less, is_at_most, exact, has_meaning_over}

-- what a head with a meaning of its own makes of two fractions
abbrev pub exact_pair : Head → Fraction → Fraction → Fraction
exact_pair Add x y = exact op.Add x y
exact_pair Sub x y = exact op.Sub x y
exact_pair Mul x y = exact op.Mul x y
exact_pair Lt x y = truth_value (is_less (order x y))
exact_pair Le x y = truth_value (is_at_most (order x y))
exact_pair And x y = truth_value (is_true x && is_true y)
exact_pair Or x y = truth_value (is_true x || is_true y)
exact_pair Implies x y = truth_value (not (is_true x) || is_true y)
exact_pair _ x y = truth_value (is_same x y)

abbrev pub exact_negation : List Fraction → Fraction → Fraction
exact_negation (x ∷ []) own = truth_value (not (is_true x))
exact_negation _ own = own

abbrev pub exact_pair_or : Head → List (Option ℤ) → List Fraction → Fraction → Fraction
exact_pair_or h (c ∷ d ∷ []) (x ∷ y ∷ []) own = if has_meaning_over h (is_some c) (is_some d) then exact_pair h x y else own
exact_pair_or h _ _ own = own

-- the value of a head over arguments of these constant values, if they are constant, and these values, where its application is listed with `own`
abbrev pub exact_over : Head → List (Option ℤ) → List Fraction → Fraction → Fraction
exact_over (Num z) constants values own = whole z
exact_over True constants values own = truth_value true
exact_over False constants values own = truth_value false
exact_over Not constants values own = exact_negation values own
exact_over h constants values own = exact_pair_or h constants values own

abbrev mutual
  -- the value of a term, where `listed` says it of variables and of applications of other heads
  pub exact_value : (Term → Fraction) → Term → Fraction
  exact_value listed (term h ts) = exact_over h (constant_values ts) (exact_values listed ts) (listed (term h ts))

  pub exact_values : (Term → Fraction) → Terms → List Fraction
  exact_values listed no_terms = []
  exact_values listed (terms t ts) = exact_value listed t ∷ exact_values listed ts

-- whether a formula is true
abbrev pub is_exactly_true : (Term → Fraction) → Term → Bool
is_exactly_true listed f = is_true (exact_value listed f)
