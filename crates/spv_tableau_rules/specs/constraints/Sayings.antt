-- What literals say of the sides of a relation of whole numbers, and which bounds this is on the row of left - right.
use Rattle.std.specs.Prelude.{ℕ, Bool, true, false, List, [], ◌∷◌, Option, Some, None, ℤ, pos, ◌+ℤ◌, neg_ℤ}
use Rattle.spv_frac.specs.rational.Rational.{whole}
use Rattle.spv_logic.specs.declared.operators.Head.{Head}
use Rattle.spv_logic.specs.declared.operators.Head.TheVariants.{Eq, Lt, Le}
use Rattle.spv_logic.specs.Terms.{Term}
use Rattle.spv_logic.specs.Formulas.{negation}
use Rattle.spv_proof_rules.specs.Sums.{Reading, difference, is_at_most_zero}
use Rattle.spv_tableau_rules.specs.declared.tableaux.side.Side.TheVariants.{Lower, Upper}
use Rattle.spv_tableau_rules.specs.tableaux.Bounds.{Bound}
use Rattle.spv_tableau_rules.specs.declared.constraints.saying.RowConstraint.{RowConstraint}
use Rattle.spv_tableau_rules.specs.declared.constraints.saying.RowConstraint.TheVariants.{Equal, Below, AtMost, Above, AtLeast, Differs}

-- what a relation of this head says where it is true, and where it is false
abbrev pub saying : Head → Bool → Option RowConstraint
saying Eq true = Some Equal
saying Eq false = Some Differs
saying Lt true = Some Below
saying Lt false = Some AtLeast
saying Le true = Some AtMost
saying Le false = Some Above
saying _ b = None

-- a formula, or its negation
abbrev pub literal : Bool → Term → Term
literal true t = t
literal false t = negation t

-- what is read of it: that a form is 0, or at most 0
abbrev pub reading_of : RowConstraint → Term → Term → Option Reading
reading_of Equal s t = Some (record { form = difference s t (pos 0); is_equal = true })
reading_of Below s t = Some (is_at_most_zero (difference s t (pos 1)))
reading_of AtMost s t = Some (is_at_most_zero (difference s t (pos 0)))
reading_of Above s t = Some (is_at_most_zero (difference t s (pos 1)))
reading_of AtLeast s t = Some (is_at_most_zero (difference t s (pos 0)))
reading_of Differs s t = None

abbrev pub says_equal : RowConstraint → Bool
says_equal Equal = true
says_equal _ = false

-- ---- as bounds

abbrev pub at_least : ℕ → ℤ → Bound
at_least row n = record { row = row; side = Lower; value = whole n }

abbrev pub at_most : ℕ → ℤ → Bound
at_most row n = record { row = row; side = Upper; value = whole n }

-- the bounds on the row of left - right, whose form has this constant: it goes to the other side
abbrev pub bounds_of : ℕ → ℤ → RowConstraint → List Bound
bounds_of row constant Equal = at_least row (neg_ℤ constant) ∷ at_most row (neg_ℤ constant) ∷ []
bounds_of row constant Below = at_most row (neg_ℤ (constant +ℤ pos 1)) ∷ []
bounds_of row constant AtMost = at_most row (neg_ℤ constant) ∷ []
bounds_of row constant Above = at_least row (neg_ℤ constant +ℤ pos 1) ∷ []
bounds_of row constant AtLeast = at_least row (neg_ℤ constant) ∷ []
bounds_of row constant Differs = []
