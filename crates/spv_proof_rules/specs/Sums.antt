-- What facts say of whole numbers, and sums of multiples of them that are a contradiction.
use Rattle.std.specs.Prelude.{ℕ, zero, suc, Bool, true, false, ◌&&◌, ◌||◌, not, List, [], ◌∷◌, Option, Some, None, ℤ, pos, ◌+ℤ◌, slice_get, if◌then◌else◌}
use Rattle.std.specs.List.{list_all}
use Rattle.spv_whole.specs.Fraction.{Fraction}
use Rattle.spv_frac.specs.rational.Rational.{Rational, whole, number, plus, times, is_zero, is_positive, is_negative}
use Rattle.spv_logic.specs.declared.operators.Head.TheVariants.{Eq, Lt, Le, Not}
use Rattle.spv_logic.specs.Terms.{Term, Terms, term, no_terms, terms}
use Rattle.spv_atoms.specs.Forms.{Sum, Form, with_parts, form, minus}

-- ---- relations

-- how two terms are related
pub data Comparison : Type 0 where
  Equals : Term → Term → Comparison
  IsBelow : Term → Term → Comparison
  IsAtMost : Term → Term → Comparison

abbrev pub pair : Terms → Option (Term × Term)
pair (terms s (terms t no_terms)) = Some (s, t)
pair _ = None

abbrev pub relate : (Term → Term → Comparison) → Option (Term × Term) → Option Comparison
relate how None = None
relate how (Some st) = Some (how st.0 st.1)

-- the relation that a formula is
abbrev pub comparison : Term → Option Comparison
comparison (term Eq ts) = relate Equals (pair ts)
comparison (term Lt ts) = relate IsBelow (pair ts)
comparison (term Le ts) = relate IsAtMost (pair ts)
comparison _ = None

-- what a formula negates
abbrev pub negated : Term → Option Term
negated (term Not (terms t no_terms)) = Some t
negated _ = None

-- ---- readings

-- what a fact says of whole numbers: that a form is 0, or that it is at most 0
pub record Reading : Type 0 where
  pub form : Form
  pub is_equal : Bool

-- left - right + more
abbrev pub difference : Term → Term → ℤ → Form
difference left right more = let f = minus (form left) (form right) in record { parts = f.parts; constant = f.constant +ℤ more }

abbrev pub is_at_most_zero : Form → Reading
is_at_most_zero f = record { form = f; is_equal = false }

-- a relation of whole numbers: what is below another number is at most that number less 1
abbrev pub read_true : Comparison → Reading
read_true (Equals a b) = record { form = difference a b (pos 0); is_equal = true }
read_true (IsBelow a b) = is_at_most_zero (difference a b (pos 1))
read_true (IsAtMost a b) = is_at_most_zero (difference a b (pos 0))

-- the negation of a relation; that two numbers differ is no bound of their difference
abbrev pub read_false : Comparison → Option Reading
read_false (Equals a b) = None
read_false (IsBelow a b) = Some (is_at_most_zero (difference b a (pos 0)))
read_false (IsAtMost a b) = Some (is_at_most_zero (difference b a (pos 1)))

-- whether both sides of a relation pass a test
abbrev pub sides_pass : (Term → Bool) → Comparison → Bool
sides_pass test (Equals a b) = test a && test b
sides_pass test (IsBelow a b) = test a && test b
sides_pass test (IsAtMost a b) = test a && test b

abbrev pub read_if : Bool → Option Reading → Option Reading
read_if true r = r
read_if false r = None

abbrev pub read_relation : (Term → Bool) → (Comparison → Option Reading) → Option Comparison → Option Reading
read_relation is_number read None = None
read_relation is_number read (Some c) = read_if (sides_pass is_number c) (read c)

abbrev pub read_by : (Term → Bool) → Option Term → Term → Option Reading
read_by is_number None t = read_relation is_number (λ c. Some (read_true c)) (comparison t)
read_by is_number (Some u) t = read_relation is_number read_false (comparison u)

-- what a fact says, where it is a relation of whole numbers or the negation of one
abbrev pub reading : (Term → Bool) → Term → Option Reading
reading is_number t = read_by is_number (negated t) t

-- ---- sums of multiples

-- a sum of terms times rational numbers, and a constant
abbrev pub Combination : Type 0
Combination = Sum Rational

abbrev pub nothing : Combination
nothing = record { parts = []; constant = whole (pos 0) }

-- a combination and m times a form
abbrev pub add_form : Rational → Form → Combination → Combination
add_form m f c = record {
  parts = with_parts plus (λ n. times m (whole n)) f.parts c.parts;
  constant = plus c.constant (times m (whole f.constant));
}

-- a multiplier of an inequality is not negative
abbrev pub may_multiply : Rational → Reading → Bool
may_multiply m r = r.is_equal || not (is_negative m)

abbrev pub add_reading : Rational → Option Reading → Combination → Option Combination
add_reading m None c = None
add_reading m (Some r) c = if may_multiply m r then Some (add_form m r.form c) else None

abbrev pub read_cited : (Term → Bool) → Option Term → Option Reading
read_cited is_number None = None
read_cited is_number (Some t) = reading is_number t

-- what a cited fact says, by its number from 1; number 0 stands for the reading `denied`
abbrev pub cited_reading : (Term → Bool) → List Term → Reading → ℕ → Option Reading
cited_reading is_number facts denied zero = Some denied
cited_reading is_number facts denied (suc k) = read_cited is_number (slice_get facts k)

abbrev pub then_add : Option Combination → (Combination → Option Combination) → Option Combination
then_add None go = None
then_add (Some c) go = go c

-- the sum of the cited multiples, one after the other
abbrev pub sum_of : (Term → Bool) → List Term → Reading → List (Fraction × ℕ) → Combination → Option Combination
sum_of is_number facts denied [] c = Some c
sum_of is_number facts denied (m ∷ multiples) c =
    then_add (add_reading (number m.0) (cited_reading is_number facts denied m.1) c) (sum_of is_number facts denied multiples)

-- whether a combination is a constant above 0
abbrev pub is_above_zero : Combination → Bool
is_above_zero c = list_all (λ p. is_zero p.1) c.parts && is_positive c.constant

abbrev pub shows_above_zero : Option Combination → Bool
shows_above_zero None = false
shows_above_zero (Some c) = is_above_zero c

-- whether these multiples contradict that a is above b
abbrev pub refutes : (Term → Bool) → List Term → Term → Term → List (Fraction × ℕ) → Bool
refutes is_number facts a b multiples = shows_above_zero (sum_of is_number facts (is_at_most_zero (difference b a (pos 1))) multiples nothing)
