-- What is true of literals, of the bounds that they are, and of contradictions of these.
use Rattle.std.specs.Prelude.{◌≡◌, ℕ, ◌<◌, Bool, true, List, [], ◌∷◌, ◌++◌, length, take, Option, Some, None, ℤ, pos, slice_get}
use Rattle.spv_whole.specs.Fraction.{Fraction}
use Rattle.spv_frac.specs.rational.Rational.{Rational, whole, plus}
use Rattle.spv_logic.specs.declared.conditions.TermId.{TermId}
use Rattle.spv_logic.specs.declared.operators.Head.{Head}
use Rattle.spv_logic.specs.declared.operators.Head.TheVariants.{Num}
use Rattle.spv_logic.specs.Terms.{Term, term, no_terms, terms}
use Rattle.spv_logic.specs.Formulas.{equation, below}
use Rattle.spv_term.specs.Arena.{Arena, IsArena}
use Rattle.spv_atoms.specs.declared.proofs.Relation.TheVariants as relation
use Rattle.spv_atoms.specs.Forms.{form}
use Rattle.spv_atoms.specs.Linear.{IdForm}
use Rattle.spv_proof_rules.specs.Sums.{Reading, difference, is_at_most_zero, reading, cited_reading, refutes}
use Rattle.spv_proof_rules.specs.Effects.{Question, Adds, is_number, linear, at_most, impossible}
use Rattle.spv_tableau_rules.specs.tableaux.Numbers.{minus}
use Rattle.spv_tableau_rules.specs.tableaux.Rows.{column_of, Point, IsSolution}
use Rattle.spv_tableau_rules.specs.tableaux.Bounds.{Bound, bound_on, limits, Meets}
use Rattle.spv_tableau_rules.specs.tableaux.Forms.{rows_of}
use Rattle.spv_tableau_rules.specs.tableaux.Contradictions.{Multiple, IsContradiction}
use Rattle.spv_tableau_rules.specs.declared.constraints.saying.RowConstraint.{RowConstraint}
use Rattle.spv_tableau_rules.specs.declared.constraints.saying.RowConstraint.TheVariants.{Below, Above}
use Rattle.spv_tableau_rules.specs.declared.constraints.source.Source.{Source}
use Rattle.spv_tableau_rules.specs.constraints.Sayings.{saying, literal, reading_of, bounds_of}
use Rattle.spv_tableau_rules.specs.constraints.Relations.{number_sides, relations, IsRowOf, AreRowsOf, AreIn, places}
use Rattle.spv_tableau_rules.specs.constraints.Sources.{fact_reading, Sources, IsSourced, AreSourced, with_source, fact_multiples}
use Rattle.spv_tableau_rules.specs.constraints.Values.{form_value, part_value, value_in, holds_at, meets}

-- ---- literals

-- a literal of a relation of whole numbers is read as what it says of the sides
abbrev pub LiteralIsRead : Type 0
LiteralIsRead = (is_number : Term → Bool) (h : Head) (s t : Term) (b : Bool) (x : RowConstraint) → saying h b ≡ Some x → is_number s ≡ true → is_number t ≡ true
    → reading is_number (literal b (term h (terms s (terms t no_terms)))) ≡ reading_of x s t

-- the two orders of the sides of an equation
abbrev pub BelowIsRead : Type 0
BelowIsRead = (is_number : Term → Bool) (s t : Term) → is_number s ≡ true → is_number t ≡ true → reading is_number (below s t) ≡ reading_of Below s t

abbrev pub AboveIsRead : Type 0
AboveIsRead = (is_number : Term → Bool) (s t : Term) → is_number s ≡ true → is_number t ≡ true → reading is_number (below t s) ≡ reading_of Above s t

-- ---- bounds

-- each bound that a saying is stands on its row, and is the one that is found on its side
abbrev pub IsBoundOn : Type 0
IsBoundOn = (row : ℕ) (constant : ℤ) (x : RowConstraint) (j : ℕ) (b : Bound) → slice_get (bounds_of row constant x) j ≡ Some b → bound_on (bounds_of row constant x) row b.side ≡ Some b.value

abbrev pub IsOnRow : Type 0
IsOnRow = (row : ℕ) (constant : ℤ) (x : RowConstraint) (j : ℕ) (b : Bound) → slice_get (bounds_of row constant x) j ≡ Some b → b.row ≡ row

-- ---- rows

-- the place of a term's row leads to the form of the difference of its sides
abbrev pub PlaceIsOfRow : Type 0
PlaceIsOfRow = (is_number : Term → Bool) (a : Arena) (ts : List Term) (forms : List IdForm) → AreRowsOf a (relations is_number ts) forms
    → (j i : ℕ) (t : Term) (st : Term × Term) → slice_get ts j ≡ Some t → number_sides is_number t ≡ Some st → slice_get (places is_number ts) j ≡ Some (Some i)
    → (f : IdForm) → slice_get forms i ≡ Some f → IsRowOf a st f

-- each relation has a place, and its row is there
abbrev pub PlaceIsThere : Type 0
PlaceIsThere = (is_number : Term → Bool) (a : Arena) (ts : List Term) (forms : List IdForm) → AreRowsOf a (relations is_number ts) forms
    → (j i : ℕ) → slice_get (places is_number ts) j ≡ Some (Some i) → i < length forms

abbrev pub RowsAreIn : Type 0
RowsAreIn = (a : Arena) (sides : List (Term × Term)) (forms : List IdForm) → AreRowsOf a sides forms → AreIn a forms

-- ---- where bounds come from

-- as there are none
abbrev pub NoneIsSourced : Type 0
NoneIsSourced = (a : Arena) (facts : ℕ → Option Reading) (forms : List IdForm) (sources : Sources) → AreSourced a facts forms [] sources

-- one bound more, on a side of a row that has none, and where it comes from
abbrev pub OneMoreIsSourced : Type 0
OneMoreIsSourced = (a : Arena) (facts : ℕ → Option Reading) (forms : List IdForm) (bounds : List Bound) (sources : Sources) → AreSourced a facts forms bounds sources
    → (b : Bound) (s : Source) → bound_on bounds b.row b.side ≡ None → ((f : IdForm) → slice_get forms b.row ≡ Some f → IsSourced a facts b.row f b.side b.value s)
    → AreSourced a facts forms (bounds ++ b ∷ []) (with_source sources b.row b.side s)

-- the first bounds
abbrev pub FirstAreSourced : Type 0
FirstAreSourced = (a : Arena) (facts : ℕ → Option Reading) (forms : List IdForm) (bounds : List Bound) (sources : Sources) (n : ℕ) → AreSourced a facts forms bounds sources
    → AreSourced a facts forms (take n bounds) sources

-- other facts, of which those that were read are read the same
abbrev pub KeptAsRead : Type 0
KeptAsRead = (a : Arena) (facts others : ℕ → Option Reading) → ((k : ℕ) (r : Reading) → facts k ≡ Some r → others k ≡ Some r)
    → (forms : List IdForm) (bounds : List Bound) (sources : Sources) → AreSourced a facts forms bounds sources → AreSourced a others forms bounds sources

-- more facts
abbrev pub KeptWithFacts : Type 0
KeptWithFacts = (is_number : Term → Bool) (a : Arena) (facts more : List Term) (forms : List IdForm) (bounds : List Bound) (sources : Sources)
    → AreSourced a (fact_reading is_number facts) forms bounds sources → AreSourced a (fact_reading is_number (facts ++ more)) forms bounds sources

-- whatever a step supposes, as long as nothing comes from that
abbrev pub KeptInStep : Type 0
KeptInStep = (is_number : Term → Bool) (a : Arena) (facts : List Term) (denied : Reading) (forms : List IdForm) (bounds : List Bound) (sources : Sources)
    → AreSourced a (fact_reading is_number facts) forms bounds sources → AreSourced a (cited_reading is_number facts denied) forms bounds sources

-- ---- contradictions

-- a contradiction of bounds is one of the facts that they come from: these, so multiplied, contradict that p is above q
abbrev pub ContradictionRefutes : Type 0
ContradictionRefutes = (is_number : Term → Bool) (a : Arena) → IsArena a → (facts : List Term) (p q : Term) (forms : List IdForm) → AreIn a forms → (bounds : List Bound) (sources : Sources)
    → AreSourced a (cited_reading is_number facts (is_at_most_zero (difference q p (pos 1)))) forms bounds sources
    → (multiples : List Multiple) → IsContradiction (rows_of forms) bounds multiples → refutes is_number facts p q (fact_multiples sources multiples) ≡ true

-- a sum that contradicts that 1 is above 0 shows that it is at most 0, which is impossible
abbrev pub numeral_of : ℕ → Term
numeral_of n = term (Num (pos n)) no_terms

abbrev pub RefutedAddsImpossible : Type 0
RefutedAddsImpossible = (q : Question) (facts : List Term) (one zero : TermId) (multiples : List (Fraction × ℕ)) → q.at one ≡ numeral_of 1 → q.at zero ≡ numeral_of 0
    → refutes (is_number q) facts (numeral_of 1) (numeral_of 0) multiples ≡ true → linear q facts (relation.AtMost one zero) multiples [] ≡ Adds (at_most (numeral_of 1) (numeral_of 0))

abbrev pub IsImpossible : Type 0
IsImpossible = impossible (at_most (numeral_of 1) (numeral_of 0)) ≡ true

-- what a step supposes, in the list that is to show s at most t: that s is above t
abbrev pub SupposesAbove : Type 0
SupposesAbove = (is_number : Term → Bool) (facts : List Term) (s t : Term) → cited_reading is_number facts (is_at_most_zero (difference t s (pos 1))) 0 ≡ reading_of Above s t

-- and in the one that is to show t at most s: that s is below t
abbrev pub SupposesBelow : Type 0
SupposesBelow = (is_number : Term → Bool) (facts : List Term) (s t : Term) → cited_reading is_number facts (is_at_most_zero (difference s t (pos 1))) 0 ≡ reading_of Below s t

-- where both are refuted, the sides are equal
abbrev pub RefutedAddsEquation : Type 0
RefutedAddsEquation = (q : Question) (facts : List Term) (s t : TermId) (first second : List (Fraction × ℕ)) → is_number q (q.at s) ≡ true → is_number q (q.at t) ≡ true
    → refutes (is_number q) facts (q.at s) (q.at t) first ≡ true → refutes (is_number q) facts (q.at t) (q.at s) second ≡ true
    → linear q facts (relation.Equal s t) first second ≡ Adds (equation (q.at s) (q.at t))

-- ---- points

-- a difference of terms is worth the difference of their values, and what is added
abbrev pub DifferenceIsWorth : Type 0
DifferenceIsWorth = (value : Term → Rational) (s t : Term) (n : ℕ) → form_value value (difference s t (pos n)) ≡ plus (minus (form_value value (form s)) (form_value value (form t))) (whole (pos n))

-- the column of a row holds the difference of the values of its sides, less the form's constant
abbrev pub RowIsWorth : Type 0
RowIsWorth = (a : Arena) → IsArena a → (forms : List IdForm) → AreIn a forms → (v : Point) → IsSolution (rows_of forms) v → (i : ℕ) (f : IdForm) → slice_get forms i ≡ Some f
    → (s t : Term) → IsRowOf a (s, t) f → plus (v (column_of (rows_of forms) i)) (whole f.constant) ≡ minus (value_in a forms v s) (value_in a forms v t)

-- a point meets the bounds that a literal is exactly where its reading is true at the values of the parts
abbrev pub MetWhereTrue : Type 0
MetWhereTrue = (a : Arena) → IsArena a → (forms : List IdForm) → AreIn a forms → (v : Point) → IsSolution (rows_of forms) v → (i : ℕ) (f : IdForm) → slice_get forms i ≡ Some f
    → (s t : Term) → IsRowOf a (s, t) f → (x : RowConstraint) (r : Reading) → reading_of x s t ≡ Some r
    → meets (v (column_of (rows_of forms) i)) (bounds_of i f.constant x) ≡ holds_at (part_value a forms v) r

-- a point that meets all bounds makes true what is read of a literal whose bounds stand
abbrev pub TrueWhereStanding : Type 0
TrueWhereStanding = (a : Arena) → IsArena a → (forms : List IdForm) → AreIn a forms → (bounds : List Bound) (v : Point) → IsSolution (rows_of forms) v → Meets (limits (rows_of forms) bounds) v
    → (i : ℕ) (f : IdForm) → slice_get forms i ≡ Some f → (s t : Term) → IsRowOf a (s, t) f → (x : RowConstraint) (r : Reading) → reading_of x s t ≡ Some r
    → ((j : ℕ) (b : Bound) → slice_get (bounds_of i f.constant x) j ≡ Some b → bound_on bounds i b.side ≡ Some b.value) → holds_at (part_value a forms v) r ≡ true

-- an equation is true exactly where its sides have one value
abbrev pub EqualWhereTrue : Type 0
EqualWhereTrue = (value : Term → Rational) (s t : Term) → holds_at value (record { form = difference s t (pos 0); is_equal = true }) ≡ true → form_value value (form s) ≡ form_value value (form t)

abbrev pub TrueWhereEqual : Type 0
TrueWhereEqual = (value : Term → Rational) (s t : Term) → form_value value (form s) ≡ form_value value (form t) → holds_at value (record { form = difference s t (pos 0); is_equal = true }) ≡ true
