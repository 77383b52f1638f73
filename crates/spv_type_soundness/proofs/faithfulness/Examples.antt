-- Small trees, and what comes from them and what does not.
use Rattle.std.proofs.Common.{◌≡◌, Bool, true, false, refl, sym, ap, ◌∙◌, subst}
use Rattle.std.proofs.lemmas.Bool.{false≢true}
use Rattle.std.specs.Prelude.{ℕ, ℤ, [], ◌∷◌, Some, None, pos}
use Rattle.std.specs.Ordering.{int_eq}
use Rattle.spv_logic.specs.declared.types.TypeId.{TypeId}
use Rattle.spv_logic.specs.declared.names.names.Symbol.{Symbol}
use Rattle.spv_tree.specs.declared.syntax.operators.Comparison.{Comparison as ComparisonSign}
use Rattle.spv_tree.specs.declared.syntax.names.Scalar.TheVariants as scalar
use Rattle.spv_tree.specs.syntax.Formulas as tree
use Rattle.spv_tree.specs.syntax.Statements as trees
use Rattle.spv_tree.specs.declared.syntax.operators.Comparison.TheVariants as comparing
use Rattle.spv_tree.specs.declared.syntax.operators.Adding.TheVariants as adding
use Rattle.spv_program.specs.declared.operators.Comparison.TheVariants as comparison
use Rattle.spv_program.specs.Expressions.{Expression, Numeral, Boolean, Read, Negative, Negated, Compared, designator, no_selectors, at_index}
use Rattle.spv_program.specs.Statements.{Empty, Sequence, Case, While, arm, no_arms}
use Rattle.spv_program.proofs.SortFacts.{nothing_there, some_is}
use Rattle.spv_type_soundness.specs.faithfulness.Examples.{factor, opposite, times, in_brackets, FactorsAreKept, view, name, x, y, c, integer, truth, x_first, labelled, assign, assigning, FromStatement, variable, number, two, less_less, related, minus_one, alone, indexed, behind_x, read, one, plus, minus, From, No, SumsAreKept, FromTheLeft, RelationsAreKept, NumbersAreKept, IndicesAreKept, AssignmentsAreKept, BranchesAreKept, LoopsAndArmsAreKept}
use Rattle.spv_type_soundness.specs.faithfulness.Operators as origin
use Rattle.spv_type_soundness.specs.faithfulness.Expressions.{selected, expression_operators, IsRead, IsWritten, IsCalled, written_variable, read_variable, read_constant, read_result}
use Rattle.spv_type_soundness.specs.faithfulness.Names.{View, names_place}
use Rattle.spv_type_soundness.specs.faithfulness.Formulas.{not_there}
use Rattle.spv_type_soundness.specs.faithfulness.Statements as statements

abbrev TermFrom : Expression → tree.Term → Type 0
TermFrom = origin.FromTerm expression_operators (IsRead view) (IsWritten view) (IsCalled view)

abbrev SimpleFrom : Expression → tree.Simple → Type 0
SimpleFrom = origin.FromSimple expression_operators (IsRead view) (IsWritten view) (IsCalled view)

abbrev SelectorsFrom : Expression → tree.Selectors → Expression → Type 0
SelectorsFrom = origin.FromSelectors expression_operators (IsRead view) (IsWritten view) (IsCalled view)

x_read : TermFrom (read x) (variable x)
x_read = origin.product (origin.read (origin.read_name (read_variable refl) origin.no_more)) origin.no_factors

y_read : TermFrom (read y) (variable y)
y_read = origin.product (origin.read (origin.read_name (read_variable refl) origin.no_more)) origin.no_factors

one_read : TermFrom one (number 1)
one_read = origin.product origin.numeral origin.no_factors

pub alone_read : {e : Expression} {t : tree.Term} → TermFrom e t → From e (alone t)
alone_read h = origin.alone (origin.one_side (origin.unsigned h origin.no_terms))

-- a variable is itself and no other
no_x_in_y : No (TermFrom (read x) (variable y))
no_x_in_y (origin.product (origin.read (origin.read_name h origin.no_more)) origin.no_factors) = elim h [ ]

no_y_in_x : No (TermFrom (read y) (variable x))
no_y_in_x (origin.product (origin.read (origin.read_name h origin.no_more)) origin.no_factors) = elim h [ ]

no_one_alone : IsRead view (name y) one → ⊥
no_one_alone (read_constant e) = nothing_there e

no_one_in_y : No (From one (alone (variable y)))
no_one_in_y (origin.alone (origin.one_side (origin.unsigned (origin.product (origin.read (origin.read_name h origin.no_more))
    origin.no_factors) origin.no_terms))) = no_one_alone h

-- ---- sums and relations

other_variable : No (From (plus (read x) one) (two adding.Plus (variable y) (number 1)))
other_variable (origin.alone (origin.one_side (origin.unsigned h (origin.one_term g origin.no_terms)))) = no_x_in_y h

no_x_in_one : No (TermFrom (read x) (number 1))
no_x_in_one (origin.product h origin.no_factors) = elim h [ ]

other_second : No (From (plus (read y) (read x)) (two adding.Plus (variable y) (number 1)))
other_second (origin.alone (origin.one_side (origin.unsigned h (origin.one_term g origin.no_terms)))) = no_x_in_one g

lost_term : No (From (read y) (two adding.Plus (variable y) (number 1)))
lost_term (origin.alone (origin.one_side (origin.unsigned h (origin.one_term g k)))) = elim k [ ]

invented_term : No (From (plus (read y) one) (alone (variable y)))
invented_term (origin.alone (origin.one_side (origin.unsigned (origin.product (origin.read (origin.read_name h origin.no_more))
    origin.no_factors) origin.no_terms))) = elim h [ ]

other_sign : No (From (minus (read y) one) (two adding.Plus (variable y) (number 1)))
other_sign (origin.alone (origin.one_side (origin.unsigned h (origin.one_term g k)))) = elim k [ ]

other_order : No (From (minus (read y) (read x)) (two adding.Minus (variable x) (variable y)))
other_order (origin.alone (origin.one_side (origin.unsigned h (origin.one_term g origin.no_terms)))) = no_y_in_x h

pub sums_are_kept : SumsAreKept
sums_are_kept = (
  origin.alone (origin.one_side (origin.unsigned y_read (origin.one_term one_read origin.no_terms))),
  other_variable,
  other_second,
  lost_term,
  invented_term,
  other_sign,
  other_order,
)

from_the_right : No (From (minus (read x) (minus (read y) one)) (less_less (variable x) (variable y) (number 1)))
from_the_right (origin.alone (origin.one_side (origin.unsigned h (origin.one_term g (origin.one_term k m))))) = elim m [ ]

pub from_the_left : FromTheLeft
from_the_left = (
  origin.alone (origin.one_side (origin.unsigned x_read (origin.one_term y_read
      (origin.one_term one_read origin.no_terms)))),
  from_the_right,
)

-- the two sides of a relation
record SidesOf (o : ComparisonSign) (a b : tree.Term) (e : Expression) : Type 0 where
  pub left : Expression
  pub right : Expression
  pub left_from : TermFrom left a
  pub right_from : TermFrom right b
  pub is : e ≡ Compared (origin.comparison_of o) left right

simple_alone : {e : Expression} {t : tree.Term} → SimpleFrom e (tree.simple 1 None t tree.no_more_terms) → TermFrom e t
simple_alone (origin.unsigned h origin.no_terms) = h

sides_of : (o : ComparisonSign) (a b : tree.Term) (e : Expression) → From e (related o a b) → SidesOf o a b e
sides_of o a b e (origin.alone (origin.two_sides h g)) = record
    { left = _; right = _; left_from = simple_alone h; right_from = simple_alone g; is = refl }

abbrev is_less : Expression → Bool
is_less (Compared comparison.Less a b) = true
is_less e = false

abbrev left_of : Expression → Expression
left_of (Compared o a b) = a
left_of e = e

other_relation : No (From (Compared comparison.Less (read x) (read y)) (related comparing.Greater (variable x) (variable y)))
other_relation h = let s = sides_of comparing.Greater (variable x) (variable y) (Compared comparison.Less (read x) (read y)) h in
    false≢true (sym (ap is_less s.is))

other_sides : No (From (Compared comparison.Greater (read y) (read x)) (related comparing.Greater (variable x) (variable y)))
other_sides h =
    let s = sides_of comparing.Greater (variable x) (variable y) (Compared comparison.Greater (read y) (read x)) h in
    no_y_in_x (subst (λ e. TermFrom e (variable x)) (sym (ap left_of s.is)) s.left_from)

abbrev right_of : Expression → Expression
right_of (Compared o a b) = b
right_of e = e

other_right : No (From (Compared comparison.Greater (read x) one) (related comparing.Greater (variable x) (variable y)))
other_right h =
    let s = sides_of comparing.Greater (variable x) (variable y) (Compared comparison.Greater (read x) one) h in
    no_one_in_y (alone_read (subst (λ e. TermFrom e (variable y)) (sym (ap right_of s.is)) s.right_from))

-- ---- products and NOT

abbrev FactorFrom : Expression → tree.Factor → Type 0
FactorFrom = origin.FromFactor expression_operators (IsRead view) (IsWritten view) (IsCalled view)

factor_read : (s : Symbol) → names_place view s ≡ true → FactorFrom (read s) (factor s)
factor_read s there = origin.read (origin.read_name (read_variable there) origin.no_more)

no_x_factor : No (FactorFrom (read x) (factor y))
no_x_factor (origin.read (origin.read_name h origin.no_more)) = elim h [ ]

no_y_factor : No (FactorFrom (read y) (factor x))
no_y_factor (origin.read (origin.read_name h origin.no_more)) = elim h [ ]

other_first_factor : No (From (times (read y) (read y)) Rattle.spv_type_soundness.specs.faithfulness.Examples.product)
other_first_factor (origin.alone (origin.one_side (origin.unsigned (origin.product h (origin.one_factor g origin.no_factors))
    origin.no_terms))) = no_y_factor h

other_second_factor : No (From (times (read x) (read x)) Rattle.spv_type_soundness.specs.faithfulness.Examples.product)
other_second_factor (origin.alone (origin.one_side (origin.unsigned (origin.product h (origin.one_factor g origin.no_factors))
    origin.no_terms))) = no_x_factor g

lost_factor : No (From (read x) Rattle.spv_type_soundness.specs.faithfulness.Examples.product)
lost_factor (origin.alone (origin.one_side (origin.unsigned (origin.product h (origin.one_factor g k)) origin.no_terms))) = elim k [ ]

other_negated : No (From (Negated (read y)) opposite)
other_negated (origin.alone (origin.one_side (origin.unsigned (origin.product (origin.negated h) origin.no_factors) origin.no_terms))) =
    no_y_factor h

lost_negation : No (From (read x) opposite)
lost_negation (origin.alone (origin.one_side (origin.unsigned (origin.product h origin.no_factors) origin.no_terms))) = elim h [ ]

pub factors_are_kept : FactorsAreKept
factors_are_kept = (
  origin.alone (origin.one_side (origin.unsigned (origin.product (factor_read x refl) (origin.one_factor (factor_read y refl)
      origin.no_factors)) origin.no_terms)),
  other_first_factor,
  other_second_factor,
  lost_factor,
  alone_read (origin.product (origin.negated (factor_read x refl)) origin.no_factors),
  other_negated,
  lost_negation,
)

pub relations_are_kept : RelationsAreKept
relations_are_kept = (
  origin.alone (origin.two_sides (origin.unsigned x_read origin.no_terms) (origin.unsigned y_read origin.no_terms)),
  other_relation,
  other_sides,
  other_right,
)

-- ---- numbers, constants, brackets, indices

no_negative : No (From (Negative one) minus_one)
no_negative (origin.alone (origin.one_side (origin.minus_numeral h))) = elim h [ ]
no_negative (origin.alone (origin.one_side (origin.minus e h g))) = absurd (false≢true (sym e))

no_sign_lost : No (From one minus_one)
no_sign_lost (origin.alone (origin.one_side (origin.minus_numeral h))) = elim h [ ]
no_sign_lost (origin.alone (origin.one_side (origin.minus e h g))) = absurd (false≢true (sym e))

seven_is_not_eight : Some (pos 7) ≡ Some (pos 8) → ⊥
seven_is_not_eight e = let z : pos 7 ≡ pos 8 = some_is e in false≢true (ap (λ (q : ℤ). int_eq q (pos 8)) z)

no_eight_alone : IsRead view (name c) (Numeral (pos 8)) → ⊥
no_eight_alone (read_constant e) = seven_is_not_eight e

no_eight : No (From (Numeral (pos 8)) (alone (variable c)))
no_eight (origin.alone (origin.one_side (origin.unsigned (origin.product (origin.read (origin.read_name h origin.no_more))
    origin.no_factors) origin.no_terms))) = no_eight_alone h

no_read_alone : IsRead view (name c) (read c) → ⊥
no_read_alone (read_variable e) = false≢true e

no_read : No (From (read c) (alone (variable c)))
no_read (origin.alone (origin.one_side (origin.unsigned (origin.product (origin.read (origin.read_name h origin.no_more))
    origin.no_factors) origin.no_terms))) = no_read_alone h

no_brackets : No (From (read x) (alone (in_brackets (variable y))))
no_brackets (origin.alone (origin.one_side (origin.unsigned (origin.product (origin.in_brackets
    (origin.alone (origin.one_side (origin.unsigned h origin.no_terms)))) origin.no_factors) origin.no_terms))) = no_x_in_y h

pub numbers_are_kept : NumbersAreKept
numbers_are_kept = (
  origin.alone (origin.one_side (origin.minus_numeral origin.no_terms)),
  no_negative,
  no_sign_lost,
  origin.alone (origin.one_side (origin.minus refl (origin.product (origin.in_brackets (alone_read one_read)) origin.no_factors)
      origin.no_terms)),
  no_brackets,
  alone_read (origin.product (origin.read (origin.read_name (read_constant refl) origin.no_more)) origin.no_factors),
  no_eight,
  no_read,
)

-- what is read by the name x
x_alone : (e : Expression) → IsRead view (name x) e → e ≡ read x
x_alone e (read_constant h) = absurd (nothing_there h)
x_alone e (read_variable h) = refl
x_alone e (read_result h) = absurd (nothing_there h)

-- the two indices of `x[y, 1]`
record IndicesOf (e : Expression) : Type 0 where
  pub first_type : TypeId
  pub second_type : TypeId
  pub first : Expression
  pub second : Expression
  pub first_from : From first (alone (variable y))
  pub second_from : From second (alone (number 1))
  pub is : Read (designator 1 x (at_index first_type first (at_index second_type second no_selectors))) ≡ e

after_two : (a b d e : Expression) (t u : TypeId) (i j : Expression) → a ≡ read x → selected a (at_index t i no_selectors) ≡ Some b
    → selected b (at_index u j no_selectors) ≡ Some d → SelectorsFrom d tree.no_selectors e
    → From i (alone (variable y)) → From j (alone (number 1)) → IndicesOf e
after_two a b d e t u i j same g h origin.no_more f k =
    let one : Read (designator 1 x (at_index t i no_selectors)) ≡ b = some_is
    (ap (λ q. selected q (at_index t i no_selectors)) (sym same) ∙ g) in
    let two : Read (designator 1 x (at_index t i (at_index u j no_selectors))) ≡ d = some_is
    (ap (λ q. selected q (at_index u j no_selectors)) one ∙ h) in
    record { first_type = t; second_type = u; first = i; second = j; first_from = f; second_from = k; is = two }

indices_of : (e : Expression) → From e indexed → IndicesOf e
indices_of e (origin.alone (origin.one_side (origin.unsigned (origin.product (origin.read (origin.read_name {x = a} h
    (origin.by_indices {x = i} {y = b} {t = t} f g (origin.by_index {x = j} {y = d} {t = u} k m n)))) origin.no_factors)
    origin.no_terms))) =
    after_two a b d e t u i j (x_alone a h) g m n f k

abbrev first_index : Expression → Expression
first_index (Read (designator line s (at_index t i others))) = i
first_index e = e

abbrev has_two : Expression → Bool
has_two (Read (designator line s (at_index t i (at_index u j others)))) = true
has_two e = false

no_swap : No (From (behind_x one (read y)) indexed)
no_swap h = let s = indices_of (behind_x one (read y)) h in no_one_in_y
    (subst (λ e. From e (alone (variable y))) (ap first_index s.is) s.first_from)

no_lost_index : No (From (Read (designator 1 x (at_index integer (read y) no_selectors))) indexed)
no_lost_index h = let s = indices_of (Read (designator 1 x (at_index integer (read y) no_selectors))) h in false≢true
    (sym (ap has_two s.is))

pub indices_are_kept : IndicesAreKept
indices_are_kept = (
  alone_read (origin.product (origin.read (origin.read_name (read_variable refl) (origin.by_indices {t = integer} (alone_read y_read) refl
      (origin.by_index {t = integer} (alone_read one_read) refl origin.no_more)))) origin.no_factors),
  no_swap,
  no_lost_index,
)

-- ---- statements

pub one_alone : From one (alone (number 1))
one_alone = alone_read one_read

true_alone : From (Boolean true) truth
true_alone = alone_read (origin.product origin.boolean origin.no_factors)

pub assigned : (s : Symbol) (e : Expression) (f : tree.Formula) → names_place view s ≡ true → From e f
    → FromStatement (assign s e) (assigning s f)
assigned s e f there h = statements.assignment (origin.written_name (written_variable there) origin.no_more) h

no_other_target : No (FromStatement (assign x (plus (read y) one)) (assigning y (two adding.Plus (variable x) (number 1))))
no_other_target (statements.assignment (origin.written_name h origin.no_more) value) = elim h [ ]

no_target_alone : No (FromStatement (assign x (plus (read y) one)) (assigning y (two adding.Plus (variable y) (number 1))))
no_target_alone (statements.assignment (origin.written_name h origin.no_more) value) = elim h [ ]

no_other_value : No (FromStatement (assign x one) (assigning x (alone (variable y))))
no_other_value (statements.assignment place value) = no_one_in_y value

no_assignment_lost : No (FromStatement Empty (assigning x (alone (number 1))))
no_assignment_lost h = elim h [ ]

pub assignments_are_kept : AssignmentsAreKept
assignments_are_kept = (
  assigned x (plus (read y) one) (two adding.Plus (variable y) (number 1)) refl
      (origin.alone (origin.one_side (origin.unsigned y_read (origin.one_term one_read origin.no_terms)))),
  no_other_target,
  no_target_alone,
  no_other_value,
  no_assignment_lost,
)

no_other_branches : No (FromStatement x_first (trees.conditional 1 truth (assigning y (alone (number 1)))
    (trees.otherwise (assigning x (alone (number 1))))))
no_other_branches (statements.conditional e (statements.assignment (origin.written_name h origin.no_more) value) b) = elim h [ ]

no_branch_invented : No (FromStatement x_first (trees.conditional 1 truth (assigning x (alone (number 1))) trees.nothing_otherwise))
no_branch_invented (statements.conditional e a b) = elim b [ ]

number_in : (e : Expression) (n : ℕ) → From e (alone (number n)) → Numeral (pos n) ≡ e
number_in e n (origin.alone (origin.one_side (origin.unsigned (origin.product origin.numeral origin.no_factors) origin.no_terms))) = refl

abbrev is_boolean : Expression → Bool
is_boolean (Boolean b) = true
is_boolean e = false

no_truth_in_one : No (From (Boolean true) (alone (number 1)))
no_truth_in_one h = false≢true (ap is_boolean (number_in (Boolean true) 1 h))

no_other_test : No (FromStatement x_first (trees.conditional 1 (alone (number 1)) (assigning x (alone (number 1)))
    (trees.otherwise (assigning y (alone (number 1))))))
no_other_test (statements.conditional e a b) = no_truth_in_one e

no_other_else : No (FromStatement x_first (trees.conditional 1 truth (assigning x (alone (number 1)))
    (trees.otherwise (assigning x (alone (number 1))))))
no_other_else (statements.conditional e a (statements.otherwise (statements.assignment (origin.written_name h origin.no_more) value))) =
    elim h [ ]

no_statement_lost : No (FromStatement (Sequence (assign x one) Empty)
    (trees.compound 1 (trees.block 1 (assigning x (alone (number 1)))
    (trees.more_statements (assigning y (alone (number 1))) trees.no_more_statements))))
no_statement_lost (statements.compound (statements.block a b)) = elim b [ ]

pub branches_are_kept : BranchesAreKept
branches_are_kept = (
  statements.conditional true_alone (assigned x one (alone (number 1)) refl one_alone)
      (statements.otherwise (assigned y one (alone (number 1)) refl one_alone)),
  no_other_branches,
  no_branch_invented,
  no_other_test,
  no_other_else,
  no_statement_lost,
)

no_invariant_lost : No (FromStatement (While 1 None (Boolean true) (assign x one))
    (trees.repetition 1 (Some truth) (trees.while_loop 1 truth (assigning x (alone (number 1))))))
no_invariant_lost (statements.while i e a) = elim i [ ]

no_other_loop_test : No (FromStatement (While 1 None (Boolean true) (assign x one))
    (trees.repetition 1 None (trees.while_loop 1 (alone (number 1)) (assigning x (alone (number 1))))))
no_other_loop_test (statements.while i e a) = no_truth_in_one e

no_other_loop : No (FromStatement (While 1 None (Boolean true) (assign x one))
    (trees.repetition 1 None (trees.while_loop 1 truth (assigning y (alone (number 1))))))
no_other_loop (statements.while i e (statements.assignment (origin.written_name h origin.no_more) value)) = elim h [ ]

-- an unsigned numeral is its number
pub numeral_is : (v : View) (z : ℤ) (n : ℕ) → statements.ConstantFrom v z (record { line = 1; sign = None; value = scalar.Number n })
    → pos n ≡ z
numeral_is v z n (statements.unsigned statements.number) = refl

no_other_label : No (FromStatement (Case 1 (read x) (arm (pos 4 ∷ []) (assign x one) no_arms))
    (trees.selection 1 (alone (variable x)) (labelled 3 (assigning x (alone (number 1)))) trees.no_more_arms))
no_other_label (statements.selection e (statements.labelled (statements.one_constant h statements.no_constants) a statements.no_more)) =
    false≢true (ap (λ (q : ℤ). int_eq q (pos 4)) (numeral_is view (pos 4) 3 h))

no_other_selector : No (FromStatement (Case 1 (read y) (arm (pos 3 ∷ []) (assign x one) no_arms))
    (trees.selection 1 (alone (variable x)) (labelled 3 (assigning x (alone (number 1)))) trees.no_more_arms))
no_other_selector (statements.selection (origin.alone (origin.one_side (origin.unsigned h origin.no_terms))) arms) = no_y_in_x h

no_other_arm : No (FromStatement (Case 1 (read x) (arm (pos 3 ∷ []) (assign y one) no_arms))
    (trees.selection 1 (alone (variable x)) (labelled 3 (assigning x (alone (number 1)))) trees.no_more_arms))
no_other_arm (statements.selection e (statements.labelled cs (statements.assignment (origin.written_name h origin.no_more) value)
    statements.no_more)) = elim h [ ]

no_arm_lost : No (FromStatement (Case 1 (read x) no_arms)
    (trees.selection 1 (alone (variable x)) (labelled 3 (assigning x (alone (number 1)))) trees.no_more_arms))
no_arm_lost (statements.selection e h) = elim h [ ]

pub loops_and_arms_are_kept : LoopsAndArmsAreKept
loops_and_arms_are_kept = (
  statements.while not_there true_alone (assigned x one (alone (number 1)) refl one_alone),
  no_invariant_lost,
  no_other_loop_test,
  no_other_loop,
  statements.selection (alone_read x_read) (statements.labelled (statements.one_constant (statements.unsigned statements.number)
      statements.no_constants) (assigned x one (alone (number 1)) refl one_alone) statements.no_more),
  no_other_label,
  no_other_selector,
  no_other_arm,
  no_arm_lost,
)
