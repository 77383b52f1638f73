-- Small trees, and what comes from them and what does not.
use Rattle.std.specs.Prelude.{ℕ, true, [], ◌∷◌, Some, None, pos, negsuc}
use Rattle.spv_logic.specs.declared.names.names.Symbol.{Symbol}
use Rattle.spv_logic.specs.declared.types.TypeId.{TypeId}
use Rattle.spv_tree.specs.declared.syntax.names.Name.{Name}
use Rattle.spv_tree.specs.declared.syntax.names.Scalar.TheVariants as scalar
use Rattle.spv_tree.specs.declared.syntax.operators.PlusOrMinus.TheVariants as sign
use Rattle.spv_tree.specs.declared.syntax.operators.Comparison.{Comparison as ComparisonSign}
use Rattle.spv_tree.specs.declared.syntax.operators.Comparison.TheVariants as comparing
use Rattle.spv_tree.specs.declared.syntax.operators.Adding.{Adding}
use Rattle.spv_tree.specs.declared.syntax.operators.Adding.TheVariants as adding
use Rattle.spv_tree.specs.declared.syntax.operators.Multiplying.TheVariants as multiplying
use Rattle.spv_tree.specs.syntax.Formulas as tree
use Rattle.spv_tree.specs.syntax.Statements as trees
use Rattle.spv_program.specs.declared.operators.Arithmetic.TheVariants as arithmetic
use Rattle.spv_program.specs.declared.operators.Comparison.TheVariants as comparison
use Rattle.spv_program.specs.declared.types.TypeForm.TheVariants as form
use Rattle.spv_program.specs.Expressions.{Expression, Numeral, Boolean, Read, Negative, Negated, Calculated, Compared, designator, no_selectors, at_index}
use Rattle.spv_program.specs.Statements.{Statement, Assign, Empty, Sequence, If, Case, While, arm, no_arms}
use Rattle.spv_program.specs.Programs.{Program}
use Rattle.spv_typing.specs.Known.{KnownNames}
use Rattle.spv_type_soundness.specs.faithfulness.Names.{View, at_top}
use Rattle.spv_type_soundness.specs.faithfulness.Expressions.{ExpressionFrom}
use Rattle.spv_type_soundness.specs.faithfulness.Statements.{StatementFrom}

-- ---- a program with the integer variables x, y and z and the constant c, which is 7

abbrev pub named : ℕ → Symbol
named n = record { 0 = n }

abbrev pub x : Symbol
x = named 10

abbrev pub y : Symbol
y = named 11

abbrev pub c : Symbol
c = named 12

abbrev pub start : KnownNames
start = record { integer = named 0; boolean = named 1; list = named 2; functions = []; reserved = [] }

abbrev pub integer : TypeId
integer = record { 0 = 0 }

abbrev pub program : Program
program = record {
  forms = form.Integer ∷ form.Boolean ∷ [];
  titles = Some (named 0) ∷ Some (named 1) ∷ [];
  types = [];
  constants = (c, pos 7) ∷ [];
  variables = (x, integer) ∷ (y, integer) ∷ [];
  symbols = [];
  routines = [];
  main = record { entry = None; exit = None; body = Empty };
}

abbrev pub view : View
view = at_top start program

-- ---- trees, all on line 1

abbrev pub name : Symbol → Name
name s = record { line = 1; symbol = s }

abbrev pub place : Symbol → tree.Designator
place s = tree.designator 1 (name s) tree.no_selectors

abbrev pub factor : Symbol → tree.Factor
factor s = tree.place 1 (place s)

abbrev pub variable : Symbol → tree.Term
variable s = tree.term 1 (factor s) tree.no_more_factors

abbrev pub number : ℕ → tree.Term
number n = tree.term 1 (tree.number 1 n) tree.no_more_factors

abbrev pub whole : tree.Simple → tree.Formula
whole s = tree.formula 1 (tree.relation 1 s tree.no_right_side) tree.no_conclusion

abbrev pub alone : tree.Term → tree.Formula
alone t = whole (tree.simple 1 None t tree.no_more_terms)

-- `a + b`, `a - b`
abbrev pub two : Adding → tree.Term → tree.Term → tree.Formula
two o a b = whole (tree.simple 1 None a (tree.more_terms o b tree.no_more_terms))

-- `a - b - c`
abbrev pub less_less : tree.Term → tree.Term → tree.Term → tree.Formula
less_less a b d = whole (tree.simple 1 None a (tree.more_terms adding.Minus b (tree.more_terms adding.Minus d tree.no_more_terms)))

-- ---- expressions

abbrev pub read : Symbol → Expression
read s = Read (designator 1 s no_selectors)

abbrev pub plus : Expression → Expression → Expression
plus = Calculated arithmetic.Plus

abbrev pub minus : Expression → Expression → Expression
minus = Calculated arithmetic.Minus

abbrev pub one : Expression
one = Numeral (pos 1)

abbrev pub From : Expression → tree.Formula → Type 0
From = ExpressionFrom view

abbrev pub No : Type 0 → Type 0
No A = A → ⊥

-- ---- sums and relations

-- `y + 1` is the sum of the two and nothing else
abbrev pub SumsAreKept : Type 0
SumsAreKept =
    From (plus (read y) one) (two adding.Plus (variable y) (number 1))
    × No (From (plus (read x) one) (two adding.Plus (variable y) (number 1)))
    × No (From (plus (read y) (read x)) (two adding.Plus (variable y) (number 1)))
    × No (From (read y) (two adding.Plus (variable y) (number 1)))
    × No (From (plus (read y) one) (whole (tree.simple 1 None (variable y) tree.no_more_terms)))
    × No (From (minus (read y) one) (two adding.Plus (variable y) (number 1)))
    × No (From (minus (read y) (read x)) (two adding.Minus (variable x) (variable y)))

-- `x - y - 1` is read from the left
abbrev pub FromTheLeft : Type 0
FromTheLeft =
    From (minus (minus (read x) (read y)) one) (less_less (variable x) (variable y) (number 1))
    × No (From (minus (read x) (minus (read y) one)) (less_less (variable x) (variable y) (number 1)))

abbrev pub related : ComparisonSign → tree.Term → tree.Term → tree.Formula
related o a b = tree.formula 1 (tree.relation 1 (tree.simple 1 None a tree.no_more_terms)
    (tree.compared o (tree.simple 1 None b tree.no_more_terms))) tree.no_conclusion

-- `x > y` is neither `x < y` nor `y > x`
abbrev pub RelationsAreKept : Type 0
RelationsAreKept =
    From (Compared comparison.Greater (read x) (read y)) (related comparing.Greater (variable x) (variable y))
    × No (From (Compared comparison.Less (read x) (read y)) (related comparing.Greater (variable x) (variable y)))
    × No (From (Compared comparison.Greater (read y) (read x)) (related comparing.Greater (variable x) (variable y)))
    × No (From (Compared comparison.Greater (read x) one) (related comparing.Greater (variable x) (variable y)))

-- `x * y`
abbrev pub product : tree.Formula
product = whole (tree.simple 1 None (tree.term 1 (factor x) (tree.more_factors multiplying.Times (factor y) tree.no_more_factors))
    tree.no_more_terms)

-- `NOT x`
abbrev pub opposite : tree.Formula
opposite = whole (tree.simple 1 None (tree.term 1 (tree.negation 1 (factor x)) tree.no_more_factors) tree.no_more_terms)

abbrev pub times : Expression → Expression → Expression
times = Calculated arithmetic.Times

abbrev pub FactorsAreKept : Type 0
FactorsAreKept =
    From (times (read x) (read y)) product
    × No (From (times (read y) (read y)) product)
    × No (From (times (read x) (read x)) product)
    × No (From (read x) product)
    × From (Negated (read x)) opposite
    × No (From (Negated (read y)) opposite)
    × No (From (read x) opposite)

-- ---- numbers, constants, brackets, indices

abbrev pub minus_one : tree.Formula
minus_one = whole (tree.simple 1 (Some sign.Minus) (number 1) tree.no_more_terms)

abbrev pub in_brackets : tree.Term → tree.Term
in_brackets t = tree.term 1 (tree.bracketed 1 (whole (tree.simple 1 None t tree.no_more_terms))) tree.no_more_factors

-- `-1` is a numeral, `-(1)` is not; c is 7
abbrev pub NumbersAreKept : Type 0
NumbersAreKept =
    From (Numeral (negsuc 0)) minus_one
    × No (From (Negative one) minus_one)
    × No (From one minus_one)
    × From (Negative one) (whole (tree.simple 1 (Some sign.Minus) (in_brackets (number 1)) tree.no_more_terms))
    × No (From (read x) (alone (in_brackets (variable y))))
    × From (Numeral (pos 7)) (whole (tree.simple 1 None (variable c) tree.no_more_terms))
    × No (From (Numeral (pos 8)) (whole (tree.simple 1 None (variable c) tree.no_more_terms)))
    × No (From (read c) (whole (tree.simple 1 None (variable c) tree.no_more_terms)))

-- `x[y, 1]`
abbrev pub indexed : tree.Formula
indexed = alone (tree.term 1 (tree.place 1 (tree.designator 1 (name x)
    (tree.selectors (tree.index 1 (alone (variable y)) (tree.more_formulas (alone (number 1)) tree.no_more_formulas)) tree.no_selectors)))
    tree.no_more_factors)

abbrev pub behind_x : Expression → Expression → Expression
behind_x i j = Read (designator 1 x (at_index integer i (at_index integer j no_selectors)))

-- it is `x[y][1]`
abbrev pub IndicesAreKept : Type 0
IndicesAreKept =
    From (behind_x (read y) one) indexed
    × No (From (behind_x one (read y)) indexed)
    × No (From (Read (designator 1 x (at_index integer (read y) no_selectors))) indexed)

-- ---- statements

abbrev pub FromStatement : Statement → trees.Statement → Type 0
FromStatement = StatementFrom view view

abbrev pub assign : Symbol → Expression → Statement
assign s e = Assign (designator 1 s no_selectors) e

abbrev pub assigning : Symbol → tree.Formula → trees.Statement
assigning s f = trees.assignment 1 (place s) f

-- `x := y + 1` is not `y := x + 1`
abbrev pub AssignmentsAreKept : Type 0
AssignmentsAreKept =
    FromStatement (assign x (plus (read y) one)) (assigning x (two adding.Plus (variable y) (number 1)))
    × No (FromStatement (assign x (plus (read y) one)) (assigning y (two adding.Plus (variable x) (number 1))))
    × No (FromStatement (assign x (plus (read y) one)) (assigning y (two adding.Plus (variable y) (number 1))))
    × No (FromStatement (assign x one) (assigning x (alone (variable y))))
    × No (FromStatement Empty (assigning x (alone (number 1))))

abbrev pub truth : tree.Formula
truth = alone (tree.term 1 (tree.truth 1 true) tree.no_more_factors)

abbrev pub x_first : Statement
x_first = If 1 (Boolean true) (assign x one) (assign y one)

-- the branches of an IF, and the statements of a block
abbrev pub BranchesAreKept : Type 0
BranchesAreKept =
    FromStatement x_first (trees.conditional 1 truth (assigning x (alone (number 1))) (trees.otherwise (assigning y (alone (number 1)))))
    × No (FromStatement x_first (trees.conditional 1 truth (assigning y (alone (number 1)))
    (trees.otherwise (assigning x (alone (number 1))))))
    × No (FromStatement x_first (trees.conditional 1 truth (assigning x (alone (number 1))) trees.nothing_otherwise))
    × No (FromStatement x_first (trees.conditional 1 (alone (number 1)) (assigning x (alone (number 1)))
    (trees.otherwise (assigning y (alone (number 1))))))
    × No (FromStatement x_first (trees.conditional 1 truth (assigning x (alone (number 1)))
    (trees.otherwise (assigning x (alone (number 1))))))
    × No (FromStatement (Sequence (assign x one) Empty)
    (trees.compound 1 (trees.block 1 (assigning x (alone (number 1)))
    (trees.more_statements (assigning y (alone (number 1))) trees.no_more_statements))))

abbrev pub labelled : ℕ → trees.Statement → trees.Arm
labelled n s = trees.arm 1 (record { first = record { line = 1; sign = None; value = scalar.Number n }; more = [] }) s

-- an INVARIANT, and the arms of a CASE
abbrev pub LoopsAndArmsAreKept : Type 0
LoopsAndArmsAreKept =
    FromStatement (While 1 None (Boolean true) (assign x one))
    (trees.repetition 1 None (trees.while_loop 1 truth (assigning x (alone (number 1)))))
    × No (FromStatement (While 1 None (Boolean true) (assign x one))
    (trees.repetition 1 (Some truth) (trees.while_loop 1 truth (assigning x (alone (number 1))))))
    × No (FromStatement (While 1 None (Boolean true) (assign x one))
    (trees.repetition 1 None (trees.while_loop 1 (alone (number 1)) (assigning x (alone (number 1))))))
    × No (FromStatement (While 1 None (Boolean true) (assign x one))
    (trees.repetition 1 None (trees.while_loop 1 truth (assigning y (alone (number 1))))))
    × FromStatement (Case 1 (read x) (arm (pos 3 ∷ []) (assign x one) no_arms))
    (trees.selection 1 (alone (variable x)) (labelled 3 (assigning x (alone (number 1)))) trees.no_more_arms)
    × No (FromStatement (Case 1 (read x) (arm (pos 4 ∷ []) (assign x one) no_arms))
    (trees.selection 1 (alone (variable x)) (labelled 3 (assigning x (alone (number 1)))) trees.no_more_arms))
    × No (FromStatement (Case 1 (read y) (arm (pos 3 ∷ []) (assign x one) no_arms))
    (trees.selection 1 (alone (variable x)) (labelled 3 (assigning x (alone (number 1)))) trees.no_more_arms))
    × No (FromStatement (Case 1 (read x) (arm (pos 3 ∷ []) (assign y one) no_arms))
    (trees.selection 1 (alone (variable x)) (labelled 3 (assigning x (alone (number 1)))) trees.no_more_arms))
    × No (FromStatement (Case 1 (read x) no_arms) (trees.selection 1 (alone (variable x)) (labelled 3 (assigning x (alone (number 1))))
    trees.no_more_arms))
