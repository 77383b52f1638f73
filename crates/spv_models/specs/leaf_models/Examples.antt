-- A small condition, a leaf of a search over it, and its table: x < y, and q or y < x, give F(y) < F(x) or D(x < y) = D(not q).
use Rattle.std.specs.Prelude.{ℕ, Bool, true, false, List, [], ◌∷◌, ◌++◌, pos, nat_eq, if◌then◌else◌}
use Rattle.spv_whole.specs.Fraction.{Fraction, whole}
use Rattle.spv_frac.specs.rational.Rational as rational
use Rattle.spv_frac.specs.rational.Rational.{Rational}
use Rattle.spv_logic.specs.declared.names.names.Symbol.{Symbol}
use Rattle.spv_logic.specs.declared.types.Sort.TheVariants as sort
use Rattle.spv_logic.specs.declared.types.Shape.{Shape}
use Rattle.spv_logic.specs.declared.types.Decl.{Decl}
use Rattle.spv_logic.specs.declared.operators.Head.TheVariants.{Var, App, And, Or}
use Rattle.spv_logic.specs.Terms.{Term, term, no_terms, terms, term_eq}
use Rattle.spv_logic.specs.Formulas.{negation, equation, below}
use Rattle.spv_logic.specs.Conditions.{Sequent}
use Rattle.spv_atoms.specs.Tables.{assigned}
use Rattle.spv_models.specs.leaf_models.Atoms.{atoms, questions}
use Rattle.spv_models.specs.leaf_models.Leaves.{Leaf, IsLeaf, truth_term}
use Rattle.spv_models.specs.leaf_models.Tables.{formulas_of, table}

abbrev symbol : ℕ → Symbol
symbol n = record { 0 = n }

abbrev pub no_shapes : List Shape
no_shapes = []

-- F takes a whole number and gives one; D takes a truth value and gives a list
abbrev pub decls : List Decl
decls = record { name = symbol 10; args = sort.Int ∷ []; result = sort.Int } ∷ record { name = symbol 11; args = sort.Bool ∷ []; result = sort.List } ∷ []

abbrev pub x : Term
x = term (Var (symbol 0) sort.Int 0) no_terms

abbrev pub y : Term
y = term (Var (symbol 1) sort.Int 0) no_terms

abbrev pub q : Term
q = term (Var (symbol 2) sort.Bool 0) no_terms

abbrev pub f_of : Term → Term
f_of t = term (App (symbol 10)) (terms t no_terms)

abbrev pub d_of : Term → Term
d_of t = term (App (symbol 11)) (terms t no_terms)

abbrev pub numbers_fall : Term
numbers_fall = below (f_of y) (f_of x)

-- equations of two applications of F, which stand in no formula: the one that comes first is on the left
abbrev pub arguments_equal : Term
arguments_equal = equation y x

abbrev pub numbers_equal : Term
numbers_equal = equation (f_of y) (f_of x)

abbrev pub lists_equal : Term
lists_equal = equation (d_of (below x y)) (d_of (negation q))

abbrev either : Term → Term → Term
either s t = term Or (terms s (terms t no_terms))

abbrev pub condition : Sequent
condition = record { given = term And (terms (below x y) (terms (either q (below y x)) no_terms)) ∷ []; goal = either numbers_fall lists_equal }

-- ---- the leaf

-- what is true and what is false, but for the equation of F's arguments
abbrev known : List (Term × Bool)
known = (below x y, true) ∷ (q, true) ∷ (below y x, false) ∷ (numbers_fall, false) ∷ (lists_equal, false) ∷ (negation q, false) ∷ (numbers_equal, false) ∷ []

-- the number of each class; every other term has one more
abbrev pub class_in : List (Term × ℕ) → Term → ℕ
class_in [] t = 8
class_in (c ∷ classes) t = if term_eq c.0 t then c.1 else class_in classes t

abbrev pub classes : List (Term × ℕ)
classes =
    (truth_term true, 0) ∷ (below x y, 0) ∷ (q, 0) ∷ (truth_term false, 1) ∷ (below y x, 1) ∷ (numbers_fall, 1) ∷ (lists_equal, 1) ∷ (negation q, 1) ∷ (arguments_equal, 1) ∷ (numbers_equal, 1)
    ∷ (x, 2) ∷ (y, 3) ∷ (f_of x, 4) ∷ (f_of y, 5) ∷ (d_of (below x y), 6) ∷ (d_of (negation q), 7) ∷ []

abbrev point_in : List (Term × Rational) → Term → Rational
point_in [] t = rational.whole (pos 0)
point_in (p ∷ points) t = if term_eq p.0 t then p.1 else point_in points t

abbrev pub leaf_of : List (Term × Bool) → List (Term × Rational) → Leaf
leaf_of known points = record { given = assigned known; same = λ s t. nat_eq (class_in classes s) (class_in classes t); point = point_in points }

-- y and F(y) are 1, all other numbers 0
abbrev pub leaf : Leaf
leaf = leaf_of ((arguments_equal, false) ∷ known) ((y, rational.whole (pos 1)) ∷ (f_of y, rational.whole (pos 1)) ∷ [])

-- the same without a truth of the equation of F's arguments
abbrev pub without_equation : Leaf
without_equation = leaf_of known ((y, rational.whole (pos 1)) ∷ (f_of y, rational.whole (pos 1)) ∷ [])

-- the same with F(y) at 0, as F(x) is
abbrev pub without_order : Leaf
without_order = leaf_of ((arguments_equal, false) ∷ known) ((y, rational.whole (pos 1)) ∷ [])

-- ---- what is found

abbrev pub its_atoms : List Term
its_atoms = atoms no_shapes decls (formulas_of condition)

abbrev pub expected_atoms : List Term
expected_atoms = below x y ∷ q ∷ below y x ∷ numbers_fall ∷ lists_equal ∷ arguments_equal ∷ numbers_equal ∷ []

abbrev pub its_questions : List Term
its_questions = questions no_shapes decls (formulas_of condition)

-- D's argument is a connective
abbrev pub expected_questions : List Term
expected_questions = expected_atoms ++ negation q ∷ []

abbrev pub its_table : List (Term × Fraction)
its_table = table no_shapes decls (formulas_of condition) leaf

-- the applications of D have the numbers of their places among the subterms
abbrev pub expected_table : List (Term × Fraction)
expected_table =
    (x, whole (pos 0)) ∷ (y, whole (pos 1)) ∷ (q, whole (pos 1)) ∷ (f_of y, whole (pos 1)) ∷ (f_of x, whole (pos 0)) ∷ (d_of (below x y), whole (pos 10)) ∷ (d_of (negation q), whole (pos 12)) ∷ []

abbrev pub IsLeafHere : Leaf → Type 0
IsLeafHere l = IsLeaf no_shapes decls (formulas_of condition) l
