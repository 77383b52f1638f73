-- Small searches: trees that are kept, and others that lack one thing each.
use Rattle.std.specs.Prelude.{ℕ, Bool, List, [], ◌∷◌, Some, pos, slice_index_or}
use Rattle.spv_logic.specs.declared.names.names.Symbol.{Symbol}
use Rattle.spv_logic.specs.declared.conditions.TermId.{TermId}
use Rattle.spv_logic.specs.declared.types.Sort.TheVariants as sort
use Rattle.spv_logic.specs.declared.types.Decl.{Decl}
use Rattle.spv_logic.specs.declared.operators.Head.TheVariants.{Var, App, And, Or}
use Rattle.spv_logic.specs.Terms.{Term, term, no_terms, terms}
use Rattle.spv_logic.specs.Formulas.{negation, equation, below}
use Rattle.spv_atoms.specs.declared.proofs.Step.TheVariants.{Given, Cong, Contra}
use Rattle.spv_proof_rules.specs.Evaluation.{evaluates}
use Rattle.spv_proof_rules.specs.Effects.{Question, is_truth, at_most}
use Rattle.spv_models.specs.split_trees.Trees.{Tree, Trees, Open, Closed, Split, no_trees, trees}
use Rattle.spv_models.specs.split_trees.Paths.{atoms, facts, Known, numeral, IsLive}

abbrev symbol : ℕ → Symbol
symbol n = record { 0 = n }

abbrev id : ℕ → TermId
id n = record { 0 = n }

abbrev pub x : Term
x = term (Var (symbol 0) sort.Int 0) no_terms

abbrev pub y : Term
y = term (Var (symbol 1) sort.Int 0) no_terms

abbrev pub p : Term
p = term (Var (symbol 2) sort.Bool 0) no_terms

abbrev pub q : Term
q = term (Var (symbol 3) sort.Bool 0) no_terms

-- F takes a whole number and gives one; G takes a truth value and gives a whole number
abbrev pub decls : List Decl
decls = record { name = symbol 10; args = sort.Int ∷ []; result = sort.Int } ∷ record { name = symbol 11; args = sort.Bool ∷ []; result = sort.Int } ∷ []

abbrev pub f_of : Term → Term
f_of t = term (App (symbol 10)) (terms t no_terms)

abbrev pub numbers_equal : Term
numbers_equal = equation (f_of x) (f_of y)

abbrev pub either : Term
either = term Or (terms p (terms q no_terms))

abbrev pub both : Term
both = term And (terms p (terms q no_terms))

abbrev pub g_of : Term → Term
g_of t = term (App (symbol 11)) (terms t no_terms)

abbrev asks : List Term → Term → Question
asks given goal = record {
  shapes = [];
  decls = decls;
  at = λ t. slice_index_or (f_of x ∷ f_of y ∷ []) t.0 x;
  sequent = record { given = given; goal = goal };
  rules = [];
}

-- p or q is to give F(x) = F(y)
abbrev pub search : Question
search = asks (either ∷ []) numbers_equal

abbrev pub its_atoms : List Term
its_atoms = atoms search

-- the last one is that of the arguments of F
abbrev pub expected_atoms : List Term
expected_atoms = p ∷ q ∷ numbers_equal ∷ equation x y ∷ []

-- ---- trees

abbrev three : Tree → Tree → Tree → Trees
three a b c = trees a (trees b (trees c no_trees))

-- a split on x = y
abbrev split : Trees → Tree
split parts = Split (equation x y) parts

-- x = y is fact 1; then F(x) = F(y), which is the goal
abbrev by_congruence : Tree
by_congruence = Closed (Given 0 ∷ Cong (id 0) (id 1) (1 ∷ []) ∷ Contra 2 (Some 3) ∷ [])

-- where x = y the path is closed; x < y and y < x are open
abbrev pub one_split : Tree
one_split = split (three by_congruence Open Open)

-- the second case splits on x = y again
abbrev pub split_again : Tree
split_again = split (three by_congruence (split (three by_congruence Open Open)) Open)

-- the first case, in which F(x) and F(y) are joined, is not closed but splits on p
abbrev pub split_below_clash : Tree
split_below_clash = split (three (Split p (trees Open (trees Open no_trees))) Open Open)

-- an equation of whole numbers has three cases
abbrev pub two_parts : Tree
two_parts = split (trees by_congruence (trees Open no_trees))

-- x < y is no atom of the search
abbrev pub split_elsewhere : Tree
split_elsewhere = Split (below x y) (trees Open (trees Open no_trees))

-- steps that end no path
abbrev pub not_closed : Tree
not_closed = split (three (Closed (Given 0 ∷ [])) Open Open)

-- ---- orders

-- on the path x < y it is known that x = y is false; no evaluation adds that, since one that supposes x = y looks no further
abbrev pub OrderIsKnown : Type 0
OrderIsKnown = Known search (facts search (below x y ∷ [])) (negation (equation x y))

abbrev pub order_evaluates : Bool
order_evaluates = evaluates (is_truth search) (below x y ∷ []) (negation (equation x y))

-- ---- what bounds force

-- x <= y and y <= x are to give F(x) = F(y): x and y are shared, and so F(x) and F(y) are joined
abbrev pub forced : Question
forced = asks (at_most x y ∷ at_most y x ∷ []) numbers_equal

-- ---- arguments of sort Bool

-- p and q are to give G(p and q) = G(p or q): both arguments are questions, and known; as atoms alone are, nothing would join them
abbrev pub arguments : Question
arguments = asks (p ∷ q ∷ []) (equation (g_of both) (g_of either))

-- ---- one contradiction each

-- p and its negation are known: TRUE and FALSE are joined
abbrev pub both_truths : Question
both_truths = asks (p ∷ []) p

-- p and q is true and p is false: the truth of p and q is opposite to what p makes of it
abbrev pub opposite_truths : Question
opposite_truths = asks (both ∷ negation p ∷ []) q

-- x = 1, y = 2 and x = y join two numerals
abbrev pub two_numerals : Question
two_numerals = asks (equation x (numeral (pos 1)) ∷ equation y (numeral (pos 2)) ∷ equation x y ∷ []) q

-- no point meets x < y and y <= x
abbrev pub without_point : Question
without_point = asks (below x y ∷ at_most y x ∷ []) q

-- each point that meets F(x) < F(y) gives different values to these, which x = y joins
abbrev pub without_equal_values : Question
without_equal_values = asks (equation x y ∷ below (f_of x) (f_of y) ∷ []) q

-- a path without cases is live
abbrev pub IsLiveAtStart : Question → Type 0
IsLiveAtStart s = IsLive s (facts s [])
