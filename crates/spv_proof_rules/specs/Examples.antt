-- Worked proofs: some that are accepted, and the same with one thing wrong, which are not.
use Rattle.std.specs.Prelude.{ℕ, Bool, true, List, [], ◌∷◌, Some, None, pos, negsuc, slice_index_or}
use Rattle.spv_whole.specs.Fraction.{Fraction, whole}
use Rattle.spv_logic.specs.declared.conditions.TermId.{TermId}
use Rattle.spv_logic.specs.declared.types.Sort.TheVariants as sort
use Rattle.spv_logic.specs.declared.types.Decl.{Decl}
use Rattle.spv_logic.specs.declared.operators.Head.TheVariants as head
use Rattle.spv_logic.specs.Terms.{Term, term, no_terms, terms}
use Rattle.spv_logic.specs.Formulas.{negation, equation, below}
use Rattle.spv_atoms.specs.declared.proofs.Relation.TheVariants.{AtMost, Equal}
use Rattle.spv_atoms.specs.declared.proofs.Stated.TheVariants.{Is}
use Rattle.spv_atoms.specs.declared.proofs.Step.{Step}
use Rattle.spv_atoms.specs.declared.proofs.Step.TheVariants.{Given, Refl, Cong, Linear, Eval, Contra}
use Rattle.spv_atoms.specs.declared.proofs.ProofNode.{ProofNode}
use Rattle.spv_proof_rules.specs.Effects.{Question, at_most}
use Rattle.spv_proof_rules.specs.Accepted.{accepts}

abbrev id : ℕ → TermId
id n = record { 0 = n }

-- a variable of this number and of sort Int
abbrev variable : ℕ → Term
variable n = term (head.Var (record { 0 = n }) sort.Int 0) no_terms

abbrev x : Term
x = variable 0

abbrev y : Term
y = variable 1

abbrev one : Term
one = term (head.Num (pos 1)) no_terms

abbrev x_and_one : Term
x_and_one = term head.Add (terms x (terms one no_terms))

-- the symbol F, of two whole numbers
abbrev f_is : Decl
f_is = record { name = record { 0 = 7 }; args = sort.Int ∷ sort.Int ∷ []; result = sort.Int }

abbrev f_of : Term → Term → Term
f_of a b = term (head.App (record { 0 = 7 })) (terms a (terms b no_terms))

abbrev either : Term
either = term head.Or (terms (below x y) (terms (below y x) no_terms))

-- the terms that the examples name, by their ids from 0
abbrev named : List Term
named = x ∷ y ∷ one ∷ term (head.Num (pos 0)) no_terms ∷ f_of x one ∷ f_of y one ∷ equation x y ∷ term head.False no_terms ∷ []

-- a sequent over them
abbrev asks : List Term → Term → Question
asks given goal = record {
  shapes = [];
  decls = f_is ∷ [];
  at = λ t. slice_index_or named t.0 x;
  sequent = record { given = given; goal = goal };
  rules = [];
}

-- a node that a step ends
abbrev node : List Step → ProofNode
node steps = record { steps = steps; split = None }

-- a node with cases at these places
abbrev split_by : List Step → TermId → List ℕ → ProofNode
split_by steps atom parts = record { steps = steps; split = Some (record { atom = atom; parts = parts }) }

-- a multiplier and a fact's number
abbrev times_fact : ℕ → ℕ → Fraction × ℕ
times_fact m k = (whole (pos m), k)

-- ---- nothing lies between x and x + 1

abbrev gap_steps : List (Fraction × ℕ) → List ProofNode
gap_steps multiples = node (Given 1 ∷ Given 2 ∷ Linear (AtMost (id 2) (id 3)) multiples [] ∷ Contra 3 None ∷ []) ∷ []

abbrev pub gap : Bool
gap = accepts (asks (below x y ∷ below y x_and_one ∷ []) (equation x y)) (gap_steps (times_fact 1 1 ∷ times_fact 1 2 ∷ []))

-- from x <= y the sum is 0
abbrev pub no_gap : Bool
no_gap = accepts (asks (at_most x y ∷ below y x_and_one ∷ []) (equation x y)) (gap_steps (times_fact 1 1 ∷ times_fact 1 2 ∷ []))

-- with the multiplier -1 the sum would be 1
abbrev pub negative_gap : Bool
negative_gap = accepts (asks (below y x ∷ below y x_and_one ∷ []) (equation x y)) (gap_steps (times_fact 1 1 ∷ (whole (negsuc 0), 2) ∷ []))

-- ---- an equality by its two lists

abbrev both_ways : List (Fraction × ℕ) → Bool
both_ways second = accepts (asks (at_most x y ∷ at_most y x ∷ []) (equation x y))
    (node (Given 1 ∷ Given 2 ∷ Linear (Equal (id 0) (id 1)) (times_fact 1 1 ∷ times_fact 1 0 ∷ []) second ∷ Given 0 ∷ Contra 3 (Some 4) ∷ []) ∷ [])

abbrev pub two_lists : Bool
two_lists = both_ways (times_fact 1 2 ∷ times_fact 1 0 ∷ [])

abbrev pub one_list : Bool
one_list = both_ways []

-- ---- congruence

abbrev congruence : List ℕ → Bool
congruence ks = accepts (asks (equation x y ∷ []) (equation (f_of x one) (f_of y one)))
    (node (Given 1 ∷ Refl (id 2) ∷ Cong (id 4) (id 5) ks ∷ Given 0 ∷ Contra 3 (Some 4) ∷ []) ∷ [])

abbrev pub all_arguments : Bool
all_arguments = congruence (1 ∷ 2 ∷ [])

abbrev pub one_argument : Bool
one_argument = congruence (1 ∷ [])

-- ---- cases of an equation of whole numbers

abbrev cases : List ProofNode → Bool
cases nodes = accepts (asks (negation (equation x y) ∷ []) either) nodes

abbrev opening : List ℕ → ProofNode
opening parts = split_by (Given 1 ∷ Given 0 ∷ []) (id 6) parts

abbrev first_case : ProofNode
first_case = node (Contra 1 (Some 3) ∷ [])

abbrev other_case : ProofNode
other_case = node (Eval (Is (id 7) true) (2 ∷ 3 ∷ []) ∷ Contra 4 None ∷ [])

abbrev pub three_cases : Bool
three_cases = cases (opening (1 ∷ 2 ∷ 3 ∷ []) ∷ first_case ∷ other_case ∷ other_case ∷ [])

abbrev pub two_cases : Bool
two_cases = cases (opening (1 ∷ 2 ∷ []) ∷ first_case ∷ other_case ∷ [])

-- the last case cites fact 4 of the one before
abbrev pub a_sisters_fact : Bool
a_sisters_fact = cases (opening (1 ∷ 2 ∷ 3 ∷ []) ∷ first_case ∷ other_case ∷ node (Contra 4 None ∷ []) ∷ [])

-- a case that nothing closes
abbrev pub an_open_case : Bool
an_open_case = cases (opening (1 ∷ 2 ∷ 3 ∷ []) ∷ first_case ∷ other_case ∷ [])

-- the value of a fact that is not cited
abbrev pub a_value_from_nowhere : Bool
a_value_from_nowhere = cases (opening (1 ∷ 2 ∷ 3 ∷ []) ∷ first_case ∷ node (Eval (Is (id 7) true) (2 ∷ []) ∷ Contra 4 None ∷ []) ∷ other_case ∷ [])
