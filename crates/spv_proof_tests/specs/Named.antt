-- Terms, sequents and proofs of which the worked proofs are made.
use Rattle.std.specs.Prelude.{ℕ, Bool, List, [], ◌∷◌, Some, None, pos, slice_index_or}
use Rattle.spv_logic.specs.declared.conditions.TermId.{TermId}
use Rattle.spv_logic.specs.declared.types.Sort.TheVariants as sort
use Rattle.spv_logic.specs.declared.types.Decl.{Decl}
use Rattle.spv_logic.specs.declared.operators.Head.TheVariants as head
use Rattle.spv_logic.specs.Terms.{Term, term, no_terms, terms}
use Rattle.spv_logic.specs.Formulas.{equation}
use Rattle.spv_atoms.specs.declared.proofs.Step.{Step}
use Rattle.spv_atoms.specs.declared.proofs.ProofNode.{ProofNode}
use Rattle.spv_proof_rules.specs.Effects.{Question}
use Rattle.spv_proof_rules.specs.Accepted.{accepts}

abbrev pub number : ℕ → Term
number n = term (head.Num (pos n)) no_terms

abbrev pub x : Term
x = term (head.Var (record { 0 = 0 }) sort.Int 0) no_terms

abbrev pub y : Term
y = term (head.Var (record { 0 = 1 }) sort.Int 0) no_terms

abbrev pub z : Term
z = term (head.Var (record { 0 = 2 }) sort.Int 0) no_terms

abbrev pub p : Term
p = term (head.Var (record { 0 = 3 }) sort.Bool 0) no_terms

abbrev pub q : Term
q = term (head.Var (record { 0 = 4 }) sort.Bool 0) no_terms

abbrev pub both : Term
both = term head.And (terms p (terms q no_terms))

abbrev pub twice : Term
twice = term head.And (terms p (terms p no_terms))

-- the symbol F, of two whole numbers
abbrev f_is : Decl
f_is = record { name = record { 0 = 7 }; args = sort.Int ∷ sort.Int ∷ []; result = sort.Int }

abbrev pub f_of : Term → Term → Term
f_of a b = term (head.App (record { 0 = 7 })) (terms a (terms b no_terms))

abbrev pub same : Term
same = equation x y

abbrev pub same_or_q : Term
same_or_q = term head.Or (terms same (terms q no_terms))

abbrev pub always : Term
always = term head.True no_terms

abbrev pub never : Term
never = term head.False no_terms

-- how the worked proofs name terms
abbrev pub the_x : TermId
the_x = record { 0 = 0 }

abbrev pub the_y : TermId
the_y = record { 0 = 1 }

abbrev pub the_zero : TermId
the_zero = record { 0 = 2 }

abbrev pub the_one : TermId
the_one = record { 0 = 3 }

abbrev pub the_p : TermId
the_p = record { 0 = 4 }

abbrev pub the_q : TermId
the_q = record { 0 = 5 }

abbrev pub the_both : TermId
the_both = record { 0 = 6 }

abbrev pub the_twice : TermId
the_twice = record { 0 = 7 }

abbrev pub f_of_x : TermId
f_of_x = record { 0 = 8 }

abbrev pub f_of_y : TermId
f_of_y = record { 0 = 9 }

abbrev pub the_same : TermId
the_same = record { 0 = 10 }

abbrev pub the_same_or_q : TermId
the_same_or_q = record { 0 = 11 }

abbrev pub the_always : TermId
the_always = record { 0 = 12 }

abbrev pub the_truths_agree : TermId
the_truths_agree = record { 0 = 13 }

abbrev named : List Term
named = x ∷ y ∷ number 0 ∷ number 1 ∷ p ∷ q ∷ both ∷ twice ∷ f_of x (number 1) ∷ f_of y (number 1) ∷ same ∷ same_or_q ∷ always ∷ equation p q ∷ []

abbrev pub asks : List Term → Term → Question
asks given goal = record {
  shapes = [];
  decls = f_is ∷ [];
  at = λ t. slice_index_or named t.0 x;
  sequent = record { given = given; goal = goal };
  rules = [];
}

-- a node without cases
abbrev pub node : List Step → ProofNode
node steps = record { steps = steps; split = None }

-- a node with cases at these places
abbrev pub split_by : List Step → TermId → List ℕ → ProofNode
split_by steps atom parts = record { steps = steps; split = Some (record { atom = atom; parts = parts }) }

-- whether steps alone show a goal
abbrev pub shows : List Term → Term → List Step → Bool
shows given goal steps = accepts (asks given goal) (node steps ∷ [])
