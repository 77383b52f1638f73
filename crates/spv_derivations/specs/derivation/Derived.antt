-- What each derived entry needs, and which fact it adds.
use Rattle.std.specs.Prelude.{◌≡◌, ℕ, Bool, true, List, [], Some, ◌⊎◌}
use Rattle.spv_whole.specs.Fraction.{Fraction}
use Rattle.spv_logic.specs.declared.conditions.TermId.{TermId}
use Rattle.spv_logic.specs.declared.operators.Head.TheVariants as head
use Rattle.spv_logic.specs.Terms.{Term, term, no_terms}
use Rattle.spv_logic.specs.Formulas.{equation, below}
use Rattle.spv_term.specs.Arena.{Arena, tree}
use Rattle.spv_atoms.specs.Atoms as atoms
use Rattle.spv_atoms.specs.declared.proofs.Relation.{Relation}
use Rattle.spv_atoms.specs.declared.proofs.Relation.TheVariants.{AtMost, Equal}
use Rattle.spv_atoms.specs.declared.proofs.Stated.{Stated}
use Rattle.spv_proof_rules.specs.Sums.{refutes}
use Rattle.spv_proof_rules.specs.Evaluation.{evaluates}
use Rattle.spv_proof_rules.specs.Effects.{at_most, cited, congruent, stated}
use Rattle.spv_proof_rules.specs.Stand.{In, RelationIn, StatedIn}
use Rattle.spv_derivations.specs.declared.derivation.entries.Entry.{Entry}
use Rattle.spv_derivations.specs.derivation.Derivation.{any_sequent, asked, facts, fact_at}

abbrev pub is_number : Arena → Term → Bool
is_number a t = atoms.is_number a.shapes a.decls t

abbrev pub is_truth : Arena → Term → Bool
is_truth a t = atoms.is_truth a.shapes a.decls t

-- ---- congruence

-- two terms of one head, with the equations of their arguments in order
pub record IsCongruence (a : Arena) (es : List Entry) (t u : TermId) (ks : List ℕ) : Type 0 where
  pub left : In a t
  pub right : In a u
  pub shown : congruent (facts a es) (tree a t) (tree a u) ks ≡ true

-- ---- sums

-- the relation that a step states
abbrev pub relation_of : Arena → Relation → Term
relation_of a (AtMost s t) = at_most (tree a s) (tree a t)
relation_of a (Equal s t) = equation (tree a s) (tree a t)

-- whether these multiples of facts show a relation
abbrev pub Shows : Arena → List Entry → Relation → List (Fraction × ℕ) → List (Fraction × ℕ) → Type 0
Shows a es (AtMost s t) first second =
    (second ≡ []) × (refutes (is_number a) (facts a es) (tree a s) (tree a t) first ≡ true)
Shows a es (Equal s t) first second =
    (refutes (is_number a) (facts a es) (tree a s) (tree a t) first ≡ true) × (refutes (is_number a) (facts a es) (tree a t) (tree a s) second ≡ true)

abbrev pub AreNumbers : Arena → Relation → Type 0
AreNumbers a (AtMost s t) = (is_number a (tree a s) ≡ true) × (is_number a (tree a t) ≡ true)
AreNumbers a (Equal s t) = (is_number a (tree a s) ≡ true) × (is_number a (tree a t) ≡ true)

-- a relation of numbers that these multiples of facts show
pub record IsSum (a : Arena) (es : List Entry) (r : Relation) (first second : List (Fraction × ℕ)) : Type 0 where
  pub terms : RelationIn a r
  pub numbers : AreNumbers a r
  pub shown : Shows a es r first second

-- ---- evaluation

-- a formula that an evaluation states and cited facts give
pub record IsEvaluation (a : Arena) (es : List Entry) (claim : Stated) (ks : List ℕ) (t : Term) : Type 0 where
  pub terms : StatedIn a claim
  pub formula : stated (asked a any_sequent) claim ≡ Some t
  pub given : List Term
  pub are : cited (facts a es) ks ≡ Some given
  pub shown : evaluates (is_truth a) given t ≡ true

-- a term of sort Bool
pub record IsFormula (a : Arena) (p : TermId) : Type 0 where
  pub within : In a p
  pub truth : is_truth a (tree a p) ≡ true

-- the term TRUE, or the term FALSE
pub record IsTrueTerm (a : Arena) (t : TermId) : Type 0 where
  pub within : In a t
  pub is : tree a t ≡ term head.True no_terms

pub record IsFalseTerm (a : Arena) (t : TermId) : Type 0 where
  pub within : In a t
  pub is : tree a t ≡ term head.False no_terms

-- the fact of this number puts one side of an equation below the other
pub record IsApart (a : Arena) (es : List Entry) (p : TermId) (k : ℕ) : Type 0 where
  pub formula : IsFormula a p
  pub left : Term
  pub right : Term
  pub is : tree a p ≡ equation left right
  pub order : (fact_at a es k ≡ Some (below left right)) ⊎ (fact_at a es k ≡ Some (below right left))

-- the fact of this number is that TRUE and FALSE are equal, the one way round or the other
pub record IsTruthClash (a : Arena) (es : List Entry) (k : ℕ) : Type 0 where
  pub is : (fact_at a es k ≡ Some (equation (term head.True no_terms) (term head.False no_terms))) ⊎ (fact_at a es k ≡ Some (equation (term head.False no_terms) (term head.True no_terms)))
