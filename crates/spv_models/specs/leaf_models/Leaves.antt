-- A full leaf of a search: each atom has a truth, and nothing contradicts it.
use Rattle.std.specs.Prelude.{◌≡◌, Bool, true, false, ◌&&◌, ◌||◌, List, Option, Some, None, is_some}
use Rattle.spv_frac.specs.rational.Rational.{Rational}
use Rattle.spv_logic.specs.declared.types.Shape.{Shape}
use Rattle.spv_logic.specs.declared.types.Decl.{Decl}
use Rattle.spv_logic.specs.declared.operators.Head.{Head}
use Rattle.spv_logic.specs.declared.operators.Head.TheVariants.{True, False}
use Rattle.spv_logic.specs.Terms.{Term, Terms, term, no_terms, terms}
use Rattle.spv_logic.specs.Formulas.{equation, below}
use Rattle.spv_atoms.specs.Forms.{form}
use Rattle.spv_atoms.specs.Tables.{or_else, computed}
use Rattle.spv_atoms.specs.Atoms.{is_truth, is_number}
use Rattle.spv_term.specs.closure.Joined.{Joined}
use Rattle.spv_proof_rules.specs.Sums.{Reading, reading}
use Rattle.spv_proof_rules.specs.Evaluation.{clashes}
use Rattle.spv_tableau_rules.specs.constraints.Sayings.{literal}
use Rattle.spv_tableau_rules.specs.constraints.Values.{form_value, holds_at}
use Rattle.spv_models.specs.leaf_models.Subterms.{is_among, subterms, uncomputed}
use Rattle.spv_models.specs.leaf_models.Atoms.{atoms, questions}

-- what is known at a leaf: the truth of formulas that were told, which terms are the same, and the number of each part of a sum
pub record Leaf : Type 0 where
  pub given : Term → Option Bool
  pub same : Term → Term → Bool
  pub point : Term → Rational

-- the truth of a formula: its given one, else what its connectives make of those of its arguments
abbrev pub truth_at : (Term → Bool) → (Term → Option Bool) → Term → Option Bool
truth_at is_truth given t = or_else (given t) (computed is_truth given t)

-- ---- which terms are the same

abbrev pub all_same : (Term → Term → Bool) → Terms → Terms → Bool
all_same same no_terms no_terms = true
all_same same (terms s ss) (terms t ts) = same s t && all_same same ss ts
all_same same _ _ = false

-- an equivalence, by which applications of one head among these terms are the same where their arguments are
pub record IsSameness (ts : List Term) (same : Term → Term → Bool) : Type 0 where
  pub itself : (s : Term) → same s s ≡ true
  pub turned : (s t : Term) → same s t ≡ true → same t s ≡ true
  pub through : (s t u : Term) → same s t ≡ true → same t u ≡ true → same s u ≡ true
  pub congruent : (h : Head) (ss us : Terms) → is_among ts (term h ss) ≡ true → is_among ts (term h us) ≡ true → all_same same ss us ≡ true → same (term h ss) (term h us) ≡ true

-- terms are the same exactly where there is a derivation, from what was told, over what was added
pub record IsDecided (added : Term → Bool) (told : Term → Term → Bool) (same : Term → Term → Bool) : Type 0 where
  pub derived : (s t : Term) → same s t ≡ true → Joined (λ u. added u ≡ true) (λ u v. told u v ≡ true) s t
  pub found : (s t : Term) → Joined (λ u. added u ≡ true) (λ u v. told u v ≡ true) s t → same s t ≡ true

abbrev pub truth_term : Bool → Term
truth_term true = term True no_terms
truth_term false = term False no_terms

-- what is told joins and separates: a formula and its truth, and the sides of an equation; nothing that is separated is the same
pub record IsTold (questions atoms : List Term) (given : Term → Option Bool) (same : Term → Term → Bool) : Type 0 where
  pub truths : (t : Term) (b : Bool) → is_among questions t ≡ true → given t ≡ Some b → same t (truth_term b) ≡ true
  pub sides : (s t : Term) (b : Bool) → is_among atoms (equation s t) ≡ true → given (equation s t) ≡ Some b → same s t ≡ b
  pub apart : same (truth_term true) (truth_term false) ≡ false

-- what was told has the literals, over the subterms; nothing that they separate has a derivation, nor has TRUE with FALSE
pub record HasLiterals (subterms questions atoms : List Term) (given : Term → Option Bool) (added : Term → Bool) (told : Term → Term → Bool) : Type 0 where
  pub all_added : (t : Term) → is_among subterms t ≡ true → added t ≡ true
  pub truths : (t : Term) (b : Bool) → is_among questions t ≡ true → given t ≡ Some b → told t (truth_term b) ≡ true
  pub equal : (s t : Term) → is_among atoms (equation s t) ≡ true → given (equation s t) ≡ Some true → told s t ≡ true
  pub separate : (s t : Term) → is_among atoms (equation s t) ≡ true → given (equation s t) ≡ Some false → Joined (λ u. added u ≡ true) (λ u v. told u v ≡ true) s t → ⊥
  pub apart : Joined (λ u. added u ≡ true) (λ u v. told u v ≡ true) (truth_term true) (truth_term false) → ⊥

-- ---- numbers

-- what a term of sort Int is worth at a point
abbrev pub worth_at : (Term → Rational) → Term → Rational
worth_at point t = form_value point (form t)

abbrev pub is_met_by : (Term → Rational) → Option Reading → Bool
is_met_by point None = true
is_met_by point (Some r) = holds_at point r

-- whether what is read of a literal is true at a point; of an equation that is false nothing is read
abbrev pub is_met : (Term → Bool) → (Term → Rational) → Term → Bool
is_met is_number point t = is_met_by point (reading is_number t)

-- a point at which each relation that was told is true as it is read, the sides of an equation that is false are in one of their orders,
-- and the same terms have one value
pub record IsPoint (is_number : Term → Bool) (subterms atoms : List Term) (leaf : Leaf) : Type 0 where
  pub relations : (t : Term) (b : Bool) → is_among atoms t ≡ true → leaf.given t ≡ Some b → is_met is_number leaf.point (literal b t) ≡ true
  pub orders : (s t : Term) → is_among atoms (equation s t) ≡ true → leaf.given (equation s t) ≡ Some false → is_number s ≡ true
      → (is_met is_number leaf.point (below s t) || is_met is_number leaf.point (below t s)) ≡ true
  pub same : (s t : Term) → is_among subterms s ≡ true → is_among subterms t ≡ true → is_number s ≡ true → is_number t ≡ true → leaf.same s t ≡ true
      → worth_at leaf.point s ≡ worth_at leaf.point t

-- ---- the leaf

pub record IsLeaf (shapes : List Shape) (decls : List Decl) (fs : List Term) (leaf : Leaf) : Type 0 where
  pub formulas : (f : Term) → is_among fs f ≡ true → is_truth shapes decls f ≡ true
  -- each question has a truth
  pub full : (t : Term) → is_among (questions shapes decls fs) t ≡ true → is_some (leaf.given t) ≡ true
  -- none is opposite to what the others make of it
  pub agrees : (t : Term) → is_among (subterms fs) t ≡ true → clashes (is_truth shapes decls) leaf.given t ≡ false
  -- congruence acts on all but what is computed
  pub sameness : IsSameness (uncomputed (is_truth shapes decls) (subterms fs)) leaf.same
  pub told : IsTold (questions shapes decls fs) (atoms shapes decls fs) leaf.given leaf.same
  pub point : IsPoint (is_number shapes decls) (subterms fs) (atoms shapes decls fs) leaf
