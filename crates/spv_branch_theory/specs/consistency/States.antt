-- What a graph and a tableau that are open say of the terms of a search.
use Rattle.std.specs.Prelude.{◌≡◌, ◌⊎◌, ℕ, ◌<◌, Bool, true, false, ◌&&◌, ◌||◌, List, map, length, Option, Some, slice_get}
use Rattle.spv_logic.specs.declared.conditions.TermId.{TermId}
use Rattle.spv_logic.specs.declared.operators.Head.{Head}
use Rattle.spv_logic.specs.Formulas.{equation, below}
use Rattle.spv_logic.specs.Terms.{Term, term, no_terms, terms, term_eq}
use Rattle.spv_term.specs.Arena.{Arena, tree}
use Rattle.spv_congruence.specs.Graph.{label_of}
use Rattle.spv_derivations.specs.declared.derivation.entries.Part.{Part}
use Rattle.spv_derivations.specs.declared.derivation.entries.Part.TheVariants.{True, False, Below, Above}
use Rattle.spv_derivations.specs.derivation.Literals.{Literal}
use Rattle.spv_proof_rules.specs.Effects.{Question, is_number}
use Rattle.spv_tableau_rules.specs.constraints.Sayings.{literal}
use Rattle.spv_share.specs.declared.both.Both.{Both}
use Rattle.spv_share.specs.Both.{told}
use Rattle.spv_models.specs.leaf_models.Labels.{HasId, same_labels}
use Rattle.spv_models.specs.leaf_models.Subterms.{is_among, subterms}
use Rattle.spv_models.specs.split_trees.Paths.{atoms, questions, Known}

-- ---- which terms are the same

-- whether one of these ids stands for a tree
abbrev pub has_id : Arena → List TermId → Term → Bool
has_id a ids t = is_among (map (tree a) ids) t

-- whether two terms are the same: one tree, or trees of added ids of equal labels
abbrev pub same_in : Arena → Both → Term → Term → Bool
same_in a b s t =
    term_eq s t || (has_id a b.trail.graph.added s && (has_id a b.trail.graph.added t && same_labels a (label_of b.trail.graph.joins) b.trail.graph.added s t))

-- ---- what was told

-- a literal of a term was told
pub record IsToldAs (a : Arena) (b : Both) (t : Term) (part : Part) : Type 0 where
  pub place : ℕ
  pub told_one : Literal
  pub there : slice_get (told b) place ≡ Some told_one
  pub atom : tree a told_one.atom ≡ t
  pub part_is : told_one.part ≡ part

-- that it is false; or of an equation one of the orders of its sides
pub data IsDenied (a : Arena) (b : Both) (t : Term) : Type 0 where
  by_itself : IsToldAs a b t False → IsDenied a b t
  by_below : (x y : Term) → t ≡ equation x y → IsToldAs a b t Below → IsDenied a b t
  by_above : (x y : Term) → t ≡ equation x y → IsToldAs a b t Above → IsDenied a b t

-- each question that has a value was told with it
pub record AreTold (a : Arena) (b : Both) (q : Question) (value : Term → Option Bool) : Type 0 where
  pub affirmed : (t : Term) → is_among (questions q) t ≡ true → value t ≡ Some true → IsToldAs a b t True
  pub denied : (t : Term) → is_among (questions q) t ≡ true → value t ≡ Some false → IsDenied a b t

-- each subterm of the atoms was added
pub record HasAtoms (a : Arena) (b : Both) (q : Question) : Type 0 where
  pub each : (t : Term) → is_among (subterms (atoms q)) t ≡ true → HasId a b.trail.graph.added t

-- ---- relations

-- one of the orders of an equation was told, and is this
pub data IsOrderTold (a : Arena) (b : Both) (q : Question) : Term → Type 0 where
  below_it : (x y : Term) → is_among (atoms q) (equation x y) ≡ true → IsToldAs a b (equation x y) Below → IsOrderTold a b q (below x y)
  above_it : (x y : Term) → is_among (atoms q) (equation x y) ≡ true → IsToldAs a b (equation x y) Above → IsOrderTold a b q (below y x)

-- each relation of whole numbers that is known, or whose negation is, is an atom, or an order that was told
pub record AreRelated (a : Arena) (b : Both) (q : Question) (fs : List Term) : Type 0 where
  pub each : (h : Head) (x y : Term) (c : Bool) → is_number q x ≡ true → is_number q y ≡ true → Known q fs (literal c (term h (terms x (terms y no_terms))))
      → (is_among (atoms q) (term h (terms x (terms y no_terms))) ≡ true) ⊎ ((c ≡ true) × IsOrderTold a b q (term h (terms x (terms y no_terms))))
