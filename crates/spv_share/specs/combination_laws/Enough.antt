-- The atoms of a search are relations enough.
use Rattle.std.specs.Prelude.{◌≡◌, true, ℕ, ◌∷◌, List, map, Some, slice_get}
use Rattle.spv_logic.specs.declared.conditions.TermId.{TermId}
use Rattle.spv_logic.specs.Terms.{Term}
use Rattle.spv_term.specs.Arena.{Arena, IsArena, tree}
use Rattle.spv_derivations.specs.derivation.Literals.{Literal}
use Rattle.spv_models.specs.leaf_models.Subterms.{is_among}
use Rattle.spv_models.specs.leaf_models.Atoms.{atoms, questions}
use Rattle.spv_models.specs.leaf_models.Laws.{AreFormulas}
use Rattle.spv_share.specs.declared.both.Both.{Both}
use Rattle.spv_share.specs.Relations.{AreListed, AreParts}
use Rattle.spv_share.specs.Both.{IsBoth, told}
use Rattle.spv_share.specs.combination_laws.Pairs.{AreEnough}

-- both sides are over these terms: each that is a relation of whole numbers is among the relations, and nothing but parts of them, TRUE and FALSE was added
pub record IsOver (a : Arena) (b : Both) (ts : List TermId) : Type 0 where
  pub listed : AreListed a ts b.relations.items
  pub parts : AreParts a b.trail.graph.nodes (b.trail.truth ∷ b.trail.falsity ∷ ts)

-- these terms are the atoms of a search over formulas, and each literal was told of a question of it
pub record IsSearch (a : Arena) (b : Both) (ts : List TermId) (fs : List Term) : Type 0 where
  pub formulas : AreFormulas a.shapes a.decls fs
  pub atoms_in : (t : Term) → is_among (atoms a.shapes a.decls fs) t ≡ true → is_among (map (tree a) ts) t ≡ true
  pub atoms_only : (i : ℕ) (t : TermId) → slice_get ts i ≡ Some t → is_among (atoms a.shapes a.decls fs) (tree a t) ≡ true
  pub asked : (place : ℕ) (l : Literal) → slice_get (told b) place ≡ Some l → is_among (questions a.shapes a.decls fs) (tree a l.atom) ≡ true

abbrev pub SearchIsEnough : Type 0
SearchIsEnough = (a : Arena) → IsArena a → (b : Both) → IsBoth a b → (ts : List TermId) (fs : List Term) → IsOver a b ts → IsSearch a b ts fs → AreEnough a b
