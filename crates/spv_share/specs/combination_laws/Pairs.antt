-- Relations that are enough for the values of equal terms to be equal.
use Rattle.std.specs.Prelude.{◌≡◌, ◌⊎◌, ℕ, Bool, true, false, ◌&&◌, ◌||◌, List, [], ◌∷◌, nat_eq, Some, slice_get}
use Rattle.spv_logic.specs.declared.conditions.TermId.{TermId}
use Rattle.spv_logic.specs.declared.operators.Head.TheVariants.{Eq}
use Rattle.spv_logic.specs.Terms.{Term}
use Rattle.spv_term.specs.Arena.{Arena, tree}
use Rattle.spv_congruence.specs.declared.facts.Fact.{Fact}
use Rattle.spv_congruence.specs.Keep.{IsNode}
use Rattle.spv_derivations.specs.declared.derivation.entries.Part.TheVariants.{True}
use Rattle.spv_derivations.specs.derivation.Derived.{is_number}
use Rattle.spv_derivations.specs.derivation.Literals.{Literal}
use Rattle.spv_derivations.specs.derivation.Sides.{Pair}
use Rattle.spv_explanations.specs.congruence_side.Telling.{equation_sides}
use Rattle.spv_share.specs.declared.relations.Related.{Related}
use Rattle.spv_share.specs.declared.both.Both.{Both}
use Rattle.spv_share.specs.Both.{told}
use Rattle.spv_models.specs.leaf_models.Atoms.{are_comparable}

-- the equality of two terms, the one way round or the other, is among relations
pub record HasEquality (a : Arena) (rels : List Related) (s t : Term) : Type 0 where
  pub row : ℕ
  pub relation : Related
  pub there : slice_get rels row ≡ Some relation
  pub equality : relation.head ≡ Eq
  pub sides : ((tree a relation.left ≡ s) × (tree a relation.right ≡ t)) ⊎ ((tree a relation.left ≡ t) × (tree a relation.right ≡ s))

pub record AreEnough (a : Arena) (b : Both) : Type 0 where
  -- each equation of whole numbers that was told is among the relations
  pub equations : (place : ℕ) (l : Literal) (st : Pair) → slice_get (told b) place ≡ Some l → l.part ≡ True → equation_sides a l.atom ≡ Some st → is_number a (tree a st.0) ≡ true
      → HasEquality a b.relations.items (tree a st.0) (tree a st.1)
  -- and so is the equality of each two terms of sort Int that are applications of one head to arguments of the same sorts, of which a table lists at least one
  pub pairs : (s t : TermId) → IsNode b.trail.graph.nodes s → IsNode b.trail.graph.nodes t → nat_eq s.0 t.0 ≡ false → is_number a (tree a s) ≡ true → are_comparable a.shapes a.decls (tree a s) (tree a t) ≡ true
      → HasEquality a b.relations.items (tree a s) (tree a t)

-- whether a fact among these is that two terms are equal
abbrev pub told_by : List Fact → TermId → TermId → Bool
told_by [] s t = false
told_by (x ∷ xs) s t = (x.equal && (nat_eq x.left.0 s.0 && nat_eq x.right.0 t.0)) || told_by xs s t
