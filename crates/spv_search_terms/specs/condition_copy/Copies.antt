-- A condition in an arena of its own.
use Rattle.std.specs.Prelude.{◌≡◌, ℕ, ◌<◌, List, [], ◌∷◌, map, take, length, pos}
use Rattle.spv_logic.specs.declared.conditions.TermId.{TermId}
use Rattle.spv_logic.specs.declared.operators.Head.TheVariants.{Num, True, False}
use Rattle.spv_logic.specs.Terms.{Term, term, no_terms}
use Rattle.spv_logic.specs.Conditions.{Sequent}
use Rattle.spv_term.specs.declared.nodes.Condition.{Condition}
use Rattle.spv_term.specs.Arena.{Arena, AllBelow, tree, trees_of, sequent}
use Rattle.spv_atoms.specs.Atoms.{with_terms}
use Rattle.spv_models.specs.leaf_models.Subterms.{subterms}
use Rattle.spv_models.specs.leaf_models.Tables.{formulas_of}
use Rattle.spv_search_terms.specs.subterms.Flags.{beside}
use Rattle.spv_search_terms.specs.declared.condition_copy.filling.Base.{Base}
use Rattle.spv_search_terms.specs.declared.condition_copy.filling.Copied.{Copied}
use Rattle.spv_search_terms.specs.declared.condition_copy.filling.Filled.{Filled}

-- ---- the terms

-- 0, 1, TRUE and FALSE
abbrev pub base_terms : List Term
base_terms = term (Num (pos 0)) no_terms ∷ term (Num (pos 1)) no_terms ∷ term True no_terms ∷ term False no_terms ∷ []

-- these, and the different subterms of the condition
abbrev pub all_terms : Sequent → List Term
all_terms c = with_terms base_terms (subterms (formulas_of c))

-- an id stands for a term
pub record StandsFor (a : Arena) (t : TermId) (x : Term) : Type 0 where
  pub there : t.0 < length a.nodes
  pub is : tree a t ≡ x

pub record IsBase (a : Arena) (b : Base) : Type 0 where
  pub zero : StandsFor a b.zero (term (Num (pos 0)) no_terms)
  pub one : StandsFor a b.one (term (Num (pos 1)) no_terms)
  pub truth : StandsFor a b.truth (term True no_terms)
  pub falsity : StandsFor a b.falsity (term False no_terms)

-- ---- the copy

-- a condition of another arena: what it claims is the same, and so is where it comes from
pub record IsSameClaim (a : Arena) (c : Condition) (b : Arena) (d : Condition) : Type 0 where
  pub given_in : AllBelow (length b.nodes) d.given
  pub goal_in : d.goal.0 < length b.nodes
  pub claim : sequent b d ≡ sequent a c
  pub origin : d.origin ≡ c.origin

-- the arena has these terms, in this order, and no others
pub record IsCopy (a : Arena) (c : Condition) (limit : ℕ) (k : Copied) : Type 0 where
  pub terms : trees_of k.terms.nodes ≡ all_terms (sequent a c)
  pub condition : IsSameClaim a c k.terms k.condition
  pub base : IsBase k.terms k.base
  pub most : k.terms.most ≡ limit
  pub shapes : k.terms.shapes ≡ a.shapes
  pub decls : k.terms.decls ≡ a.decls

-- ---- on the way

pub record IsFilled (a : Arena) (c : Condition) (b : Arena) (f : Filled) : Type 0 where
  pub condition : IsSameClaim a c b f.condition
  pub base : IsBase b f.base

-- an arena without terms over the types and symbols of another one
pub record IsEmptyOver (a : Arena) (limit : ℕ) (b : Arena) : Type 0 where
  pub nodes : b.nodes ≡ []
  pub most : b.most ≡ limit
  pub shapes : b.shapes ≡ a.shapes
  pub decls : b.decls ≡ a.decls

-- the image beside an id; itself where none is
abbrev pub image_in : List TermId → List TermId → TermId → TermId
image_in ids images t = beside t ids images t

-- the images of the first ids: terms of the other arena with the same trees
pub record AreImages (a : Arena) (ids : List TermId) (b : Arena) (images : List TermId) (count : ℕ) : Type 0 where
  pub shapes : b.shapes ≡ a.shapes
  pub decls : b.decls ≡ a.decls
  pub trees : map (tree b) images ≡ map (tree a) (take count ids)
  pub in_range : AllBelow (length b.nodes) images
