-- The subterms, the atoms and the questions of a search as ids.
use Rattle.std.specs.Prelude.{◌≡◌, List, map, length}
use Rattle.std.specs.List.{flat_map}
use Rattle.spv_logic.specs.declared.conditions.TermId.{TermId}
use Rattle.spv_logic.specs.Terms.{Term}
use Rattle.spv_term.specs.declared.nodes.Condition.{Condition}
use Rattle.spv_term.specs.Arena.{Arena, AllBelow, tree, trees_of, sequent}
use Rattle.spv_atoms.specs.Atoms.{is_truth, with_terms}
use Rattle.spv_models.specs.leaf_models.Atoms as search
use Rattle.spv_models.specs.leaf_models.Atoms.{all_equations}
use Rattle.spv_models.specs.leaf_models.Subterms as parts
use Rattle.spv_models.specs.leaf_models.Subterms.{subterms, is_listed}
use Rattle.spv_models.specs.leaf_models.Tables.{formulas_of}
use Rattle.spv_search_terms.specs.head_index.Chains.{heads, AreChained}
use Rattle.spv_search_terms.specs.split_candidates.Adding.{asked_of}
use Rattle.spv_search_terms.specs.declared.split_candidates.asking.Questions.{Questions}
use Rattle.spv_search_terms.specs.declared.split_candidates.asking.Gathered.{Gathered}

abbrev pub formulas : Arena → Condition → List Term
formulas a c = formulas_of (sequent a c)

-- ---- the answer

-- the subterms, the atoms and the questions of a condition are these, in order; the arena has the equations more, and no other terms
pub record IsAsked (a : Arena) (c : Condition) (b : Arena) (q : Questions) : Type 0 where
  pub subterms : map (tree b) q.subterms ≡ subterms (formulas a c)
  pub subterms_in : AllBelow (length b.nodes) q.subterms
  pub listed : q.listed.items ≡ map (λ t. is_listed (tree b t)) q.subterms
  pub atoms : map (tree b) q.atoms.items ≡ search.atoms a.shapes a.decls (formulas a c)
  pub atoms_in : AllBelow (length b.nodes) q.atoms.items
  pub questions : map (tree b) q.questions ≡ search.questions a.shapes a.decls (formulas a c)
  pub questions_in : AllBelow (length b.nodes) q.questions
  pub terms : trees_of b.nodes ≡ with_terms (trees_of a.nodes) (all_equations a.shapes a.decls (parts.subterms (formulas a c)))

-- ---- on the way

pub record IsGathered (a : Arena) (c : Condition) (g : Gathered) : Type 0 where
  pub subterms : map (tree a) g.subterms ≡ subterms (formulas a c)
  pub in_range : AllBelow (length a.nodes) g.subterms
  pub listed : g.listed.items ≡ map (λ t. is_listed (tree a t)) g.subterms
  pub next : AreChained (heads a g.subterms) g.next.items

pub record AreEquated (a : Arena) (c : Condition) (b : Arena) (ids : List TermId) : Type 0 where
  pub atoms : map (tree b) ids ≡ search.atoms a.shapes a.decls (formulas a c)
  pub in_range : AllBelow (length b.nodes) ids
  pub terms : trees_of b.nodes ≡ with_terms (trees_of a.nodes) (all_equations a.shapes a.decls (subterms (formulas a c)))

pub record IsCompleted (b : Arena) (g : Gathered) (atoms : List TermId) (q : Questions) : Type 0 where
  pub subterms : q.subterms ≡ g.subterms
  pub listed : q.listed.items ≡ g.listed.items
  pub are_atoms : q.atoms.items ≡ atoms
  pub questions : map (tree b) q.questions ≡ with_terms (map (tree b) atoms) (flat_map (asked_of (is_truth b.shapes b.decls)) (map (tree b) g.subterms))
  pub in_range : AllBelow (length b.nodes) q.questions
