-- What comes of opening a search for a proof of a condition.
use Rattle.std.specs.Prelude.{◌≡◌, ◌<◌, ℕ, Bool, List, [], map, length}
use Rattle.spv_logic.specs.declared.conditions.TermId.{TermId}
use Rattle.spv_term.specs.declared.nodes.Condition.{Condition}
use Rattle.spv_term.specs.Arena.{Arena, AllBelow, tree}
use Rattle.spv_proof_rules.specs.Stand.{question}
use Rattle.spv_search_terms.specs.condition_copy.Copies.{IsSameClaim}
use Rattle.spv_models.specs.leaf_models.Laws.{AreFormulas}
use Rattle.spv_models.specs.leaf_models.Subterms as parts
use Rattle.spv_models.specs.leaf_models.Subterms.{is_listed}
use Rattle.spv_models.specs.leaf_models.Tables.{formulas_of}
use Rattle.spv_search_terms.specs.declared.split_candidates.asking.Questions.{Questions}
use Rattle.spv_share.specs.declared.both.Both.{Both}
use Rattle.spv_share.specs.Both as share
use Rattle.spv_share.specs.Both.{IsBoth}
use Rattle.spv_share.specs.Relations.{AreNodes}
use Rattle.spv_models.specs.split_trees.Paths as search
use Rattle.spv_trail.specs.backtracking.Paths.{IsAskedOf, IsGround}
use Rattle.spv_trail.specs.trail_states.Laws.{IsOpenedFor}
use Rattle.spv_verdicts.specs.Verdicts.{Limits, HasTooManyTerms, HasWideForm}
use Rattle.spv_trail.specs.declared.search_setup.outcomes.Opened.{Opened}
use Rattle.spv_trail.specs.declared.search_setup.outcomes.Opening.{Opening}
use Rattle.spv_trail.specs.declared.search_setup.outcomes.Opening.TheVariants as opening

-- ---- a condition in another arena

-- it claims the same there, over the same types and symbols
pub record IsCopied (a : Arena) (c : Condition) (b : Arena) (d : Condition) : Type 0 where
  pub claim : IsSameClaim a c b d
  pub shapes : b.shapes ≡ a.shapes
  pub decls : b.decls ≡ a.decls

-- so it does, and a search for a proof of it has more terms than it may have
pub record HasTooMany (a : Arena) (c : Condition) (most : ℕ) (b : Arena) (d : Condition) : Type 0 where
  pub copy : IsCopied a c b d
  pub many : HasTooManyTerms (question b d) most most

-- so it does, and this term of the arena is an atom: a relation of whole numbers, one of whose forms does not fit
pub record HasWide (a : Arena) (c : Condition) (b : Arena) (d : Condition) (t : TermId) : Type 0 where
  pub copy : IsCopied a c b d
  pub within : t.0 < length b.nodes
  pub wide : HasWideForm (question b d) (tree b t)

-- ---- what a search asks

-- these are the subterms of a condition in order, and this is which of them a table lists
pub record AreSubterms (a : Arena) (c : Condition) (ids : List TermId) (flags : List Bool) : Type 0 where
  pub subterms : map (tree a) ids ≡ parts.subterms (formulas_of (question a c).sequent)
  pub subterms_in : AllBelow (length a.nodes) ids
  pub listed : flags ≡ map (λ t. is_listed (tree a t)) ids

-- these are its atoms, in order
pub record AreAtoms (a : Arena) (c : Condition) (ids : List TermId) : Type 0 where
  pub atoms : map (tree a) ids ≡ search.atoms (question a c)
  pub atoms_in : AllBelow (length a.nodes) ids

-- these are its questions, in order
pub record AreQuestions (a : Arena) (c : Condition) (ids : List TermId) : Type 0 where
  pub questions : map (tree a) ids ≡ search.questions (question a c)
  pub questions_in : AllBelow (length a.nodes) ids

-- these are its subterms, its atoms and its questions
pub record AreAsked (a : Arena) (c : Condition) (q : Questions) : Type 0 where
  pub subterms_are : AreSubterms a c q.subterms q.listed.items
  pub atoms_are : AreAtoms a c q.atoms.items
  pub questions_are : AreQuestions a c q.questions

-- ---- both sides

-- they were opened for the atoms of a condition and told nothing, each question is in the graph, and this is the limit of pivots
pub record AreSides (a : Arena) (c : Condition) (q : Questions) (most : ℕ) (b : Both) : Type 0 where
  pub opened : IsOpenedFor a c b q.atoms.items
  pub nodes : AreNodes b.trail.graph.nodes q.questions
  pub both : IsBoth a b
  pub untold : share.told b ≡ []
  pub pivots : b.standing.tableau.pivots ≡ most

-- ---- the answer

-- a search that was opened, whose checks make at most so many pivots
pub record IsOpened (a : Arena) (c : Condition) (most : ℕ) (o : Opened) : Type 0 where
  -- the condition
  pub claim : IsSameClaim a c o.terms o.condition
  pub shapes : o.terms.shapes ≡ a.shapes
  pub decls : o.terms.decls ≡ a.decls
  pub formulas : AreFormulas o.terms.shapes o.terms.decls (formulas_of (question o.terms o.condition).sequent)
  -- what is asked
  pub subterms : AreSubterms o.terms o.condition o.subterms o.listed.items
  pub ground : IsGround o.terms o.condition o.ground
  pub asked : IsAskedOf o.terms o.condition o.ground o.both
  -- both sides
  pub opened : IsOpenedFor o.terms o.condition o.both o.atoms.items
  pub both : IsBoth o.terms o.both
  pub untold : share.told o.both ≡ []
  pub pivots : o.both.standing.tableau.pivots ≡ most

-- what comes of opening a search within limits: it was opened, it has too many terms, or a form does not fit
abbrev pub IsOpening : Arena → Condition → Limits → Opening → Type 0
IsOpening a c limits (opening.Ready o) = IsOpened a c limits.pivots o
IsOpening a c limits (opening.Terms b d) = HasTooMany a c limits.terms b d
IsOpening a c limits (opening.Wide b d t) = HasWide a c b d t
