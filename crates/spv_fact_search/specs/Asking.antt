-- A condition that is asked of a search, and one in an arena of its own.
use Rattle.std.specs.Prelude.{◌≡◌, ◌<◌, true, List, [], ◌∷◌, length}
use Rattle.spv_logic.specs.declared.conditions.TermId.{TermId}
use Rattle.spv_logic.specs.declared.types.Sort.TheVariants.{Int}
use Rattle.spv_term.specs.declared.nodes.Condition.{Condition}
use Rattle.spv_term.specs.Arena.{Arena, sort_at, tree}
use Rattle.spv_atoms.specs.Atoms.{is_truth}
use Rattle.spv_search_terms.specs.condition_copy.Copies.{IsSameClaim}

-- ---- terms that are there

abbrev pub IsTruthThere : Arena → TermId → Type 0
IsTruthThere a t = (t.0 < length a.nodes) × (is_truth a.shapes a.decls (tree a t) ≡ true)

abbrev pub IsNumberThere : Arena → TermId → Type 0
IsNumberThere a t = (t.0 < length a.nodes) × (sort_at a t ≡ Int)

abbrev pub AreTruthsThere : Arena → List TermId → Type 0
AreTruthsThere a [] = Unit {0}
AreTruthsThere a (t ∷ ts) = IsTruthThere a t × AreTruthsThere a ts

-- a term is there and of the sort of another one
abbrev pub HasSortOf : Arena → TermId → TermId → Type 0
HasSortOf a t own = (t.0 < length a.nodes) × (sort_at a t ≡ sort_at a own)

abbrev pub HaveSortsOf : Arena → List TermId → List TermId → Type 0
HaveSortsOf a [] [] = Unit {0}
HaveSortsOf a (t ∷ ts) (own ∷ owns) = HasSortOf a t own × HaveSortsOf a ts owns
HaveSortsOf a _ _ = ⊥

-- a search may be asked of this condition
pub record IsAsked (a : Arena) (c : Condition) : Type 0 where
  pub given : AreTruthsThere a c.given
  pub goal : IsTruthThere a c.goal

-- ---- a condition in an arena of its own

-- it claims, over the same types and symbols, what another one claims in its own
pub record IsOwn (a : Arena) (c : Condition) (b : Arena) (d : Condition) : Type 0 where
  pub claim : IsSameClaim a c b d
  pub shapes : b.shapes ≡ a.shapes
  pub decls : b.decls ≡ a.decls
